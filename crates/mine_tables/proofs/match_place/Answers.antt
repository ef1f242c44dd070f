use borrow.Author.Rules.{rules}
use mathlib.Core.Path.{refl}
use native.Mathlib.Omega.{arith}
use Rattle.sets.specs.LoopLaws.{turn-within}
use Rattle.grant_joins.specs.Tables.{value_count}
use Rattle.grant_joins.specs.LinkTurnLaws.{turns_next, turns-end, spread_keeps, number-most}
use Rattle.mine_tables.specs.Matching.{match_value, match_place}
use Rattle.mine_tables.specs.MatchingLaws.{match_turn}
use Rattle.mine_tables.proofs.match_place.Goals as goal

pub loop-k-init : goal.loop-k-init
loop-k-init c =
    let a = c.args in
    (search rules, number-most a.having.now a.place _ c.number-count.ensures, c.told-out, refl)

pub loop-k-preserved : goal.loop-k-preserved
loop-k-preserved c =
    let turn = c.loop-k in
    let a = c.args in
    let e = c.spread.ensures in (
      turn-within turn.k _ c.loop-k-test.true,
      turn.invariant.1,
      spread_keeps 896 a.place _ _ turn.out _ e turn.invariant.2,
      turns_next (match_value a.distinct.now a.having.now a.knowing.now a.kinds.now a.place) a.out.now turn.k turn.out _ turn.invariant.3
          (match_turn a.distinct.now a.having.now a.knowing.now a.kinds.now a.place turn.k _ _ _ turn.out _ turn.invariant.2 c.meet.ensures c.met_by.ensures c.meet-word.ensures e),
    )

pub returns : goal.returns
unfolding match_place
returns c =
    let end = c.loop-k in
    let a = c.args in
    turns-end (match_value a.distinct.now a.having.now a.knowing.now a.kinds.now a.place) a.out.now end.k (value_count a.having.now a.place) end.out end.invariant.3
    (let q = c.number-count.ensures in omega arith)
