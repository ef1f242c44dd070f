use Prim.Native.Nat.{◌/◌, ◌%◌}
use borrow.Author.Rules.{rules}
use mathlib.Core.Path.{refl}
use native.Mathlib.Omega.{arith}
use Rattle.sets.specs.LoopLaws.{turn-within}
use Rattle.grant_joins.specs.Tables.{link_value, looked_at, link_atom}
use Rattle.grant_joins.specs.LinkTurnLaws.{turns_next, turns-end, spread_keeps, looked-most, link-turn}
use Rattle.grant_tables.proofs.link_atom.Goals as goal

pub loop-k-init : goal.loop-k-init
loop-k-init c =
    let a = c.args in
    (search rules, looked-most a.having.now a.domains.now (a.atom / 6) (a.atom % 6) _ c.looked_at-count.ensures, c.told-out, refl)

pub loop-k-preserved : goal.loop-k-preserved
loop-k-preserved c =
    let turn = c.loop-k in
    let a = c.args in
    let e = c.spread.ensures in (
      turn-within turn.k _ c.loop-k-test.true,
      turn.invariant.1,
      spread_keeps 2304 a.atom _ _ turn.out _ e turn.invariant.2,
      turns_next (link_value a.distinct.now a.having.now a.kinds.now a.resources a.atom) a.out.now turn.k turn.out _ turn.invariant.3
          (link-turn a.distinct.now a.having.now a.kinds.now a.resources a.atom turn.k _ turn.out _ turn.invariant.2 c.linked_to-word.ensures e),
    )

pub returns : goal.returns
unfolding link_atom
returns c =
    let end = c.loop-k in
    let a = c.args in
    turns-end (link_value a.distinct.now a.having.now a.kinds.now a.resources a.atom) a.out.now end.k (looked_at a.having.now a.domains.now (a.atom / 6) (a.atom % 6)) end.out end.invariant.3
    (let q = c.looked_at-count.ensures in omega arith)
