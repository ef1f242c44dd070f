use borrow.Author.Count.{below_none}
use native.Mathlib.Omega.{arith}
use Rattle.mine_matches.specs.Matches.{known_for}
use Rattle.mine_matches.specs.MatchTableLaws.{known-unique}
use Rattle.sets.specs.LoopLaws.{store_next}
use borrow.Author.Rules.{rules}
use Rattle.mine_matches.proofs.known_places.Goals as goal

pub loop-i-init : goal.loop-i-init
loop-i-init c = (search rules, search rules, below_none _)

pub loop-i-preserved : goal.loop-i-preserved
loop-i-preserved c =
    let a = c.args in
    let turn = c.loop-i in (
      search rules,
      search rules,
      store_next turn.out turn.i c.known_at.result (known_for a.users a.resources a.known.now) turn.invariant.2 c.known_at.ensures (omega arith),
    )

pub returns : goal.returns
returns c =
    let a = c.args in
    known-unique a.users a.resources a.known.now c.loop-i.out c.loop-i.invariant.1 (λ j l. c.loop-i.invariant.2 j (omega arith))
