use borrow.Author.Count.{below_none}
use native.Mathlib.Omega.{arith}
use Rattle.write_kept.specs.Kept.{kept_head}
use Rattle.sets.specs.LoopLaws.{store_next}
use borrow.Author.Rules.{rules}
use Rattle.write_kept.proofs.kept_places.Goals as goal

pub loop-i-init : goal.loop-i-init
loop-i-init c = (search rules, search rules, below_none _)

pub loop-i-preserved : goal.loop-i-preserved
loop-i-preserved c =
    let a = c.args in
    let turn = c.loop-i in (
      search rules,
      search rules,
      store_next turn.out turn.i c.kept_head.result (kept_head a.links.now a.matches.now a.knowing.now a.attributes.now a.sizes.users a.sizes.resources a.sizes.operations a.scratch.now) turn.invariant.2 c.kept_head.ensures (omega arith),
    )

pub returns : goal.returns
returns c = λ j l. c.loop-i.invariant.2 j (omega (arith, c.loop-i-test.false))
