use borrow.Author.Count.{below_none}
use borrow.Author.Rules.{rules}
use mathlib.Core.Path.{refl}
use native.Mathlib.Omega.{arith}
use Rattle.sets.specs.LoopLaws.{store_next}
use Rattle.write_roles.proofs.clear_roles.Goals as goal

pub loop-i-init : goal.loop-i-init
loop-i-init c = (search rules, search rules, below_none _)

pub loop-i-preserved : goal.loop-i-preserved
loop-i-preserved c =
    let turn = c.loop-i in
    (search rules, search rules, store_next turn.out turn.i 0 (λ j. 0) turn.invariant.2 refl (omega (arith, c.loop-i-test.true, turn.invariant.1, c.requires)))

pub returns : goal.returns
returns c =
    let end = c.loop-i in
    λ j l. end.invariant.2 j (omega (arith, c.loop-i-test.false))
