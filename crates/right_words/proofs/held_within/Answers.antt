-- Assumes nothing.
use native.Mathlib.Omega.{arith}
use Rattle.right_words.specs.RightLaws.{held_in, held_out}
use Rattle.right_words.proofs.held_within.Goals as goal

pub returns-then-user-sizes : goal.returns-then-user-sizes
returns-then-user-sizes c =
    let a = c.args in
    held_in a.sizes a.holders.now a.user c.roles_of.result c.if-user-sizes.true c.roles_of.ensures

pub returns : goal.returns
returns c =
    let a = c.args in
    held_out a.sizes a.holders.now a.user (omega (arith, c.if-user-sizes.false))
