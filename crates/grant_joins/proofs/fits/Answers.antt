-- Assumes nothing.
use mathlib.Core.Path.{refl}
use Rattle.policy.proofs.RuleLaws.{set_in_set, single_in_set, no_form, single_is_single}
use Rattle.grant_joins.proofs.fits.Goals as goal

pub returns-then-right : goal.returns-then-right
returns-then-right c =
    let a = c.args in
    set_in_set a.left a.right a.v a.w c.if-left.true c.if-right.true c.within.ensures

pub returns-then-left : goal.returns-then-left
returns-then-left c =
    let a = c.args in
    single_in_set a.left a.right a.v a.w c.if-left.true c.if-right.false c.ranges.v.fits c.has.ensures

pub returns-then-right-2 : goal.returns-then-right-2
returns-then-right-2 c =
    let a = c.args in
    no_form a.left a.right a.v a.w c.if-left.false c.if-right-2.true

pub returns : goal.returns
returns c =
    let a = c.args in
    single_is_single a.left a.right a.v a.w c.if-left.false c.if-right-2.false refl
