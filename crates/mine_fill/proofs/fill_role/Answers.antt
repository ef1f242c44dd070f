use borrow.Author.Rules.{rules}
use native.Mathlib.Omega.{arith}
use Rattle.mine_fill.specs.FillLaws.{role-begin, role-most, role-end}
use Rattle.mine_fill.proofs.fill_role.Goals as goal

pub loop-lead-init : goal.loop-lead-init
loop-lead-init c = let a = c.args in (search rules, role-begin a.links.now a.matches.now a.knowing.now a.attributes.now a.holders.now a.permissions.now a.sizes.users a.sizes.resources a.sizes.operations a.scratch.now a.role a.first)

pub fill_part-n-requires : goal.fill_part-n-requires
fill_part-n-requires c =
    let l = c.loop-lead in
    let a = c.args in
    let p = c.requires in
    let most = role-most a.links.now a.matches.now a.knowing.now a.attributes.now a.holders.now a.permissions.now a.sizes.users a.sizes.resources a.sizes.operations l.invariant.1 in
    (p.0, p.1, p.2, p.3, omega (arith, c.loop-lead-test.true, p.0.2), omega (arith, c.loop-lead-test.true, p.0.2, p.4, most, l.invariant.1.long))

pub loop-lead-preserved : goal.loop-lead-preserved
loop-lead-preserved c =
    let l = c.loop-lead in
    (search rules, c.fill_part-n.ensures.1 _ _ l.invariant.1)

pub shape_of-scratch : goal.shape_of-scratch
shape_of-scratch c = c.loop-lead.invariant.1.long

pub returns : goal.returns
returns c = let a = c.args in role-end a.links.now a.matches.now a.knowing.now a.attributes.now a.holders.now a.permissions.now a.sizes.users a.sizes.resources a.sizes.operations (omega (arith, c.loop-lead.invariant.0, c.loop-lead-test.false)) c.loop-lead.invariant.1
