use borrow.Author.Rules.{rules}
use lib.ListN.{length-set}
use mathlib.Core.Path.{◌≡◌, refl, sym, ◌∙◌}
use native.Mathlib.Omega.{arith}
use Rattle.mine_fill.specs.FillLaws.{fill_begin, fill-role, fill_end, fill_most}
use Rattle.mine_fill.proofs.fill.Goals as goal

pub loop-role-init : goal.loop-role-init
loop-role-init c = let a = c.args in (search rules, refl, c.requires.4, fill_begin a.links.now a.matches.now a.knowing.now a.attributes.now a.holders.now a.permissions.now a.sizes.users a.sizes.resources a.sizes.operations a.scratch.now a.starts.now)

pub fill_role-n-requires : goal.fill_role-n-requires
fill_role-n-requires c =
    let l = c.loop-role in
    let a = c.args in
    let p = c.requires in
    let most = fill_most a.links.now a.matches.now a.knowing.now a.attributes.now a.holders.now a.permissions.now a.sizes.users a.sizes.resources a.sizes.operations p.0.2 l.invariant.3 in
    (p.0, p.1, p.2, c.loop-role-test.true, omega (arith, c.loop-role-test.true, p.3, most, l.invariant.1))

pub loop-role-preserved : goal.loop-role-preserved
loop-role-preserved c =
    let l = c.loop-role in
    let a = c.args in
    let t = c.loop-role-test.true in (
      search rules,
      c.fill_role-n.ensures.long ∙ l.invariant.1,
      length-set l.starts l.role l.n ∙ l.invariant.2,
      fill-role a.links.now a.matches.now a.knowing.now a.attributes.now a.holders.now a.permissions.now a.sizes.users a.sizes.resources a.sizes.operations (omega (arith, t, l.invariant.2)) l.invariant.3 c.fill_role-n.ensures,
    )

pub bounds-starts-role : goal.bounds-starts-role
bounds-starts-role c = omega (arith, c.loop-role.invariant.2, c.loop-role-test.true)

pub bounds-starts-32 : goal.bounds-starts-32
bounds-starts-32 c = omega (arith, c.loop-role.invariant.2)

pub shape_of-scratch : goal.shape_of-scratch
shape_of-scratch c = c.loop-role.invariant.1

pub shape_of-starts : goal.shape_of-starts
shape_of-starts c = let l = c.loop-role in length-set l.starts 32 l.n ∙ l.invariant.2 ∙ sym c.requires.4

pub returns : goal.returns
returns c =
    let l = c.loop-role in
    let a = c.args in
    let most = fill_most a.links.now a.matches.now a.knowing.now a.attributes.now a.holders.now a.permissions.now a.sizes.users a.sizes.resources a.sizes.operations c.requires.0.2 l.invariant.3 in
    let last : l.role ≡ 32 = omega (arith, l.invariant.0, c.loop-role-test.false) in
    let end = fill_end a.links.now a.matches.now a.knowing.now a.attributes.now a.holders.now a.permissions.now a.sizes.users a.sizes.resources a.sizes.operations last (omega (arith, l.invariant.2)) l.invariant.3 in
    (omega (arith, most, l.invariant.0), l.invariant.1, end.0, end.1, end.2)
