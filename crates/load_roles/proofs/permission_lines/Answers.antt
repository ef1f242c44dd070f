use Prim.Native.Nat.{◌*◌}
use borrow.Author.Rules.{rules}
use native.Mathlib.Omega.{arith}
use Rattle.files.specs.Load.{times, resource_run, permit_run}
use Rattle.load_draws.specs.RunLaws.{ran_none, ran_next, ran_end, ran_length, ran_within, most-times}
use Rattle.load_roles.specs.RoleRunLaws.{ran_operations, most-resource}
use Rattle.load_roles.proofs.permission_lines.Goals as goal

pub loop-resource-init : goal.loop-resource-init
loop-resource-init c = let a = c.args in (search rules, ran_none (resource_run a.operations a.role) a.start a.out.now)

pub draw_lines-d-requires : goal.draw_lines-d-requires
draw_lines-d-requires c =
    let a = c.args in
    let l = c.loop-resource in
    let t = c.loop-resource-test.true in
    let w = ran_within (96 * l.resource) (times l.resource (resource_run a.operations a.role)) a.start l.d a.out.now l.out (most-times 96 l.resource (resource_run a.operations a.role) (λ i. most-resource a.operations a.role i c.requires.2)) l.invariant.1 in
    let k = c.requires.0 in
    let n = c.requires.1 in
    let o = c.requires.2 in
    let b = c.requires.3 in
    (omega (arith, o), λ i h. (omega (arith, k), omega (arith, t, n), omega (arith, o, h)), omega (arith, w, t, n, b))

pub loop-resource-preserved : goal.loop-resource-preserved
loop-resource-preserved c =
    let a = c.args in
    let l = c.loop-resource in
    (search rules, ran_next (resource_run a.operations a.role) l.resource a.start l.d _ a.out.now l.out _ l.invariant.1 (ran_operations a.operations a.role l.resource l.d _ l.out _ c.draw_lines-d.ensures))

pub shape_of-out : goal.shape_of-out
shape_of-out c =
    let a = c.args in
    let l = c.loop-resource in
    ran_length (times l.resource (resource_run a.operations a.role)) a.start l.d a.out.now l.out l.invariant.1

pub returns : goal.returns
unfolding permit_run
returns c =
    let a = c.args in
    let l = c.loop-resource in
    ran_end (resource_run a.operations a.role) l.resource a.resources a.start l.d a.out.now l.out (omega arith) l.invariant.1
