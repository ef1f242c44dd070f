use Prim.Native.Nat.{◌*◌}
use borrow.Author.Rules.{rules}
use native.Mathlib.Omega.{arith}
use Rattle.files.specs.Load.{times, role_run}
use Rattle.load_draws.specs.RunLaws.{ran_none, ran_next, ran_end, ran_length, ran_within, most-times}
use Rattle.load_roles.specs.RoleRunLaws.{most-role}
use Rattle.load_roles.proofs.role_lines.Goals as goal

pub loop-role-init : goal.loop-role-init
loop-role-init c =
    let a = c.args in
    (search rules, ran_none (role_run a.users a.resources a.operations) a.start a.out.now)

pub lines_of-d-requires : goal.lines_of-d-requires
lines_of-d-requires c =
    let a = c.args in
    let l = c.loop-role in
    let t = c.loop-role-test.true in
    let f = role_run a.users a.resources a.operations in
    let w = ran_within (6528 * l.role) (times l.role f) a.start l.d a.out.now l.out (most-times 6528 l.role f (λ i. most-role a.users a.resources a.operations i c.requires.0 c.requires.1 c.requires.2)) l.invariant.1 in
    let n = c.requires.3 in
    let b = c.requires.4 in
    (omega (arith, t, n), c.requires.0, c.requires.1, c.requires.2, omega (arith, w, t, n, b))

pub loop-role-preserved : goal.loop-role-preserved
loop-role-preserved c =
    let a = c.args in
    let l = c.loop-role in
    (search rules, ran_next (role_run a.users a.resources a.operations) l.role a.start l.d _ a.out.now l.out _ l.invariant.1 c.lines_of-d.ensures)

pub shape_of-out : goal.shape_of-out
shape_of-out c =
    let a = c.args in
    let l = c.loop-role in
    ran_length (times l.role (role_run a.users a.resources a.operations)) a.start l.d a.out.now l.out l.invariant.1

pub returns : goal.returns
returns c =
    let a = c.args in
    let l = c.loop-role in
    ran_end (role_run a.users a.resources a.operations) l.role a.roles a.start l.d a.out.now l.out (omega arith) l.invariant.1
