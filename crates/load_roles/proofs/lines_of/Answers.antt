-- One run behind the other. Assumes nothing.
use native.Mathlib.Omega.{arith}
use Rattle.files.specs.Load.{assign_run, permit_run, role_run}
use Rattle.load_draws.specs.RunLaws.{ran_on, ran_within}
use Rattle.load_draws.specs.Runs.{drawn_lines}
use Rattle.load_lines.specs.declared.Draws.TheVariants.{Users}
use Rattle.load_roles.specs.RoleRunLaws.{ran_users, most_drawn}
use Rattle.load_roles.proofs.lines_of.Goals as goal

pub permission_lines-requires : goal.permission_lines-requires
permission_lines-requires c =
    let a = c.args in
    let k = c.draw_lines-d in
    let u = c.requires.1 in
    let b = c.requires.4 in
    let w = ran_within 384 (drawn_lines (Users a.role) a.users) a.start k.result a.out.now _ (most_drawn (Users a.role) a.users 384 (omega (arith, u))) k.ensures in
    (c.requires.0, c.requires.2, c.requires.3, omega (arith, w, b))

pub returns : goal.returns
unfolding role_run
returns c =
    let a = c.args in
    let k = c.draw_lines-d in
    let l = c.permission_lines in
    ran_on (assign_run a.users a.role) (permit_run a.resources a.operations a.role) a.start k.result l.result a.out.now _ _ (ran_users a.users a.role a.start k.result a.out.now _ k.ensures) l.ensures
