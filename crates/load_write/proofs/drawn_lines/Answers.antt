-- One run behind the other; what each has at most says how far the next begins. Assumes nothing.
use Prim.Native.Nat.{◌≤◌}
use native.Mathlib.Omega.{arith}
use Rattle.files.specs.Load.{times, role_run}
use Rattle.load_draws.specs.RunLaws.{ran_within}
use Rattle.load_draws.specs.Runs.{drawn_lines}
use Rattle.load_lines.specs.declared.Draws.TheVariants.{Values}
use Rattle.load_roles.specs.RoleRunLaws.{most-roles}
use Rattle.load_write.specs.LoadRunLaws.{ran_load, most_values}
use Rattle.load_write.proofs.drawn_lines.Goals as goal

pub draw_lines-b-requires : goal.draw_lines-b-requires
draw_lines-b-requires c =
    let users-within : c.draw_lines-a.result.at ≤ 1384 = let a = c.args in
    let b = c.requires.4 in
    let w = ran_within 384 (drawn_lines (Values 0) a.sizes.users) a.start c.draw_lines-a.result a.out.now _ (most_values 0 a.sizes.users c.requires.0) c.draw_lines-a.ensures in
    omega (arith, w, b) in
    let n = c.requires.1 in
    let w = users-within in
    (n, λ i h. (omega arith, omega (arith, n, h)), omega (arith, w))

pub role_lines-c-requires : goal.role_lines-c-requires
role_lines-c-requires c =
    let users-within : c.draw_lines-a.result.at ≤ 1384 = let a = c.args in
    let b = c.requires.4 in
    let w = ran_within 384 (drawn_lines (Values 0) a.sizes.users) a.start c.draw_lines-a.result a.out.now _ (most_values 0 a.sizes.users c.requires.0) c.draw_lines-a.ensures in
    omega (arith, w, b) in
    let resources-within : c.draw_lines-b.result.at ≤ 1768 = let n = c.args.sizes.resources in
    let b = users-within in
    let w = ran_within 384 (drawn_lines (Values 1) n) c.draw_lines-a.result c.draw_lines-b.result _ _ (most_values 1 n c.requires.1) c.draw_lines-b.ensures in
    omega (arith, w, b) in
    let w = resources-within in
    (c.requires.0, c.requires.1, c.requires.2, c.requires.3, omega (arith, w))

pub senior_lines-requires : goal.senior_lines-requires
senior_lines-requires c =
    let users-within : c.draw_lines-a.result.at ≤ 1384 = let a = c.args in
    let b = c.requires.4 in
    let w = ran_within 384 (drawn_lines (Values 0) a.sizes.users) a.start c.draw_lines-a.result a.out.now _ (most_values 0 a.sizes.users c.requires.0) c.draw_lines-a.ensures in
    omega (arith, w, b) in
    let resources-within : c.draw_lines-b.result.at ≤ 1768 = let n = c.args.sizes.resources in
    let b = users-within in
    let w = ran_within 384 (drawn_lines (Values 1) n) c.draw_lines-a.result c.draw_lines-b.result _ _ (most_values 1 n c.requires.1) c.draw_lines-b.ensures in
    omega (arith, w, b) in
    let roles-within : c.role_lines-c.result.at ≤ 210664 = let n = c.args.sizes in
    let b = resources-within in
    let w = ran_within 208896 (times n.roles (role_run n.users n.resources n.operations)) c.draw_lines-b.result c.role_lines-c.result _ _ (most-roles n.users n.resources n.operations n.roles c.requires.0 c.requires.1 c.requires.2 c.requires.3) c.role_lines-c.ensures in
    omega (arith, w, b) in
    let w = roles-within in (c.requires.3, omega (arith, w))

pub returns : goal.returns
returns c =
    let a = c.args in
    let p = c.draw_lines-a in
    let q = c.draw_lines-b in
    let s = c.role_lines-c in
    let t = c.senior_lines in
    ran_load a.sizes.users a.sizes.resources a.sizes.operations a.sizes.roles a.start p.result q.result s.result t.result a.out.now _ _ _ _ p.ensures q.ensures s.ensures t.ensures
