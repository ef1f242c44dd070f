use Prim.Native.Nat.{◌*◌, ◌-◌}
use borrow.Author.Rules.{rules}
use native.Mathlib.Omega.{arith}
use Rattle.files.specs.Load.{times, senior_run}
use Rattle.load_draws.specs.RunLaws.{ran_none, ran_next, ran_end, ran_length, ran_within, most-times}
use Rattle.load_roles.specs.RoleRunLaws.{ran_seniors, most-seniors}
use Rattle.load_roles.proofs.senior_lines.Goals as goal

pub loop-junior-init : goal.loop-junior-init
loop-junior-init c = let a = c.args in (search rules, ran_none (senior_run a.roles) a.start a.out.now)

pub draw_lines-d-requires : goal.draw_lines-d-requires
draw_lines-d-requires c =
    let a = c.args in
    let l = c.loop-junior in
    let t = c.loop-junior-test.true in
    let w = ran_within (192 * l.junior) (times l.junior (senior_run a.roles)) a.start l.d a.out.now l.out (most-times 192 l.junior (senior_run a.roles) (λ i. most-seniors a.roles i c.requires.0)) l.invariant.1 in
    let n = c.requires.0 in
    let b = c.requires.1 in
    (omega (arith, n), λ i h. (omega (arith, t, n), omega (arith, t, n, h)), omega (arith, w, t, n, b))

pub loop-junior-preserved : goal.loop-junior-preserved
loop-junior-preserved c =
    let a = c.args in
    let l = c.loop-junior in
    (search rules, ran_next (senior_run a.roles) l.junior a.start l.d _ a.out.now l.out _ l.invariant.1 (ran_seniors a.roles l.junior (a.roles - 1 - l.junior) l.d _ l.out _ (omega arith) c.draw_lines-d.ensures))

pub shape_of-out : goal.shape_of-out
shape_of-out c =
    let a = c.args in
    let l = c.loop-junior in
    ran_length (times l.junior (senior_run a.roles)) a.start l.d a.out.now l.out l.invariant.1

pub returns : goal.returns
returns c =
    let a = c.args in
    let l = c.loop-junior in
    ran_end (senior_run a.roles) l.junior a.roles a.start l.d a.out.now l.out (omega arith) l.invariant.1
