use borrow.Author.Rules.{rules}
use mathlib.Core.Path.{ap, ◌∙◌}
use native.Mathlib.Omega.{arith}
use Rattle.grant_grids.specs.Grid.{in_grid, same_tables}
use Rattle.grant_grids.proofs.GridLaws.{no_users, no_resources, no_operations, operation-passed, resource-passed, user-passed, user-skipped, all-skipped, found_at, found_none}
use Rattle.grant_differences.proofs.first_difference.Goals as goal

pub returns-then-alike : goal.returns-then-alike
returns-then-alike c =
    let a = c.args in
    all-skipped a.a.now a.b.now a.users a.resources a.operations c.requires.0 (c.alike.ensures ∙ ap (same_tables a.a.now a.b.now) c.requires.2) c.if-alike.true

pub loop-u-init : goal.loop-u-init
loop-u-init c =
    let a = c.args in
    (search rules, no_users (in_grid a.a.now) (in_grid a.b.now) a.resources a.operations)

pub loop-u-preserved-then-agree : goal.loop-u-preserved-then-agree
loop-u-preserved-then-agree c =
    let a = c.args in
    let turn = c.loop-u in
    (search rules, user-skipped a.a.now a.b.now a.resources a.operations turn.u turn.invariant.1 c.agree.ensures c.if-agree.true)

pub loop-r-init : goal.loop-r-init
loop-r-init c =
    let a = c.args in
    (search rules, no_resources (in_grid a.a.now) (in_grid a.b.now) a.operations c.loop-u.u)

pub loop-o-init : goal.loop-o-init
loop-o-init c =
    let a = c.args in
    (search rules, no_operations (in_grid a.a.now) (in_grid a.b.now) c.loop-u.u c.loop-r.r)

pub loop-o-preserved : goal.loop-o-preserved
loop-o-preserved c =
    let a = c.args in
    let turn = c.loop-o in
    (search rules, operation-passed (in_grid a.a.now) (in_grid a.b.now) c.loop-u.u c.loop-r.r turn.o turn.invariant.1 c.differ_at.ensures c.if-differ_at.false)

pub loop-r-preserved : goal.loop-r-preserved
loop-r-preserved c =
    let a = c.args in
    (search rules, resource-passed (in_grid a.a.now) (in_grid a.b.now) a.operations c.loop-u.u c.loop-r.r c.loop-o.o c.loop-r.invariant.1 c.loop-o.invariant.1 (omega arith))

pub loop-u-preserved : goal.loop-u-preserved
loop-u-preserved c =
    let a = c.args in
    (search rules, user-passed (in_grid a.a.now) (in_grid a.b.now) a.resources a.operations c.loop-u.u c.loop-r.r c.loop-u.invariant.1 c.loop-r.invariant.1 (omega arith))

pub returns-then-differ_at : goal.returns-then-differ_at
returns-then-differ_at c =
    let a = c.args in
    let turn = c.loop-o in
    found_at a.a.now a.b.now a.users a.resources a.operations c.loop-u.u c.loop-r.r turn.o (omega arith) (omega arith) (omega arith) c.loop-u.invariant.1 c.loop-r.invariant.1 turn.invariant.1
    c.differ_at.ensures c.if-differ_at.true

pub returns-after-loop-u : goal.returns-after-loop-u
returns-after-loop-u c =
    let a = c.args in
    found_none a.a.now a.b.now a.users a.resources a.operations c.loop-u.u c.loop-u.invariant.1 (omega arith)

pub triples-init : goal.triples-init
triples-init c = tt
