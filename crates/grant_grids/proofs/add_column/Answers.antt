use Prim.Native.Nat.{◌<◌}
use borrow.Author.Rules.{rules}
use lib.ListN.{set}
use mathlib.Core.Path.{◌≡◌, sym, ap, ◌∙◌, subst}
use native.Mathlib.Omega.{arith}
use Rattle.grant_grids.proofs.UpdateLaws.{column_so_far, Left, column-none, column-next, left-fewer, column-end, column_so_long}
use Rattle.role_record.specs.Cells.{grid_cells, grid_at}
use Rattle.sets.specs.MemberLaws.{least_in, less-less}
use Rattle.sets.specs.Sets.{bit, less_one}
use Rattle.sets.specs.Tests.{Is}
use Rattle.grant_grids.proofs.add_column.Goals as goal
use Rattle.grant_grids.proofs.add_column.Goals.{After-without_least-rest}

-- those left without the least
fewer : (c : After-without_least-rest) → c.without_least-rest.result ≡ less_one c.loop-rest.rest c.least.result
fewer c = c.without_least-rest.ensures ∙ ap (less_one c.loop-rest.rest) (sym c.least.ensures)

pub loop-rest-init : goal.loop-rest-init
loop-rest-init c =
    let a = c.args in
    (search rules, search rules, λ k b. b, column-none a.operations a.permissions.now a.role a.holding a.grid.now a.operation c.requires.3)

pub overflow_add-at : goal.overflow_add-at
overflow_add-at c =
    let user : (c.least.result < 64) × Is (bit c.loop-rest.rest c.least.result) = least_in c.loop-rest.rest c.loop-rest.invariant.1 _ c.least.ensures c.loop-rest-test.true in
    let within : grid_at c.least.result c.args.operation < grid_cells c.args.operations = let o = c.requires.1 in
    omega (arith, user.0, o) in
    let n = c.requires.2 in
    omega (arith, within, n)

pub offset_bounds-grid-at : goal.offset_bounds-grid-at
offset_bounds-grid-at c =
    let user : (c.least.result < 64) × Is (bit c.loop-rest.rest c.least.result) = least_in c.loop-rest.rest c.loop-rest.invariant.1 _ c.least.ensures c.loop-rest-test.true in
    let within : grid_at c.least.result c.args.operation < grid_cells c.args.operations = let o = c.requires.1 in
    omega (arith, user.0, o) in
    let n = c.requires.2 in
    omega (arith, within, n)

pub bounds-grid-at : goal.bounds-grid-at
bounds-grid-at c =
    let user : (c.least.result < 64) × Is (bit c.loop-rest.rest c.least.result) = least_in c.loop-rest.rest c.loop-rest.invariant.1 _ c.least.ensures c.loop-rest-test.true in
    let within : grid_at c.least.result c.args.operation < grid_cells c.args.operations = let o = c.requires.1 in
    omega (arith, user.0, o) in
    omega (arith, within, c.loop-rest.invariant.0)

pub offset_bounds-grid-at-in-loop-rest : goal.offset_bounds-grid-at-in-loop-rest
offset_bounds-grid-at-in-loop-rest c =
    let user : (c.least.result < 64) × Is (bit c.loop-rest.rest c.least.result) = least_in c.loop-rest.rest c.loop-rest.invariant.1 _ c.least.ensures c.loop-rest-test.true in
    let within : grid_at c.least.result c.args.operation < grid_cells c.args.operations = let o = c.requires.1 in
    omega (arith, user.0, o) in
    let n = c.requires.2 in
    omega (arith, within, n)

pub bounds-grid-at-in-loop-rest : goal.bounds-grid-at-in-loop-rest
bounds-grid-at-in-loop-rest c =
    let user : (c.least.result < 64) × Is (bit c.loop-rest.rest c.least.result) = least_in c.loop-rest.rest c.loop-rest.invariant.1 _ c.least.ensures c.loop-rest-test.true in
    let within : grid_at c.least.result c.args.operation < grid_cells c.args.operations = let o = c.requires.1 in
    omega (arith, user.0, o) in
    omega (arith, within, c.loop-rest.invariant.0)

pub loop-rest-smaller : goal.loop-rest-smaller
loop-rest-smaller c =
    let user : (c.least.result < 64) × Is (bit c.loop-rest.rest c.least.result) = least_in c.loop-rest.rest c.loop-rest.invariant.1 _ c.least.ensures c.loop-rest-test.true in
    let turn = c.loop-rest in
    omega (arith, less-less turn.rest turn.invariant.1 c.least.result user.1, fewer c)

pub loop-rest-preserved : goal.loop-rest-preserved
loop-rest-preserved c =
    let user : (c.least.result < 64) × Is (bit c.loop-rest.rest c.least.result) = least_in c.loop-rest.rest c.loop-rest.invariant.1 _ c.least.ensures c.loop-rest-test.true in
    let turn = c.loop-rest in
    let a = c.args in
    let l = less-less turn.rest turn.invariant.1 c.least.result user.1 in
    let low = turn.invariant.1 in
    let next : set turn.grid (grid_at c.least.result a.operation) c.union.result ≡ column_so_far a.operations a.permissions.now a.role a.holding a.grid.now a.operation c.without_least-rest.result =
    column-next a.operations a.permissions.now a.role a.holding a.grid.now a.operation turn.rest c.least.result c.union.result turn.grid c.requires.1 user.0 turn.invariant.1 turn.invariant.2 user.1 turn.invariant.3 c.union.ensures
    ∙ ap (column_so_far a.operations a.permissions.now a.role a.holding a.grid.now a.operation) (sym (fewer c)) in (
      column_so_long a.operations a.permissions.now a.role a.holding a.grid.now a.operation c.without_least-rest.result _ next,
      omega (arith, l, fewer c, low),
      subst (Left a.operations a.permissions.now a.role a.holding a.grid.now) (sym (fewer c)) (left-fewer a.operations a.permissions.now a.role a.holding a.grid.now turn.rest c.least.result turn.invariant.1 turn.invariant.2),
      next,
    )

pub returns : goal.returns
returns c =
    let a = c.args in
    column-end a.operations a.permissions.now a.role a.holding a.grid.now a.operation c.loop-rest.rest c.loop-rest.grid c.loop-rest.invariant.3 (omega arith)
