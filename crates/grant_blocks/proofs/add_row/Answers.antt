use Prim.Native.Nat.{◌+◌}
use borrow.Author.Rules.{rules}
use native.Mathlib.Omega.{arith}
use Rattle.grant_blocks.specs.Rows.{with_row}
use Rattle.grant_blocks.specs.RowsLaws.{word_with_row, one-operation}
use Rattle.grant_grids.proofs.UpdateLaws.{span_none, span-next, span-long}
use Rattle.role_record.specs.Cells.{grid_cells}
use Rattle.sets.specs.LoopLaws.{turn-within}
use Rattle.grant_blocks.proofs.add_row.Goals as goal

pub loop-u-init : goal.loop-u-init
loop-u-init c =
    let a = c.args in
    (search rules, search rules, span_none (grid_cells a.operations) (with_row a.rows.now) a.grid.now (grid_cells a.operation) (search rules))

pub loop-u-preserved : goal.loop-u-preserved
loop-u-preserved c =
    let a = c.args in
    let turn = c.loop-u in
    let within = c.loop-u-test.true in
    let o = c.requires.0 in
    let next = span-next (grid_cells a.operations) (with_row a.rows.now) a.grid.now (grid_cells a.operation) turn.u turn.grid c.union.result (omega (arith, within, o)) turn.invariant.2
    (word_with_row a.rows.now turn.u a.operation _ _ within c.union.ensures) in (
      turn-within turn.u 64 within,
      span-long (grid_cells a.operations) (with_row a.rows.now) a.grid.now (grid_cells a.operation) (turn.u + 1) _ next,
      next,
    )

pub returns : goal.returns
returns c =
    let a = c.args in
    one-operation a.operations a.operation c.loop-u.u a.rows.now a.grid.now c.loop-u.grid c.loop-u.invariant.2 (omega arith)
