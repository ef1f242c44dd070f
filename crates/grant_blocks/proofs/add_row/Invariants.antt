-- The invariant: the words of the users before u are joined. Assumes nothing.
use Prim.Native.Nat.{◌≤◌}
use lib.ListN.{length}
use mathlib.Core.Path.{◌≡◌}
use Rattle.grant_blocks.specs.Rows.{with_row}
use Rattle.grant_grids.specs.Updates.{updated, span}
use Rattle.role_record.specs.Cells.{grid_cells}
use Rattle.grant_blocks.proofs.add_row.Given as goal

abbrev pub invariant-loop-u : goal.invariant-loop-u
invariant-loop-u l = (l.u ≤ 64) × (length l.grid ≡ grid_cells l.operations) × (l.grid ≡ updated (grid_cells l.operations) (span (grid_cells l.operation) l.u) (with_row l.rows) l.initial.grid)
