-- The invariant: the rows are joined at those of the rule's operations that are before o. Assumes nothing.
use Prim.Native.Nat.{◌≤◌}
use lib.ListN.{length}
use mathlib.Core.Path.{◌≡◌}
use Rattle.grant_blocks.specs.RowsLaws.{rows_so_far}
use Rattle.role_record.specs.Cells.{grid_cells}
use Rattle.grant_blocks.proofs.add_rows.Given as goal

abbrev pub invariant-loop-o : goal.invariant-loop-o
invariant-loop-o l = (l.o ≤ l.operations) × (length l.grid ≡ grid_cells l.operations) × (l.grid ≡ rows_so_far l.operations l.rows l.acts l.initial.grid l.o)
