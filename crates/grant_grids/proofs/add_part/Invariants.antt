-- The invariant: the words of the operations before o are joined. Assumes nothing.
use Prim.Native.Nat.{◌≤◌}
use lib.ListN.{length}
use mathlib.Core.Path.{◌≡◌}
use Rattle.grant_grids.proofs.UpdateLaws.{part_so_far}
use Rattle.role_record.specs.Cells.{grid_cells}
use Rattle.grant_grids.proofs.add_part.Given as goal

abbrev pub invariant-loop-o : goal.invariant-loop-o
invariant-loop-o l = (l.o ≤ l.operations) × (length l.grid ≡ grid_cells l.operations) × (l.grid ≡ part_so_far l.operations l.permissions l.role l.holding l.initial.grid l.class l.o)
