-- The invariant: the words of those holders that are not left are joined. Those left fall. Assumes nothing.
use Prim.Native.Nat.{◌^◌, ◌<◌}
use lib.ListN.{length}
use mathlib.Core.Path.{◌≡◌}
use Rattle.grant_grids.proofs.UpdateLaws.{column_so_far, Left}
use Rattle.role_record.specs.Cells.{grid_cells}
use Rattle.grant_grids.proofs.add_column.Given as goal

abbrev pub invariant-loop-rest : goal.invariant-loop-rest
invariant-loop-rest l = (length l.grid ≡ grid_cells l.operations) × (l.rest < 2 ^ 64) × Left l.operations l.permissions l.role l.holding l.initial.grid l.rest × (l.grid ≡ column_so_far l.operations l.permissions l.role l.holding l.initial.grid l.operation l.rest)

abbrev pub decreases-loop-rest : goal.decreases-loop-rest
decreases-loop-rest l = l.rest
