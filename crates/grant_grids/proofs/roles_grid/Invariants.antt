-- The invariant: the grid is that of what the roles before k grant. Assumes nothing.
use Prim.Native.Nat.{◌≤◌}
use lib.ListN.{length}
use mathlib.Core.Path.{◌≡◌}
use Rattle.grant_grids.specs.Grid.{grid_of, granted_by}
use Rattle.role_record.specs.Cells.{grid_cells}
use Rattle.grant_grids.proofs.roles_grid.Given as goal

abbrev pub invariant-loop-k : goal.invariant-loop-k
invariant-loop-k l = (l.k ≤ l.roles) × (length l.out ≡ grid_cells l.operations) × (l.out ≡ grid_of l.operations (granted_by l.holders l.permissions l.k))
