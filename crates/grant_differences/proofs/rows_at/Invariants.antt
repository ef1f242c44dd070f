-- The invariant: there are no differences just if the words of the users before u are the rows. Assumes nothing.
use Prim.Native.Nat.{ℕ, ◌≤◌}
use lib.ListN.{get_or}
use mathlib.Core.List.{List}
use Rattle.grant_grids.proofs.GridLaws.{Alike}
use Rattle.role_record.specs.Cells.{grid_at}
use Rattle.grant_differences.proofs.rows_at.Given as goal

abbrev pub row : List ℕ → ℕ → ℕ
row t u = get_or t u 0

abbrev pub word : List ℕ → ℕ → ℕ → ℕ
word t o u = get_or t (grid_at u o) 0

abbrev pub invariant-loop-u : goal.invariant-loop-u
invariant-loop-u l = (l.u ≤ 64) × Alike (row l.rows) (word l.grid l.operation) l.differences l.u
