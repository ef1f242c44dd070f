-- The invariant: there are no differences just if the words of the operations before o are the same. Assumes nothing.
use Prim.Native.Nat.{ℕ, ◌≤◌}
use lib.ListN.{get_or}
use mathlib.Core.List.{List}
use Rattle.grant_grids.proofs.GridLaws.{Alike}
use Rattle.role_record.specs.Cells.{grid_at}
use Rattle.grant_differences.proofs.agree.Given as goal

abbrev pub word : List ℕ → ℕ → ℕ → ℕ
word t u o = get_or t (grid_at u o) 0

abbrev pub invariant-loop-o : goal.invariant-loop-o
invariant-loop-o l = (l.o ≤ l.operations) × Alike (word l.a l.user) (word l.b l.user) l.differences l.o
