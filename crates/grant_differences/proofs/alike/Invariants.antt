-- The invariant: there are no differences just if the words before i are the same. Assumes nothing.
use Prim.Native.Nat.{ℕ, ◌≤◌}
use lib.ListN.{get_or, length}
use mathlib.Core.List.{List}
use Rattle.grant_grids.proofs.GridLaws.{Alike}
use Rattle.grant_differences.proofs.alike.Given as goal

abbrev pub word : List ℕ → ℕ → ℕ
word t i = get_or t i 0

abbrev pub invariant-loop-i : goal.invariant-loop-i
invariant-loop-i l = (l.i ≤ length l.a) × Alike (word l.a) (word l.b) l.differences l.i
