-- The invariant: no role before k grants it. Assumes nothing.
use Prim.Native.Nat.{ℕ, ◌≤◌}
use lib.ListN.{get_or}
use mathlib.Core.Bool.{Bool, false, ◌&&◌}
use mathlib.Core.List.{List}
use mathlib.Core.Path.{◌≡◌}
use Rattle.role_record.specs.Cells.{permission_at}
use Rattle.sets.specs.Sets.{bit}
use Rattle.sets.specs.Tests.{any, up_to}
use Rattle.role_question.proofs.granted.Given as goal

abbrev pub by-role : List ℕ → List ℕ → ℕ → ℕ → ℕ → ℕ → Bool
by-role h p u r o k = bit (get_or h k 0) u && bit (get_or p (permission_at k o) 0) r

abbrev pub invariant-loop-k : goal.invariant-loop-k
invariant-loop-k l = (l.k ≤ l.roles) × (any (by-role l.holders l.permissions l.user l.resource l.operation) (up_to l.k) ≡ false)
