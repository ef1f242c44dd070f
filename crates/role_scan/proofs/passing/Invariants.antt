-- The invariant: the set has those of the last x whose values pass. Assumes nothing.
use Prim.Native.Nat.{ℕ, ◌+◌, ◌*◌, ◌≤◌}
use lib.ListN.{get_or}
use mathlib.Core.Bool.{Bool}
use mathlib.Core.List.{List}
use mathlib.Core.Path.{◌≡◌}
use Rattle.role_scan.specs.ShiftLaws.{last_of}
use Rattle.role_scan.proofs.passing.Given as goal

abbrev pub passes : (ℕ → Bool) → List ℕ → ℕ → ℕ → Bool
passes test values column x = test (get_or values (64 * column + x) 0)

abbrev pub invariant-loop-x : goal.invariant-loop-x
invariant-loop-x g l = (l.x ≤ 64) × (l.m ≡ last_of (passes (g.T.Test.test l.test) l.values l.column) l.x)
