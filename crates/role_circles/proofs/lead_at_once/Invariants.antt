-- The invariant: the set has the roles before x that have a line to the role. Assumes nothing.
use Prim.Native.Nat.{ℕ, ◌≤◌}
use mathlib.Core.Bool.{Bool}
use mathlib.Core.List.{List}
use mathlib.Core.Path.{◌≡◌}
use Rattle.role_circles.specs.BackWords.{line_in}
use Rattle.sets.specs.Sets.{mask_of}
use Rattle.role_circles.proofs.lead_at_once.Given as goal

abbrev pub leading : List ℕ → ℕ → ℕ → Bool
leading lines low x = line_in lines x low

abbrev pub invariant-loop-x : goal.invariant-loop-x
invariant-loop-x l = (l.x ≤ l.roles) × (l.word ≡ mask_of l.x (leading l.lines l.low))
