-- The invariant: the set has the roles before x behind which one may stand. Assumes nothing.
use Prim.Native.Nat.{ℕ, ◌≤◌}
use lib.Dec.{eqb}
use mathlib.Core.Bool.{Bool, not}
use mathlib.Core.List.{List}
use mathlib.Core.Path.{◌≡◌}
use Rattle.role_circles.specs.BackWords.{next_in}
use Rattle.sets.specs.Sets.{mask_of}
use Rattle.role_circles.proofs.lead_by_one_more.Given as goal

abbrev pub leading : List ℕ → ℕ → ℕ → ℕ → Bool
leading lines low back x = not (eqb (next_in lines low back x) 0)

abbrev pub invariant-loop-x : goal.invariant-loop-x
invariant-loop-x l = (l.x ≤ l.roles) × (l.word ≡ mask_of l.x (leading l.lines l.low l.back))
