-- The invariant: with fewer than m roles the role does not lead back to itself. Assumes nothing.
use Prim.Native.Nat.{ℕ, ◌≤◌, ◌<◌}
use lib.ListN.{get_or}
use mathlib.Core.Bool.{false}
use mathlib.Core.Path.{◌≡◌}
use Rattle.sets.specs.Sets.{bit}
use Rattle.role_circles.proofs.fewest.Given as goal

abbrev pub invariant-loop-m : goal.invariant-loop-m
invariant-loop-m l = (l.m ≤ l.most) × ((j : ℕ) → j < l.m → bit (get_or l.back j 0) l.low ≡ false)
