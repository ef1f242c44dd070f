-- The invariant: the words before i have gone through the round, the others are as they were. Assumes nothing.
use Prim.Native.Nat.{ℕ, ◌≤◌, ◌<◌}
use lib.ListN.{length, get_or}
use mathlib.Core.Path.{◌≡◌}
use Rattle.role_seniority.specs.Closure.{passed_by}
use Rattle.role_seniority.proofs.pass.Given as goal

abbrev pub invariant-loop-i : goal.invariant-loop-i
invariant-loop-i l = (l.i ≤ 32) × (length l.t ≡ 32) × ((j : ℕ) → j < l.i → get_or l.t j 0 ≡ passed_by l.initial.t l.n j) × ((j : ℕ) → l.i ≤ j → get_or l.t j 0 ≡ get_or l.initial.t j 0)
