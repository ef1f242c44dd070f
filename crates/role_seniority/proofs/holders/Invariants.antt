-- The invariant: the words before k are right. Assumes nothing.
use Prim.Native.Nat.{ℕ, ◌≤◌, ◌<◌}
use lib.ListN.{length, get_or}
use mathlib.Core.Path.{◌≡◌}
use Rattle.role_seniority.specs.Closure.{held_by}
use Rattle.role_seniority.proofs.holders.Given as goal

abbrev pub invariant-loop-k : goal.invariant-loop-k
invariant-loop-k l = (l.k ≤ 32) × (length l.out ≡ 32) × ((j : ℕ) → j < l.k → get_or l.out j 0 ≡ held_by l.assigned (get_or l.assigned j 0) (get_or l.seniors j 0) l.roles)
