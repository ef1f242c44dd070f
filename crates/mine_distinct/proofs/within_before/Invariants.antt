-- The invariant: who has one of the sets before l that are strictly within. Assumes nothing.
use Prim.Native.Nat.{ℕ, ◌+◌, ◌*◌, ◌≤◌}
use lib.ListN.{get_or}
use mathlib.Core.Bool.{Bool}
use mathlib.Core.List.{List}
use mathlib.Core.Path.{◌≡◌}
use Rattle.policy.specs.Thinning.{strictly}
use Rattle.sets.specs.Sets.{joining, subset, mask_of}
use Rattle.mine_distinct.proofs.within_before.Given as goal

abbrev pub within : List ℕ → ℕ → ℕ → ℕ → Bool
within distinct place number l = strictly subset (get_or distinct (64 * place + l) 0) (get_or distinct (64 * place + number) 0)

abbrev pub who : List ℕ → ℕ → ℕ → ℕ
who having place l = get_or having (64 * place + l) 0

abbrev pub invariant-loop-l : goal.invariant-loop-l
invariant-loop-l l = (l.l ≤ l.number) × (l.m ≡ mask_of 64 (joining 0 (within l.distinct l.place l.number) (who l.having l.place) l.l))
