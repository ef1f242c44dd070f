-- The invariant: those who have one of the values before number l that pass are joined. Assumes nothing.
use Prim.Native.Nat.{ℕ, ◌+◌, ◌*◌, ◌≤◌}
use lib.ListN.{get_or}
use mathlib.Core.Bool.{Bool}
use mathlib.Core.List.{List}
use mathlib.Core.Path.{◌≡◌}
use Rattle.sets.specs.Sets.{joining, mask_of}
use Rattle.grant_joins.specs.Tables.{joins}
use Rattle.grant_joins.proofs.joined.Given as goal

abbrev pub passes : List ℕ → ℕ → Bool → Bool → Bool → ℕ → ℕ → Bool
passes distinct place left right turned v l = joins left right turned v (get_or distinct (64 * place + l) 0)

abbrev pub who : List ℕ → ℕ → ℕ → ℕ
who having place l = get_or having (64 * place + l) 0

abbrev pub invariant-loop-l : goal.invariant-loop-l
invariant-loop-l l = (l.l ≤ l.count) × (l.m ≡ mask_of 64 (joining 0 (passes l.distinct l.place l.left l.right l.turned l.v) (who l.having l.place) l.l))
