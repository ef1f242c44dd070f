-- The invariant: the words before a are joined, and the others are as they were. Assumes nothing.
use Prim.Native.Nat.{ℕ, ◌+◌, ◌*◌, ◌≤◌, ◌<◌}
use lib.ListN.{length, get_or}
use mathlib.Core.Bool.{◌||◌}
use mathlib.Core.List.{List}
use mathlib.Core.Path.{◌≡◌}
use Rattle.sets.specs.Sets.{bit, mask_of}
use Rattle.mine_widen.proofs.add_member.Given as goal

abbrev pub joined : List ℕ → ℕ → ℕ → List ℕ → ℕ → ℕ
joined matches side member met a = mask_of 64 (λ k. bit (get_or met a 0) k || bit (get_or matches (64 * (7 * side + a) + member) 0) k)

abbrev pub invariant-loop-a : goal.invariant-loop-a
invariant-loop-a l = (l.a ≤ 6) × (length l.met ≡ 6) × ((j : ℕ) → j < l.a → get_or l.met j 0 ≡ joined l.matches l.side l.member l.initial.met j) × ((j : ℕ) → l.a ≤ j → get_or l.met j 0 ≡ get_or l.initial.met j 0)
