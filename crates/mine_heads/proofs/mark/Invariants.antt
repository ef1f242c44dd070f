-- The invariant: the words before this one mark the heads. Assumes nothing.
use Prim.Native.Nat.{ℕ, ◌+◌, ◌*◌, ◌≤◌, ◌<◌}
use lib.ListN.{length, get_or}
use mathlib.Core.List.{List}
use mathlib.Core.Path.{◌≡◌}
use Rattle.sets.specs.Sets.{mask_of}
use Rattle.mine_heads.specs.Heads.{mark_words, is_head_of}
use Rattle.mine_heads.proofs.mark.Given as goal

abbrev pub heads_of : ℕ → ℕ → List ℕ → ℕ → ℕ
heads_of first end scratch word = mask_of 64 (λ k. is_head_of first end scratch (64 * word + k))

abbrev pub invariant-loop-word : goal.invariant-loop-word
invariant-loop-word l = (l.word ≤ mark_words) × (length l.heads ≡ mark_words) × ((w : ℕ) → w < l.word → get_or l.heads w 0 ≡ heads_of l.window.first l.window.end l.scratch w)
