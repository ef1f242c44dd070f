-- The invariant: the words before this one mark the heads that reach. Assumes nothing.
use Prim.Native.Nat.{ℕ, ◌+◌, ◌*◌, ◌≤◌, ◌<◌}
use lib.ListN.{length, get_or}
use mathlib.Core.Bool.{◌&&◌}
use mathlib.Core.List.{List}
use mathlib.Core.Path.{◌≡◌}
use Rattle.mine_heads.specs.Heads.{mark_words}
use Rattle.mine_corners.specs.Pairing.{words_in, reaches}
use Rattle.sets.specs.Sets.{bit, mask_of}
use Rattle.mine_parts.specs.Layout.{words_at}
use Rattle.mine_theory.specs.Words.Words.{Words}
use Rattle.mine_heads.proofs.mark_open.Given as goal

abbrev pub reaching_of : List ℕ → List ℕ → Words → ℕ → ℕ
reaching_of scratch heads W word = mask_of 64 (λ k. bit (get_or heads word 0) k && reaches (words_at scratch (64 * word + k)) W)

abbrev pub invariant-loop-word : goal.invariant-loop-word
invariant-loop-word l = (l.word ≤ mark_words) × (length l.ready ≡ mark_words) × ((w : ℕ) → w < l.word → get_or l.ready w 0 ≡ reaching_of l.scratch l.heads (words_in l.g) w)
