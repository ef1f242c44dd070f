-- The marks of heads in scratch memory: a bit for each part, 64 in a word.
-- Assumes nothing.
use Rattle.std.specs.Prelude.{ℕ, ◌/◌, ◌%◌, ◌<◌, eqb, ltb, leb, length, get_or, set, Bool, false, ◌&&◌, not, List, ◌≡◌}
use Rattle.mine_corners.specs.Pairing.{reaches}
use Rattle.mine_parts.specs.Layout.{most_parts, words_at, is_head_at}
use Rattle.sets.specs.Sets.{bit, mask_of}
use Rattle.sets.specs.Tests.{Is}

-- the words for as many marks as there may be parts
abbrev pub mark_words : ℕ
mark_words = most_parts / 64

-- part k is marked: bit k % 64 of word k / 64
abbrev pub is_marked : List ℕ → ℕ → Bool
is_marked marks k = bit (get_or marks (k / 64) 0) (k % 64)

-- part j without its mark
abbrev pub unmarked : List ℕ → ℕ → List ℕ
unmarked marks j = set marks (j / 64) (mask_of 64 (λ k. bit (get_or marks (j / 64) 0) k && not (eqb k (j % 64))))

-- part k is in the window: from `first` on and before `end`
abbrev pub in_window : ℕ → ℕ → ℕ → Bool
in_window first end k = leb first k && ltb k end

-- it is the head of a group as well
abbrev pub is_head_of : ℕ → ℕ → List ℕ → ℕ → Bool
is_head_of first end t k = in_window first end k && is_head_at t k

-- the heads in the window are marked, and nothing else
pub record Marked (first end : ℕ) (marks t : List ℕ) : Type 0 where
  pub long : length marks ≡ mark_words
  pub right : (k : ℕ) → is_marked marks k ≡ is_head_of first end t k

-- no part from `end` on is marked
abbrev pub MarkedBelow : ℕ → List ℕ → Type 0
MarkedBelow end marks = (k : ℕ) → Is (is_marked marks k) → k < end

-- heads in the window are marked, and among them all that reach the group of part c
pub record Open (first end : ℕ) (marks t : List ℕ) (c : ℕ) : Type 0 where
  pub long : length marks ≡ mark_words
  pub heads : (k : ℕ) → Is (is_marked marks k) → Is (is_head_of first end t k)
  pub far : (k : ℕ) → (k ≡ c → ⊥) → Is (is_head_of first end t k) → is_marked marks k ≡ false → reaches (words_at t k) (words_at t c) ≡ false
