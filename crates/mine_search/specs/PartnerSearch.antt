-- Which heads may be joined, by the words of scratch memory, and what the search for the first has found out.
-- Assumes nothing.
use Rattle.std.specs.Prelude.{ℕ, ◌+◌, ◌≤◌, ◌<◌, max, min, eqb, ltb, Bool, true, false, cond, ◌&&◌, List, ◌⊎◌, ◌≡◌}
use Rattle.mine_matches.specs.Matches.{SidesMet}
use Rattle.mine_heads.specs.Heads.{is_marked}
use Rattle.mine_pairs.specs.PairLevels.{pair_level}
use Rattle.mine_corners.specs.Pairing.{reaches}
use Rattle.mine_parts.specs.Layout.{users_at, resources_at, rest_at, level_in, words_at, is_head_at}
use Rattle.mine_theory.specs.Words.Words.{Words}

-- ---- which heads may be joined

module _ (links matches known attributes : List ℕ) (users resources operations : ℕ) where
  -- the level of two heads' groups together, no higher than the higher of theirs; else 4
  unfoldable pub joined_level : List ℕ → ℕ → ℕ → ℕ
  joined_level t i j = pair_level links matches known attributes users resources operations (words_at t i) (words_at t j) (max (level_in (rest_at t i)) (level_in (rest_at t j)))

  -- both are heads of groups that may be joined
  unfoldable pub pair_at : List ℕ → ℕ → ℕ → Bool
  pair_at t i j = is_head_at t i && (is_head_at t j && ltb (joined_level t i j) 4)

  -- the level of c's group together with another's, the earlier head first; else 4
  unfoldable pub partner_level : List ℕ → ℕ → ℕ → ℕ
  partner_level t c k = cond (eqb k c) 4 (joined_level t (min c k) (max c k))

  -- both are heads of groups that may be joined
  unfoldable pub partner_at : List ℕ → ℕ → ℕ → Bool
  partner_at t c k = is_head_at t c && (is_head_at t k && ltb (partner_level t c k) 4)

-- the table has who meets the values of the members of c's group
abbrev pub GroupMet : (matches t : List ℕ) (c : ℕ) (met : List ℕ) → Type 0
GroupMet matches t c met = SidesMet matches (users_at t c) (resources_at t c) met

-- none from a on below b passes; r is the first that does, or `end`
abbrev pub NoneIn : (ℕ → Bool) → ℕ → ℕ → Type 0
NoneIn f a b = (k : ℕ) → a ≤ k → k < b → f k ≡ false

abbrev pub FirstIn : ℕ → (ℕ → Bool) → ℕ → ℕ → ℕ → Type 0
FirstIn end f a b r = ((r ≡ end) × NoneIn f a b) ⊎ ((a ≤ r) × (r < b) × (f r ≡ true) × NoneIn f a r)

-- the first head of a window to be joined with c: one before it, or else one behind it; the end if there is none
abbrev pub Partner : ℕ → ℕ → (ℕ → ℕ → Bool) → ℕ → ℕ → Type 0
Partner first end pair c r =
    ((r ≡ end) × NoneIn (λ i. pair i c) first c × NoneIn (pair c) (c + 1) end)
    ⊎ (((first ≤ r) × (r < c) × (pair r c ≡ true) × NoneIn (λ i. pair i c) first r)
    ⊎ ((c < r) × (r < end) × (pair c r ≡ true) × NoneIn (λ i. pair i c) first c × NoneIn (pair c) (c + 1) r))

module _ (end : ℕ) (links matches known attributes : List ℕ) (users resources operations : ℕ) where
  -- the head is the first from `from` on and before `end` to be joined with c, or `end`, and the level is that of both
  pub record Finds (t : List ℕ) (c from head level : ℕ) : Type 0 where
    pub first : FirstIn end (partner_at links matches known attributes users resources operations t c) from end head
    pub leveled : head < end → level ≡ partner_level links matches known attributes users resources operations t c head

-- the words of part k say nothing plain against a join with these
abbrev pub near_at : List ℕ → Words → ℕ → Bool
near_at t W k = reaches W (words_at t k) && reaches (words_at t k) W

-- part k is marked, and its words are near these
abbrev pub near_head : List ℕ → List ℕ → Words → ℕ → Bool
near_head marks t W k = is_marked marks k && near_at t W k
