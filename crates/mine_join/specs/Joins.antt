-- What a join and the last pass over the heads leave of the words of scratch memory.
-- Assumes nothing.
use Rattle.std.specs.Prelude.{ℕ, ◌<◌, max, min, length, List, ◌≡◌}
use Rattle.mine_heads.specs.Heads.{Marked, Open}
use Rattle.mine_search.specs.PartnerSearch.{GroupMet}
use Rattle.mine_parts.specs.Layout.{rest_at, level_in, name_in, head_in, words_at, is_head_at, Kept, low_in}
use Rattle.sets.specs.Tests.{Is}
use Rattle.mine_theory.specs.Words.Words.{joined}

-- head i has the words of both groups, and the others theirs
pub record TakenIn (t u : List ℕ) (i j level : ℕ) : Type 0 where
  pub long : length u ≡ length t
  pub words : words_at u i ≡ joined (words_at t i) (words_at t j)
  pub level-set : level_in (rest_at u i) ≡ level
  pub name : name_in (rest_at u i) ≡ name_in (rest_at t i)
  pub head : head_in (rest_at u i) ≡ i
  pub others : (k : ℕ) → (k ≡ i → ⊥) → Kept t u k × (rest_at u k ≡ rest_at t k)

-- head i has the words of both groups, j names it, and the others are as they were; every part keeps its name
pub record Joined (t u : List ℕ) (i j level : ℕ) : Type 0 where
  pub long : length u ≡ length t
  pub words : words_at u i ≡ joined (words_at t i) (words_at t j)
  pub level-set : level_in (rest_at u i) ≡ level
  pub names : (k : ℕ) → name_in (rest_at u k) ≡ name_in (rest_at t k)
  pub head : head_in (rest_at u i) ≡ i
  pub named : head_in (rest_at u j) ≡ i
  pub kept : (k : ℕ) → (k ≡ i → ⊥) → Kept t u k
  pub others : (k : ℕ) → (k ≡ i → ⊥) → (k ≡ j → ⊥) → rest_at u k ≡ rest_at t k

-- of so many parts one that named itself still does, and one that named an earlier part now names what that one does
pub record Resolved (parts : ℕ) (t u : List ℕ) : Type 0 where
  pub long : length u ≡ length t
  pub kept : (k : ℕ) → Kept t u k
  pub low : (k : ℕ) → k < parts → low_in (rest_at u k) ≡ low_in (rest_at t k)
  pub own : (k : ℕ) → k < parts → head_in (rest_at t k) ≡ k → head_in (rest_at u k) ≡ k
  pub named : (k : ℕ) → k < parts → head_in (rest_at t k) < k → head_in (rest_at u k) ≡ head_in (rest_at u (head_in (rest_at t k)))

-- c and k, which may be joined: in order they are the head of a group and a later part
pub record Joinable (end : ℕ) (t : List ℕ) (c k level : ℕ) : Type 0 where
  pub order : min c k < max c k
  pub below : max c k < end
  pub low : level < 4
  pub head : Is (is_head_at t (min c k))

-- the marks, of the heads in a window, and the table are those of the group of c
pub record Prepared (first end : ℕ) (matches t heads ready met : List ℕ) (c : ℕ) : Type 0 where
  pub marks : Marked first end heads t
  pub group : GroupMet matches t c met
  pub reach : Open first end ready t c
