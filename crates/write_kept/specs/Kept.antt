-- Which conditions the rule of each group in scratch memory keeps.
-- Assumes nothing.
use Rattle.std.specs.Prelude.{ℕ, ◌<◌, get_or, cond, List, ◌≡◌}
use Rattle.mine_parts.specs.Layout.{rest_at, level_in, words_at, is_head_at}
use Rattle.mine_rows.specs.KeptPlaces.{kept_in}

-- the places that the rule of a head's group keeps
unfoldable pub kept_at : (links matches known attributes : List ℕ) → (users resources operations : ℕ) → List ℕ → ℕ → ℕ
kept_at links matches known attributes users resources operations t i = kept_in links matches known attributes users resources operations (words_at t i) (level_in (rest_at t i))

-- none where the part is no head
unfoldable pub kept_head : (links matches known attributes : List ℕ) → (users resources operations : ℕ) → List ℕ → ℕ → ℕ
kept_head links matches known attributes users resources operations t i = cond (is_head_at t i) (kept_at links matches known attributes users resources operations t i) 0

-- the table has those of so many parts
abbrev pub KeptTable : (links matches known attributes : List ℕ) → (users resources operations : ℕ) → ℕ → List ℕ → List ℕ → Type 0
KeptTable links matches known attributes users resources operations parts t kept = (i : ℕ) → i < parts → get_or kept i 0 ≡ kept_head links matches known attributes users resources operations t i
