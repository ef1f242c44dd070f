-- Groups by the number of their head, and what a search for the next pair to merge knows of them: which pairs were refused already.
-- Assumes nothing.
use Rattle.std.specs.Prelude.{ℕ, ◌<◌, eqb, leb, Bool, false, cond, ◌&&◌, not, List, map, ◌≡◌}
use Rattle.sets.specs.Tests.{keep, up_to}

-- each number may be the head of a group
pub record Groups (A : Type 0) : Type 0 where
  pub alive : ℕ → Bool
  pub group : ℕ → A

-- the groups whose heads are below n, by their heads
unfoldable pub groups_in : {A : Type 0} → ℕ → Groups A → List A
groups_in n s = map s.group (keep s.alive (up_to n))

-- the groups whose heads are from a number on
unfoldable pub within : {A : Type 0} → ℕ → Groups A → Groups A
within first s = record { alive = λ k. leb first k && s.alive k; group = s.group }

-- j's group joined to i's, and j a head no more
unfoldable pub joined_at : {A : Type 0} → (A → A → A) → Groups A → ℕ → ℕ → Groups A
joined_at join s i j = record { alive = λ k. s.alive k && not (eqb k j); group = λ k. cond (eqb k i) (join (s.group i) (s.group j)) (s.group k) }

module _ {A : Type 0} (ok : A → A → Bool) where
  -- both are heads of groups that may be joined
  unfoldable pub ok_at : Groups A → ℕ → ℕ → Bool
  ok_at s i j = s.alive i && (s.alive j && ok (s.group i) (s.group j))

  -- no head before c may take c's group in
  abbrev pub NoneBefore : Groups A → ℕ → Type 0
  NoneBefore s c = (i : ℕ) → i < c → ok_at s i c ≡ false

  module _ (n : ℕ) where
    -- c's group may take in none behind it
    abbrev pub NoneBehind : Groups A → ℕ → Type 0
    NoneBehind s c = (j : ℕ) → c < j → j < n → ok_at s c j ≡ false

    -- all pairs with the earlier head before `front` were refused, apart from those of c
    pub record Clean (s : Groups A) (c front : ℕ) : Type 0 where
      pub apart : (i j : ℕ) → i < j → j < n → i < front → (i ≡ c → ⊥) → (j ≡ c → ⊥) → ok_at s i j ≡ false
