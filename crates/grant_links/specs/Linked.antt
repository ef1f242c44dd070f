-- The resources that atoms leave a user, from the table of links: word 64 * atom + user has those that one atom joins with the user.
-- Assumes nothing.
use Rattle.std.specs.Prelude.{ℕ, ◌+◌, ◌*◌, get_or, cond, List}
use Rattle.sets.specs.Sets.{narrowing, bit, mask_of}

-- which of some resources all atoms join with a user
unfoldable pub linked_with : List ℕ → ℕ → ℕ → ℕ → ℕ
linked_with links atoms u among = mask_of 64 (narrowing among (bit atoms) (λ i. get_or links (64 * i + u) 0) 36)

-- the resources left to a user: none for one who is not among these users
unfoldable pub row_of : List ℕ → ℕ → ℕ → ℕ → ℕ → ℕ
row_of links atoms users resources u = cond (bit users u) (linked_with links atoms u resources) 0
