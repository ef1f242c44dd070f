-- The search for the shortest circle with words as sets of roles.
-- Assumes nothing.
use Rattle.std.specs.Prelude.{ℕ, ◌+◌, ◌≤◌, ◌<◌, ltb, get_or, Bool, ◌&&◌, not, List, [], ◌≡◌}
use Rattle.policy.specs.Circles.{circle_in}
use Rattle.policy.specs.CircleSearch.{leads_back, circle_at}
use Rattle.sets.specs.Sets.{bit, mask_of}
use Rattle.sets.specs.Tests.{Is}

-- role y is a senior of role x by a line: the table has a set of roles for each role
abbrev pub line_in : List ℕ → ℕ → ℕ → Bool
line_in lines x y = bit (get_or lines x 0) y

-- the roles that have a line from x, are above a, and are in a set
unfoldable pub next_in : List ℕ → ℕ → ℕ → ℕ → ℕ
next_in lines a back x = mask_of 64 (λ y. bit (mask_of 64 (λ z. bit (get_or lines x 0) z && bit back z)) y && not (bit (mask_of 64 (λ z. ltb z (a + 1))) y))

-- the roles, of k, from which lines lead back to a through m roles above it
unfoldable pub back_word : List ℕ → ℕ → ℕ → ℕ → ℕ
back_word lines k a m = mask_of k (leads_back (line_in lines) k a m)

-- the circle of these lines has the lowest role a and m more; there is none if m is as many as there are roles
pub record IsShortest (lines : List ℕ) (k a m : ℕ) : Type 0 where
  pub found : m < k → circle_in (line_in lines) k ≡ circle_at (line_in lines) k a m
  pub lowest : m < k → a < k
  pub leads : m < k → Is (leads_back (line_in lines) k a m a)
  pub none : k ≤ m → circle_in (line_in lines) k ≡ []
