-- How the circle of Circles is sought: from its lowest role on, each time the least next role from which the rest is possible. The
-- search's own functions promise these; what a call promises does not rest on them, and CircleSearchLaws shows that they find the
-- same list. 02, request 3.
-- Assumes nothing.
use Rattle.std.specs.Prelude.{ℕ, zero, suc, ltb, Bool, cond, ◌&&◌, List, [], ◌∷◌}
use Rattle.sets.specs.Lowest.{lowest_from}
use Rattle.sets.specs.Sets.{mask_of}
use Rattle.sets.specs.Tests.{any, up_to}

-- lines among k roles
module _ (line : ℕ → ℕ → Bool) (k : ℕ) where
  -- from role x, through m roles above a, lines lead back to a
  abbrev pub leads_back : ℕ → ℕ → ℕ → Bool
  leads_back a zero x = line x a
  leads_back a (suc m) x = any (λ y. (ltb a y && line x y) && leads_back a m y) (up_to k)

  -- behind x, role y above a may stand, and m more behind it
  abbrev pub may_follow : ℕ → ℕ → ℕ → ℕ → Bool
  may_follow a m x y = (ltb a y && line x y) && leads_back a m y

  -- those that may, as a set, and the least of them; k if there is none
  unfoldable pub followers : ℕ → ℕ → ℕ → ℕ
  followers a m x = mask_of k (may_follow a m x)

  abbrev pub least_next : ℕ → ℕ → ℕ → ℕ
  least_next a m x = lowest_from (may_follow a m x) 0 k

  -- m roles behind x, each the least that may stand there
  abbrev pub way_back : ℕ → ℕ → ℕ → List ℕ
  way_back a zero x = []
  way_back a (suc m) x = let y = least_next a m x in y ∷ way_back a m y

  -- the circle with the lowest role a and m more
  abbrev pub circle_at : ℕ → ℕ → List ℕ
  circle_at a m = a ∷ way_back a m a

  -- some role leads back to itself through m roles above it
  abbrev pub some_back : ℕ → Bool
  some_back m = any (λ a. leads_back a m a) (up_to k)

  -- the lowest role that does, and the fewest roles beside it with which one does; k if there is none
  abbrev pub lowest_back : ℕ → ℕ
  lowest_back m = lowest_from (λ a. leads_back a m a) 0 k

  abbrev pub fewest_back : ℕ
  fewest_back = lowest_from some_back 0 k

  -- the list that the search finds
  unfoldable pub sought_circle : List ℕ
  sought_circle = cond (ltb fewest_back k) (circle_at (lowest_back fewest_back) fewest_back) []
