-- The members of a set one after the other.
-- Assumes nothing.
use Rattle.std.specs.Prelude.{ℕ, ◌<◌, ◌≡◌, Option, MatchOption}
use Rattle.std.specs.Iterator.{Count, at_most}
use Rattle.sets.specs.Lowest.{lowest_from}
use Rattle.sets.specs.Sets.{bit, less_one}
use Rattle.sets.specs.Tests.{Is}
use Rattle.sets.specs.declared.Ascending.{Ascending}

-- the least of a set, and the set that is left
pub record IsLeastOf (m y left : ℕ) : Type 0 where
  pub below : y < 64
  pub member : Is (bit m y)
  pub least : y ≡ lowest_from (bit m) 0 64
  pub others : left ≡ less_one m y
  pub fewer : left < m

-- the least of those that are left comes, and the others are left; none comes where none is left
abbrev pub LeastComes : Ascending → Option ℕ → Ascending → Type 0
LeastComes s r t = MatchOption r ((s.rest ≡ 0) × (t.rest ≡ 0)) (λ y. IsLeastOf s.rest y t.rest)

-- a set without a member is a lower number
abbrev pub how_many : Ascending → Count
how_many s = at_most s.rest
