-- The level of two groups together, and of one, from the tables.
-- Assumes nothing.
use Rattle.std.specs.Prelude.{ℕ, suc, ◌+◌, ◌*◌, get_or, Bool, cond, ◌&&◌, List}
use Rattle.grant_grids.specs.Grid.{difference_of, is_same}
use Rattle.mine_matches.specs.Matches.{met_of, passing_of}
use Rattle.policy.specs.Rules.{own_at, user, resource}
use Rattle.sets.specs.Lowest.{lowest}
use Rattle.sets.specs.Sets.{bit, mask_of}
use Rattle.sets.specs.Tests.{any, up_to}
use Rattle.mine_theory.specs.Words.Words.{Words, joined}
use Rattle.mine_corners.specs.Pairing.{first_beyond, may_join}

-- the lowest level that passes a test, if one does up to a limit; else 4
unfoldable pub level_within : (ℕ → Bool) → ℕ → ℕ
level_within f limit = cond (any f (up_to (suc limit))) (lowest f) 4

-- who passes with the 255 of a side, if that is asked for, of those who pass without
unfoldable pub with_own : List ℕ → ℕ → Bool → ℕ → ℕ → ℕ
with_own matches side own members passing = cond own (mask_of 64 (λ k. bit passing k && bit (met_of matches (7 * side + 6) members) k)) passing

-- links, who meets whose values, who knows which attribute, how many attributes each side has; users, resources, operations
module _ (links matches known attributes : List ℕ) (us rs os : ℕ) where
  -- two groups together fit a level
  unfoldable pub tables_fit : Words → Words → ℕ → Bool
  tables_fit W X l =
      is_same (difference_of (first_beyond links W X
      (passing_of matches known (get_or attributes 0 0) 0 (own_at user l) (joined W X).users us)
      (passing_of matches known (get_or attributes 1 0) 1 (own_at resource l) (joined W X).resources rs)
      us rs os))

  -- the level of two groups together, if they fit one up to a limit; else 4
  unfoldable pub pair_level : Words → Words → ℕ → ℕ
  pair_level W X limit = cond (may_join links W X) (level_within (tables_fit W X) limit) 4

  -- the level of a group
  unfoldable pub group_level : Words → ℕ
  group_level W = lowest (tables_fit W W)
