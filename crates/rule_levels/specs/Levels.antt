-- The level of a rule, read off its lines. 01, section "Rules".
-- Assumes nothing.
use Rattle.std.specs.Prelude.{ℕ, ltb, length, Bool, ◌&&◌, ◌||◌, not}
use Rattle.files.specs.RuleFile.{Lines, values_in}
use Rattle.policy.specs.Rules.{own, own_at, Which, Setting, user, resource}
use Rattle.sets.specs.Lowest.{lowest}

-- "A rule's level is the lowest that allows its conjuncts", by the two 255s: whether the rule lists roles, and resources by their numbers
unfoldable pub level_for : Bool → Bool → ℕ
level_for roles numbers = lowest (λ l. (not roles || own_at user l) && (not numbers || own_at resource l))

module _ (P : Setting) where
  -- a rule's lines list a value of the 255 of a side
  unfoldable pub lists_own : Lines → Which → Bool
  lists_own ls w = ltb 0 (length (values_in P ls w own))

  -- the level of the rule that the lines say
  unfoldable pub lines_level : Lines → ℕ
  lines_level ls = level_for (lists_own ls user) (lists_own ls resource)
