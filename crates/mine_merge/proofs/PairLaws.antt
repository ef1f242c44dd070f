-- The tests of pairs by the words of scratch memory are those of the policy.
-- Assumes nothing.
use Rattle.std.specs.Prelude.{ℕ, ◌≤◌, ◌<◌, max, Bool, true, false, cond, ◌&&◌, List, ◌++◌, ◌≡◌}
use Rattle.std.proofs.Common.{lt-ltb, ◌∙◌, arith}
use Rattle.std.proofs.Math.Dec.{ltb}
use Rattle.std.proofs.Math.Path.{refl, ap, ap₂}
use Rattle.mine_theory.specs.Search.Frontier.{Groups, ok_at}
use Rattle.role_record.specs.Record.{Sized}
use Rattle.mine_merge.specs.Steps.{Paired}
use Rattle.mine_merge.specs.Traced.{Traced}
use Rattle.mine_search.specs.PartnerSearch.{joined_level, pair_at}
use Rattle.mine_pairs.specs.PairLevelLaws.{pair_level_in, groups_mean}
use Rattle.mine_pairs.specs.PairLevels.{pair_level}
use Rattle.policy.specs.Covering.{level_of}
use Rattle.policy.specs.Merging.{union, mergeable}
use Rattle.policy.specs.Policy.{Policy, setting_of}
use Rattle.policy.specs.Rules.{Setting, Block}
use Rattle.mine_parts.specs.Layout.{rest_at, level_in, words_at}
use Rattle.sets.specs.LowestLaws.{lowest-most}
use Rattle.sets.specs.TestLaws.{and_third}
use Rattle.sets.specs.Tests.{Is}
use Rattle.mine_groups.specs.Scratch.{blocks_of}
use Rattle.mine_theory.specs.Words.Words.{Words}

-- a level is no higher than 3
pub level-most : (P : Setting) (B : Block) → level_of P B ≤ 3
unfolding level_of
level-most P B = lowest-most _

-- a level below 4 is one
low-level : (b : Bool) (l : ℕ) → l ≤ 3 → ltb (cond b l 4) 4 ≡ b
low-level true l h = lt-ltb l 4 (omega arith)
low-level false l h = refl

-- the level of a pair depends on these words and levels alone
same-level : (links matches known attributes : List ℕ) (users resources operations : ℕ) {U W X Y : Words} {k l : ℕ} → U ≡ W → X ≡ Y → k ≡ l
    → pair_level links matches known attributes users resources operations U X k ≡ pair_level links matches known attributes users resources operations W Y l
same-level links matches known attributes users resources operations p q r = rw (p, q, r) refl

module _ (F : Policy) (Z : Sized F) (links matches known attributes : List ℕ) (users resources operations : ℕ) (T : Paired F links matches known attributes users resources operations) (parts : ℕ) (t : List ℕ) (s : Groups (List ℕ)) (S : Traced F parts t s) where
  policy-tables : (i j : ℕ) → joined_level links matches known attributes users resources operations t i j ≡ pair_level_in F (words_at t i) (words_at t j) (max (level_in (rest_at t i)) (level_in (rest_at t j)))
  unfolding joined_level
  policy-tables i j = rw (T.of-links, T.of_matches, T.of-known, T.of-attributes, T.of-users, T.of-resources, T.of-operations) refl

  -- the level of two groups together, where they may be joined
  pub level_means : (i j : ℕ) → i < parts → j < parts → Is (s.alive i) → Is (s.alive j)
      → joined_level links matches known attributes users resources operations t i j ≡ cond (mergeable (setting_of F) (blocks_of F) (s.group i) (s.group j)) (level_of (setting_of F) (union (setting_of F) (blocks_of F) (s.group i ++ s.group j))) 4
  level_means i j hi hj ai aj =
      policy-tables i j
      ∙ same-level _ _ _ _ _ _ _ (S.words i hi ai) (S.words j hj aj) (ap₂ max (S.level i hi ai) (S.level j hj aj))
      ∙ groups_mean F Z (blocks_of F) (s.group i) (s.group j) (S.filled i hi ai) (S.filled j hj aj) (S.fitting i hi ai) (S.fitting j hj aj)

  -- THE LAW of pairs
  pub pair_means : (i j : ℕ) → i < parts → j < parts → pair_at links matches known attributes users resources operations t i j ≡ ok_at (mergeable (setting_of F) (blocks_of F)) s i j
  unfolding pair_at ok_at
  pair_means i j hi hj =
      ap₂ (λ (a b : Bool). a && (b && ltb (joined_level links matches known attributes users resources operations t i j) 4)) (S.heads i hi) (S.heads j hj)
      ∙ and_third (s.alive i) (s.alive j) _ _ (λ ai aj. ap (λ (l : ℕ). ltb l 4) (level_means i j hi hj ai aj)
      ∙ low-level (mergeable (setting_of F) (blocks_of F) (s.group i) (s.group j)) (level_of (setting_of F) (union (setting_of F) (blocks_of F) (s.group i ++ s.group j))) (level-most (setting_of F) (union (setting_of F) (blocks_of F) (s.group i ++ s.group j))))
