-- Mining without cuts, as 01 has it: groups merge over all parts at once. Mining with an empty list of cuts is held against
-- it (request 11, OrdinaryLaws); no call rests on it.
-- Assumes nothing.
use Rattle.std.specs.Prelude.{ℕ, leb, length, drop, List, ◌++◌, map}
use Rattle.files.specs.Answer.{Answer, unless, and_then, small_scratch, short_output, refused, accepted}
use Rattle.files.specs.Beside.{shape_of}
use Rattle.files.specs.Calls.{Counts, least_scratch}
use Rattle.files.specs.RoleFile.{read_roles}
use Rattle.files.specs.RuleFile.{lines_of, encode_file}
use Rattle.policy.specs.Cost.{rule_cost}
use Rattle.policy.specs.Merging.{groups, merges_made}
use Rattle.policy.specs.Mined.{part_count, part_block, rule_of}
use Rattle.policy.specs.Policy.{Policy, setting_of, roles_in}
use Rattle.policy.specs.Roles.{Roles}
use Rattle.policy.specs.Rules.{Setting}
use Rattle.policy.specs.declared.Weights.{Weights}
use Rattle.sets.specs.Tests.{sum}

-- the groups that 01's merging leaves, and how many merges it made
unfoldable pub ordinary_groups : Setting → Roles → List (List ℕ)
ordinary_groups P R = groups P (part_block P R) (part_count P R)

unfoldable pub ordinary_merges : Setting → Roles → ℕ
ordinary_merges P R = merges_made P (part_block P R) (part_count P R)

module _ (W : ℕ) where
  module _ (F : Policy) where
    -- the rule file that a policy is mined to, and the counts that go with it
    unfoldable pub ordinary_bytes : List ℕ
    ordinary_bytes =
        let P = setting_of F in
        let R = roles_in F in
        encode_file W (shape_of F) (map (λ g. lines_of P R (rule_of P R g) g) (ordinary_groups P R))

    unfoldable pub ordinary_counts : Weights → Counts
    ordinary_counts weights = record {
      size = length ordinary_bytes;
      parts = part_count (setting_of F) (roles_in F);
      rules = length (ordinary_groups (setting_of F) (roles_in F));
      merges = ordinary_merges (setting_of F) (roles_in F);
      cost = sum (λ g. rule_cost (setting_of F) weights (rule_of (setting_of F) (roles_in F) g)) (ordinary_groups (setting_of F) (roles_in F));
    }

  -- "8 scratch below 4,096 words of 64 bits; then 1 to 7; then 9 output shorter than the rule file", with request 13's 2,048
  unfoldable pub may_mine_ordinary : List ℕ → ℕ → ℕ → Answer Policy
  may_mine_ordinary file scratch room =
      unless (leb least_scratch scratch) small_scratch
      (and_then (read_roles W file) (λ F. unless (leb (length (ordinary_bytes F)) room) short_output (accepted F)))

  -- the answer, and the output memory afterwards
  unfoldable pub ordinary_answer : List ℕ → Weights → ℕ → ℕ → Answer Counts
  ordinary_answer file weights scratch room = and_then (may_mine_ordinary file scratch room) (λ F. accepted (ordinary_counts F weights))

  unfoldable pub ordinary_output : List ℕ → ℕ → List ℕ → List ℕ
  ordinary_output file scratch former =
      elim (may_mine_ordinary file scratch (length former))
      [ refused e ↦ former | accepted F ↦ ordinary_bytes F ++ drop (length (ordinary_bytes F)) former ]
