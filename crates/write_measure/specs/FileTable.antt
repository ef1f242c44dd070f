-- The bytes of a mined rule file and what is counted of it, read off the tables of the policy and the groups in scratch memory: the
-- form in which code works them out.
-- Assumes nothing.
use Rattle.std.specs.Prelude.{ℕ, length, get_or, cond, List, [], ◌∷◌, ◌++◌}
use Rattle.mine_groups.specs.Scratch.{all_parts}
use Rattle.write_cost.specs.CostSums.{no_sums, all_sums}
use Rattle.write_cost.specs.declared.Sums.{Sums}
use Rattle.write_theory.specs.RuleLists.{rule_sums_in}
use Rattle.write_theory.specs.RuleTable.{rule_bytes_in}
use Rattle.sets.specs.Tests.{keep, each, up_to}
use Rattle.mine_parts.specs.Layout.{is_head_at}
use Rattle.write_measure.specs.declared.Measured.{Measured}

-- what the cost of the rule of a head's group is made of that keeps these places; nothing where the part is no head
unfoldable pub sums_with : (distinct having inside kinds t : List ℕ) → (head kept : ℕ) → Sums
sums_with distinct having inside kinds t head kept = cond (is_head_at t head) (rule_sums_in distinct having inside kinds t head kept) no_sums

-- its bytes; none where the part is no head
unfoldable pub rule_with : (distinct having inside kinds permissions : List ℕ) → ℕ → (starts t : List ℕ) → (head kept : ℕ) → List ℕ
rule_with distinct having inside kinds permissions operations starts t head kept = cond (is_head_at t head) (rule_bytes_in distinct having inside kinds permissions operations starts t head kept) []

-- both by the table of the places that each rule keeps
abbrev pub sums_at : (kept distinct having inside kinds t : List ℕ) → ℕ → Sums
sums_at kept distinct having inside kinds t i = sums_with distinct having inside kinds t i (get_or kept i 0)

module _ (kept distinct having inside kinds permissions : List ℕ) (operations : ℕ) (starts t : List ℕ) where
  abbrev pub rule_at : ℕ → List ℕ
  rule_at i = rule_with distinct having inside kinds permissions operations starts t i (get_or kept i 0)

  -- the rule file: the rules in the order of their heads, and behind them 2F
  unfoldable pub file_bytes : List ℕ
  file_bytes = each rule_at (up_to (all_parts starts)) ++ (0x2F ∷ [])

  -- what is counted
  unfoldable pub measured_of : Measured
  measured_of = record {
    bytes = length file_bytes;
    rules = length (keep (is_head_at t) (up_to (all_parts starts)));
    sums = all_sums (sums_at kept distinct having inside kinds t) (up_to (all_parts starts));
  }
