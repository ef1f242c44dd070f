-- The third demand, of a rule file's bytes beside the role file that they were mined from.
-- Assumes nothing.
use Rattle.std.specs.Prelude.{ℕ, ◌+◌, ◌≤◌, ◌<◌, max, length, get_or, ◌||◌, List, [], ◌∷◌, map, ◌≡◌}
use Rattle.files.specs.Answer.{accepted}
use Rattle.files.specs.Beside.{Beside}
use Rattle.files.specs.Calls.{Counts, rules_grant, parts_grant}
use Rattle.files.specs.RuleFile.{Lines, levels_in, rule_in, listings, lines_of, read_rules}
use Rattle.policy.specs.Cost.{rule_cost}
use Rattle.policy.specs.Covering.{cover, level_of}
use Rattle.policy.specs.Merging.{low_part}
use Rattle.policy.specs.Mined.{part_count, mined_groups, merge_count, rule_of}
use Rattle.policy.specs.Roles.{Roles, roles_grant}
use Rattle.policy.specs.Rules.{Setting, Rule, grants, rule_level, of_section, Triple, Same, struck}
use Rattle.policy.specs.Thinning.{thinned}
use Rattle.policy.specs.declared.Weights.{Weights}
use Rattle.sets.specs.Sorted.{Ascending}
use Rattle.sets.specs.Tests.{Is, ◌is_in◌, sum}

-- W bytes for a set of operations; merging is with these cuts, over both stages (request 11); the cost is by these
-- weights; B is what the role file states
module _ (W : ℕ) (cuts : List ℕ) (weights : Weights) (B : Beside) where
  abbrev pub P : Setting
  P = B.setting

  abbrev pub R : Roles
  R = B.roles

  pub record Demand3 (bytes : List ℕ) (c : Counts) : Type 0 where
    -- "read like any rule file beside their role file; the reader accepts them"
    pub rules : List Lines
    pub taken : read_rules W B bytes ≡ accepted rules
    -- the rules written grant a triple exactly when the roles do
    pub same : (u r o : ℕ) → Triple P u r o → rules_grant P rules u r o ≡ roles_grant P R u r o
    -- every part is listed under exactly one rule
    pub once : (p : ℕ) → p < part_count P R → listings P R rules p ≡ 1
    -- and a rule grants exactly what its parts do
    pub exact : (ls : Lines) → ls is_in rules → Same P (grants P (rule_in P ls)) (parts_grant P R ls)
    -- each is a rule of 01's section
    pub proper : (ls : Lines) → ls is_in rules → Is (of_section P (rule_in P ls))
    -- no rule of a lower level could grant the same
    pub lowest : (ls : Lines) → ls is_in rules → (ρ : Rule) → Is (of_section P ρ) → rule_level P ρ < rule_level P (rule_in P ls)
        → Same P (grants P ρ) (grants P (rule_in P ls)) → ⊥
    -- for no two written rules could a single rule, of a level no higher than the higher of theirs, grant exactly what both grant together
    pub apart : (i j : ℕ) → i < j → j < length rules → (ρ : Rule) → Is (of_section P ρ)
        → rule_level P ρ ≤ max (rule_level P (rule_in P (get_or rules i []))) (rule_level P (rule_in P (get_or rules j [])))
        → Same P (grants P ρ) (λ u r o. grants P (rule_in P (get_or rules i [])) u r o || grants P (rule_in P (get_or rules j [])) u r o) → ⊥
    -- striking any one conjunct or atom would change its rule's grants
    pub needed : (ls : Lines) → ls is_in rules → (i : ℕ) → i < length (rule_in P ls).conds
        → Same P (grants P (struck i (rule_in P ls))) (grants P (rule_in P ls)) → ⊥
    -- every rule is the covering rule of its parts at its level, thinned; its level is that of its parts' union
    pub covering : (ls : Lines) → ls is_in rules → rule_in P ls
        ≡ thinned P (parts_grant P R ls) (cover P (parts_grant P R ls) (rule_level P (rule_in P ls)))
    pub levelled : (ls : Lines) → ls is_in rules → rule_level P (rule_in P ls) ≡ level_of P (parts_grant P R ls)
    -- request 9: and it is the level written in the rule, "exactly once"
    pub stated : (ls : Lines) → ls is_in rules → levels_in ls ≡ rule_level P (rule_in P ls) ∷ []
    -- the rules are those of the groups that merging leaves, in their order, and list the groups' parts
    pub grouped : rules ≡ map (λ g. lines_of P R (rule_of P R g) g) (mined_groups P R cuts)
    pub ordered : Ascending (low_part (part_count P R)) (mined_groups P R cuts)
    -- parts = rules + merges
    pub counted : c.parts ≡ c.rules + c.merges
    -- and what is counted: bytes, parts of the role file, rules and merges made, the cost of the rules as written
    pub sized : c.size ≡ length bytes
    pub parted : c.parts ≡ part_count P R
    pub ruled : c.rules ≡ length rules
    pub merged : c.merges ≡ merge_count P R cuts
    pub costed : c.cost ≡ sum (λ ls. rule_cost P weights (rule_in P ls)) rules
