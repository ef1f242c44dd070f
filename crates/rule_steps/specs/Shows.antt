-- What the numbers and tables kept while a rule file is read stand for.
-- Assumes nothing.
use Rattle.std.specs.Prelude.{ℕ, length, ◌&&◌, List, [], ◌∷◌, ◌++◌, ◌≡◌, Some, None, Option as Found}
use Rattle.std.proofs.Math.Option.{Option, none, some}
use Rattle.rule_conjuncts.specs.Summary.{met_table, asked_places, atom_places}
use Rattle.files.specs.Beside.{beside_of}
use Rattle.files.specs.Calls.{is_triple, rules_grant, parts_grant, first_stray_rule}
use Rattle.files.specs.RuleFile.{Lines, is_part_line, is_level, operations_in}
use Rattle.grant_grids.specs.Grid.{grid_of}
use Rattle.rule_listings.specs.Listed.{seen_table, again_table}
use Rattle.policy.specs.Policy.{Policy, setting_of, roles_in}
use Rattle.policy.specs.Rules.{Block}
use Rattle.rule_commands.specs.Raw.{InOrder}
use Rattle.rule_satisfaction.specs.Satisfaction.{Legal}
use Rattle.sets.specs.Tests.{◌is_in◌, any}
use Rattle.rule_notes.specs.declared.Tally.{Tally}

-- an option of the definitions, as the code has it
abbrev pub option_of : {A : Type 0} → Option A → Found A
option_of none = None
option_of (some a) = Some a

module _ (F : Policy) where
  -- what some rules grant within the sizes
  unfoldable pub granted_within : List Lines → Block
  granted_within rules u r o = is_triple (setting_of F) u r o && rules_grant (setting_of F) rules u r o

  -- of the rules that are complete
  pub record Stored (rules : List Lines) (k : Tally) (grid seen again : List ℕ) : Type 0 where
    pub all-legal : (ls : Lines) → ls is_in rules → Legal (beside_of F) ls
    pub grid_shown : grid ≡ grid_of F.operations (granted_within rules)
    pub rules-counted : k.rules ≡ length rules
    pub stray_shown : k.stray ≡ option_of (first_stray_rule (setting_of F) (roles_in F) rules)
    pub seen-shown : seen ≡ seen_table rules
    pub again-shown : again ≡ again_table rules

  -- of those and of the lines of the one that is open; no lines if none is
  pub record Shows (rules : List Lines) (ls : Lines) (k : Tally) (met listed grid seen again : List ℕ) : Type 0 where
    pub all-legal : (ls : Lines) → ls is_in rules → Legal (beside_of F) ls
    pub legal_open : Legal (beside_of F) ls
    pub met-shown : met ≡ met_table (setting_of F) ls
    pub asked-shown : k.asked ≡ asked_places (setting_of F) ls
    pub atoms-shown : k.atoms ≡ atom_places ls
    pub operations-shown : k.operations ≡ operations_in ls
    pub listing-shown : k.listing ≡ any is_part_line ls
    pub telling-shown : k.telling ≡ any is_level ls
    pub ordered : InOrder k.last ls
    pub listed-shown : listed ≡ grid_of F.operations (parts_grant (setting_of F) (roles_in F) ls)
    pub grid_shown : grid ≡ grid_of F.operations (granted_within rules)
    pub rules-counted : k.rules ≡ length rules
    pub stray_shown : k.stray ≡ option_of (first_stray_rule (setting_of F) (roles_in F) rules)
    pub seen-shown : seen ≡ seen_table (rules ++ (ls ∷ []))
    pub again-shown : again ≡ again_table (rules ++ (ls ∷ []))
