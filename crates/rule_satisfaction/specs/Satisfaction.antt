-- What a rule's legal lines ask of one user or resource; and the places of its summary by kind, the form in which code works it out.
-- Assumes nothing.
use Rattle.std.specs.Prelude.{ℕ, ltb, length, Bool, ◌&&◌, List, ◌≡◌}
use Rattle.files.specs.Beside.{Beside, beside_of}
use Rattle.files.specs.RoleFile.{side_by}
use Rattle.files.specs.RuleFile.{RuleCommand, Lines, values_in, legal}
use Rattle.policy.specs.Policy.{Policy, setting_of, roles_in}
use Rattle.policy.specs.Roles.{Roles}
use Rattle.policy.specs.Rules.{Which, Setting, meets}
use Rattle.role_record.specs.Places.{set_place}
use Rattle.role_record.specs.Record.{Sized, record_of}
use Rattle.rule_conjuncts.specs.Summary.{met_table, asked_places}
use Rattle.sets.specs.Sets.{bit, mask_of}
use Rattle.sets.specs.Tests.{Is, imp, iff, ◌is_in◌}

-- every line of a rule is legal
abbrev pub Legal : Beside → Lines → Type 0
Legal B ls = (c : RuleCommand) → c is_in ls → Is (legal B c)

-- somebody of a side meets what is listed for an attribute, if anything is
unfoldable pub asks : Policy → Lines → Which → ℕ → ℕ → Bool
asks F ls w x a = imp (ltb 0 (length (values_in (setting_of F) ls w a))) (meets ((setting_of F).side w) a (values_in (setting_of F) ls w a) x)

-- the places of sets
unfoldable pub set_places : List ℕ → ℕ
set_places kinds = mask_of 14 (set_place kinds)

-- of the places that have values listed, those of sets, or those of singles
unfoldable pub asked_as : Bool → List ℕ → ℕ → ℕ
asked_as set kinds asked = mask_of 64 (λ i. bit asked i && iff set (bit (set_places kinds) i))

-- the summary of a rule is that of legal lines of a policy, the kinds are the policy's, and so many there are on side 0 or 1
pub record SummedUp (F : Policy) (ls : Lines) (met : List ℕ) (asked : ℕ) (kinds : List ℕ) (side count : ℕ) : Type 0 where
  pub sized : Sized F
  pub lawful : Legal (beside_of F) ls
  pub met-so : met ≡ met_table (setting_of F) ls
  pub asked-so : asked ≡ asked_places (setting_of F) ls
  pub kinds-so : kinds ≡ (record_of F).kinds
  pub count-so : count ≡ ((setting_of F).side (side_by side)).count
