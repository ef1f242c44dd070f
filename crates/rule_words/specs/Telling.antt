-- What is told in words: the rules of a rule file that was accepted; and which lines are told as what.
-- Assumes nothing.
use Rattle.std.specs.Prelude.{ℕ, eqb, ltb, get_or, Bool, false, cond, ◌&&◌, ◌||◌, List, ◌≡◌, Option, Some, None}
use Rattle.files.specs.Beside.{beside_of}
use Rattle.files.specs.Answer.{accepted}
use Rattle.files.specs.RuleFile.{Lines, read_body}
use Rattle.policy.specs.Policy.{Policy, setting_of, roles_in}
use Rattle.digits.specs.Digits.{is_within}
use Rattle.rule_commands.specs.declared.Raw.{Raw}

-- what stands behind the first command of a rule file that was accepted beside a role file
pub record AcceptedRules (s : List ℕ) : Type 0 where
  pub policy : Policy
  pub rules : List Lines
  pub accepts : read_body 2 (beside_of policy) s ≡ accepted rules

-- a line that states a condition: a value of a conjunct, 22 to 25, or an atom, 27
abbrev pub is_condition : ℕ → Bool
is_condition b = is_within b 0x22 0x25 || eqb b 0x27

-- a line gives a further value of the conjunct that the line before it gives one of: the same command of 22 to 25, with the same attribute
abbrev pub goes_on : Raw → Option Raw → Bool
goes_on a None = false
goes_on a (Some b) = is_within a.byte 0x22 0x25 && (eqb a.byte b.byte && eqb a.first b.first)

-- the domain of a user attribute; 0 where there is no such attribute
abbrev pub domain_of : List ℕ → ℕ → ℕ
domain_of domains a = cond (ltb a 6) (get_or domains a 0) 0
