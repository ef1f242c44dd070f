-- The turns of the reader of rule files: what the line in front comes to, and what reading beside a role file comes to.
-- Assumes nothing.
use Rattle.std.specs.Prelude.{ℕ, eqb, length, Bool, cond, ◌||◌, List, ◌≡◌, Option, Some, None, Result, Ok, Err}
use Rattle.files.specs.Beside.{beside_of}
use Rattle.files.specs.Answer.{Answer, and_then, accepted}
use Rattle.files.specs.RuleFile.{Lines, read_body}
use Rattle.files.specs.declared.refusal.Refusal.{Refusal}
use Rattle.files.specs.declared.refusal.Refusal.TheVariants.{RulesOrder, RulesOperand, WrongLevel}
use Rattle.grant_grids.specs.Links.{links_of}
use Rattle.policy.specs.Policy.{Policy}
use Rattle.role_record.specs.Record.{Sized, record_of}
use Rattle.rule_commands.specs.Raw.{raw_of}
use Rattle.rule_operands.specs.Checked.{checked_of}
use Rattle.rule_notes.specs.Tally.{may_close, follows_with, levelled_with}
use Rattle.role_record.specs.declared.RoleFile.{RoleFile}
use Rattle.rule_commands.specs.declared.Raw.{Raw}
use Rattle.rule_commands.specs.declared.RuleCommand.{RuleCommand}
use Rattle.rule_reading.specs.declared.Turn.{Turn}
use Rattle.rule_reading.specs.declared.Turn.TheVariants.{Opens, Ends, Line}
use Rattle.rule_notes.specs.declared.Tally.{Tally}

-- ---- the line in front

-- 21 and 2F close the open rule
abbrev pub closes_rule : ℕ → Bool
closes_rule b = eqb b 0x21 || eqb b 0x2F

-- they may stand where the open rule is whole, and nothing stands behind the end
unfoldable pub closing_turn : Tally → ℕ → ℕ → ℕ → Result Turn Refusal
closing_turn k b w left = cond (may_close k) (cond (eqb b 0x21) (Ok (Opens w)) (cond (eqb w left) (Ok Ends) (Err RulesOrder))) (Err RulesOrder)

-- another line, where it may stand: its command, if it is legal, and whether it tells no wrong level
unfoldable pub line_turn : Option RuleCommand → Bool → Raw → ℕ → Result Turn Refusal
line_turn (Some c) told a w = cond told (Ok (Line c a w)) (Err WrongLevel)
line_turn None told a w = Err RulesOperand

module _ (k : Tally) (s : List ℕ) (f : RoleFile) where
  unfoldable pub turn_by : Result (Raw × ℕ) Refusal → Result Turn Refusal
  turn_by (Err e) = Err e
  turn_by (Ok p) =
      cond (closes_rule p.0.byte) (closing_turn k p.0.byte p.1 (length s))
      (cond (follows_with k p.0) (line_turn (checked_of p.0 f) (levelled_with k p.0) p.0 p.1) (Err RulesOrder))

  unfoldable pub turn_of : Result Turn Refusal
  turn_of = turn_by (raw_of s)

-- ---- beside a role file

-- a record and its links are those of a policy
pub record Tabled (F : Policy) (f : RoleFile) (links : List ℕ) : Type 0 where
  pub sized : Sized F
  pub shown : f ≡ record_of F
  pub linked : links ≡ links_of F

-- reading what stands behind the first command of a rule file, as reading both files does it when the role file was accepted
unfoldable pub read_beside : Policy → List ℕ → Answer (Policy × List Lines)
read_beside F rules = and_then (read_body 2 (beside_of F) rules) (λ ls. accepted (F, ls))
