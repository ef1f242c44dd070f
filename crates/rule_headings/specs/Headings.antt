-- What the heading of a rule says of it: its operations and its level.
-- Assumes nothing.
use Rattle.std.specs.Prelude.{ℕ, zero, suc, eqb, length, drop, Bool, false, cond, List, [], ◌≡◌, Ok, Err}
use Rattle.std.proofs.Math.Option.{some}
use Rattle.files.specs.Beside.{beside_of}
use Rattle.files.specs.Answer.{and_then, accepted}
use Rattle.files.specs.Bytes.{read_on}
use Rattle.files.specs.RuleFile.{Lines, rule_format}
use Rattle.policy.specs.Policy.{Policy}
use Rattle.rule_commands.specs.Raw.{raw_of}
use Rattle.rule_commands.specs.declared.Raw.{Raw}
use Rattle.rule_headings.specs.declared.Heading.{Heading}
use Rattle.digits.specs.Digits.{is_within}

-- the commands 22 to 29
abbrev pub in_rule : ℕ → Bool
in_rule b = is_within b 0x22 0x29

-- one line more: a 26 says the operations, a 29 the level
unfoldable pub noted : Heading → Raw → Heading
noted h a = cond (eqb a.byte 0x26) (record { operations = a.first; level = h.level }) (cond (eqb a.byte 0x29) (record { operations = h.operations; level = a.first }) h)

-- all lines up to the next command that does not stand inside a rule; n is more than there can be
abbrev pub heading_on : ℕ → Heading → List ℕ → Heading
heading_on zero h s = h
heading_on (suc n) h s = elim (raw_of s) [ Err e ↦ h | Ok p ↦ let r = heading_on n (noted h p.0) (drop p.1 s) in cond (in_rule p.0.byte) r h ]

-- the heading of the rule whose lines stand in front
unfoldable pub heading_of : List ℕ → Heading
heading_of s = heading_on (suc (length s)) (record { operations = 0; level = 0 }) s

-- These bytes stand behind the 21 of rule n of a rule file that was accepted with these rules: the reader, which has the rules before it and has
-- opened this one, goes on from here and comes to them.
pub record RuleAt (F : Policy) (rules : List Lines) (n : ℕ) (s : List ℕ) : Type 0 where
  pub earlier : List Lines
  pub number : length earlier ≡ n
  pub fuel : ℕ
  pub accepts : and_then (read_on (rule_format 2 (beside_of F)) fuel false (record { complete = earlier; current = some [] }) s) (λ t. accepted t.complete) ≡ accepted rules
