-- The next command of a rule file as numbers, and what the numbers and the code's commands stand for. 01, section "The rule file".
-- Assumes nothing.
use Rattle.std.specs.Prelude.{ℕ, suc, ◌≤◌, ◌<◌, eqb, ltb, length, get_or, Bool, cond, ◌&&◌, ◌||◌, List, [], ◌∷◌, ◌≡◌, Result, Ok, Err}
use Rattle.std.proofs.Math.Option.{Option, none, some}
use Rattle.file_bytes.specs.Numbers.{number_at, total_of, numbers_at}
use Rattle.files.specs.declared.refusal.Refusal.{Refusal}
use Rattle.files.specs.declared.refusal.Refusal.TheVariants.{RulesCutOff, RulesUnknown}
use Rattle.files.specs.RuleFile.{RuleCommand as Command, rule_command, rule_widths, opens, value, operations, link, part, level, ends, precedes, Lines}
use Rattle.files.specs.RoleFile.{side_by}
use Rattle.rule_commands.specs.declared.Atom.{Atom}
use Rattle.rule_commands.specs.declared.Atom.TheVariants.{SetContainsSet, SetContainsSingle, SingleEqualsSingle}
use Rattle.rule_commands.specs.declared.Raw.{Raw}
use Rattle.rule_commands.specs.declared.RuleCommand.{RuleCommand}
use Rattle.rule_commands.specs.declared.RuleCommand.TheVariants.{Opens, Value, Operations, Link, Part, Level, Ends}
use Rattle.sets.specs.Tests.{all}

-- ---- the line in front, as numbers

-- the line of these numbers
abbrev pub line : ℕ → ℕ → ℕ → Raw
line b x y = record { byte = b; first = x; second = y }

-- the line of byte b with operands of these widths, from place 1 on, and how many bytes it takes; an operand that it does not have is 0
unfoldable pub taken_by : List ℕ → ℕ → List ℕ → Result (Raw × ℕ) Refusal
taken_by ws b l =
    cond (ltb (length l) (suc (total_of ws))) (Err RulesCutOff)
    (Ok (line b (get_or (numbers_at ws l 1) 0 0) (get_or (numbers_at ws l 1) 1 0), suc (total_of ws)))

-- by the widths for which the byte is known, if it is
unfoldable pub raw_by : Option (List ℕ) → ℕ → List ℕ → Result (Raw × ℕ) Refusal
raw_by none b l = Err RulesUnknown
raw_by (some ws) b l = taken_by ws b l

unfoldable pub raw_of : List ℕ → Result (Raw × ℕ) Refusal
raw_of l = cond (eqb (length l) 0) (Err RulesCutOff) (raw_by (rule_widths 2 (number_at 1 l 0)) (number_at 1 l 0) l)

-- "ascend strictly by command byte, then operands as numbers"
unfoldable pub raw_before : Raw → Raw → Bool
raw_before a b = ltb a.byte b.byte || (eqb a.byte b.byte && (ltb a.first b.first || (eqb a.first b.first && ltb a.second b.second)))

-- ---- what is meant

-- the command of a line
unfoldable pub command_of : Raw → Command
command_of a = rule_command a.byte (a.first ∷ a.second ∷ [])

-- the attributes of an atom, whatever its form: the form follows from their kinds
abbrev pub link_meaning : Atom → Command
link_meaning (SetContainsSet a b) = link a b
link_meaning (SetContainsSingle a b) = link a b
link_meaning (SingleEqualsSingle a b) = link a b

-- a command of the code, as the definitions have it
abbrev pub rule_meaning : RuleCommand → Command
rule_meaning Opens = opens
rule_meaning (Value v) = value (side_by v.side) v.set v.attribute v.value
rule_meaning (Operations m) = operations m
rule_meaning (Link t) = link_meaning t
rule_meaning (Part k m) = part k m
rule_meaning (Level l) = level l
rule_meaning Ends = ends

-- a listed value's side is one of the two
unfoldable pub Sided : RuleCommand → Type 0
Sided Opens = Unit {0}
Sided (Value v) = v.side < 2
Sided (Operations m) = Unit {0}
Sided (Link t) = Unit {0}
Sided (Part k m) = Unit {0}
Sided (Level l) = Unit {0}
Sided Ends = Unit {0}

-- a line of a known command that may stand behind the first; an operand that it does not have is 0
pub data Shape : Raw → Type 0 where
  shape-opens : Shape (line 0x21 0 0)
  shape_user_single : (a v : ℕ) → Shape (line 0x22 a v)
  shape_user_set : (a v : ℕ) → Shape (line 0x23 a v)
  shape_resource_single : (a v : ℕ) → Shape (line 0x24 a v)
  shape_resource_set : (a v : ℕ) → Shape (line 0x25 a v)
  shape-operations : (m : ℕ) → Shape (line 0x26 m 0)
  shape-link : (a b : ℕ) → Shape (line 0x27 a b)
  shape-part : (k m : ℕ) → Shape (line 0x28 k m)
  shape-level : (l : ℕ) → Shape (line 0x29 l 0)
  shape-ends : Shape (line 0x2F 0 0)

-- a line stands before another of a rule exactly if all these lines do
abbrev pub InOrder : Raw → Lines → Type 0
InOrder a ls = (b : Raw) → Shape b → 0x22 ≤ b.byte → b.byte ≤ 0x29 → all (λ d. precedes d (command_of b)) ls ≡ raw_before a b
