-- The command that numbers make if their operands are legal: the form in which code works it out.
-- Assumes nothing.
use Rattle.std.specs.Prelude.{ℕ, ◌^◌, eqb, ltb, get_or, Bool, true, false, cond, ◌&&◌, List, Option, Some, None}
use Rattle.role_record.specs.declared.RoleFile.{RoleFile}
use Rattle.rule_legal.specs.Operands.{value_legal, link_legal, part_legal}
use Rattle.policy.specs.Rules.{Form, set_contains_set, set_contains_single, single_equals_single}
use Rattle.sets.specs.Sets.{bit}
use Rattle.rule_commands.specs.declared.Raw.{Raw}
use Rattle.rule_commands.specs.declared.Atom.{Atom}
use Rattle.rule_commands.specs.declared.Atom.TheVariants.{SetContainsSet, SetContainsSingle, SingleEqualsSingle}
use Rattle.rule_commands.specs.declared.RuleCommand.{RuleCommand}
use Rattle.rule_commands.specs.declared.RuleCommand.TheVariants.{Opens, Value, Operations, Link, Part, Level, Ends}

-- the command, if a test passes
abbrev pub legal_if : Bool → RuleCommand → Option RuleCommand
legal_if true c = Some c
legal_if false c = None

-- ---- the command of each line

-- commands 22 to 25
abbrev pub value_command : ℕ → Bool → ℕ → ℕ → RuleCommand
value_command side set a v = Value (record { side = side; set = set; attribute = a; value = v })

-- command 27: the atom of two attributes, by their kinds
unfoldable pub atom_of : ℕ → ℕ → List ℕ → Atom
atom_of a b kinds = cond (bit (get_or kinds 0 0) a) (cond (bit (get_or kinds 1 0) b) (SetContainsSet a b) (SetContainsSingle a b)) (SingleEqualsSingle a b)

-- the form that an atom has
abbrev pub form_of_atom : Atom → Form
form_of_atom (SetContainsSet a b) = set_contains_set
form_of_atom (SetContainsSingle a b) = set_contains_single
form_of_atom (SingleEqualsSingle a b) = single_equals_single

-- ---- if it is legal

unfoldable pub checked_value : ℕ → Bool → ℕ → ℕ → ℕ → ℕ → List ℕ → List ℕ → Option RuleCommand
checked_value side set a v roles resources attributes kinds = legal_if (value_legal side set a v roles resources attributes kinds) (value_command side set a v)

unfoldable pub checked_operations : ℕ → ℕ → Option RuleCommand
checked_operations m ops = legal_if (ltb 0 m && ltb m (2 ^ ops)) (Operations m)

unfoldable pub checked_link : ℕ → ℕ → List ℕ → List ℕ → List ℕ → Option RuleCommand
checked_link a b attributes kinds domains = legal_if (link_legal a b attributes kinds domains) (Link (atom_of a b kinds))

unfoldable pub checked_part : ℕ → ℕ → ℕ → ℕ → List ℕ → List ℕ → Option RuleCommand
checked_part k m roles ops holders permissions = legal_if (part_legal k m roles ops holders permissions) (Part k m)

-- the command of a line, beside the record of a role file
unfoldable pub checked_of : Raw → RoleFile → Option RuleCommand
checked_of a f =
    cond (eqb a.byte 0x21) (Some Opens)
    (cond (eqb a.byte 0x22) (checked_value 0 false a.first a.second f.roles f.resources f.attributes f.kinds)
    (cond (eqb a.byte 0x23) (checked_value 0 true a.first a.second f.roles f.resources f.attributes f.kinds)
    (cond (eqb a.byte 0x24) (checked_value 1 false a.first a.second f.roles f.resources f.attributes f.kinds)
    (cond (eqb a.byte 0x25) (checked_value 1 true a.first a.second f.roles f.resources f.attributes f.kinds)
    (cond (eqb a.byte 0x26) (checked_operations a.first f.operations)
    (cond (eqb a.byte 0x27) (checked_link a.first a.second f.attributes f.kinds f.domains)
    (cond (eqb a.byte 0x28) (checked_part a.first a.second f.roles f.operations f.holders f.permissions)
    (cond (eqb a.byte 0x29) (Some (Level a.first)) (Some Ends)))))))))
