-- The record after a command: the form in which code works it out.
-- Assumes nothing.
use Rattle.std.specs.Prelude.{ℕ, ◌+◌, ◌*◌, ◌<◌, eqb, get_or, set, List}
use Rattle.role_record.specs.Cells.{most_operations, permission_at}
use Rattle.role_record.specs.Record.{marked, marked_if, set_sizes, set_kinds, set_values, set_assigned, set_lines, set_permissions}
use Rattle.role_record.specs.declared.RoleFile.{RoleFile}
use Rattle.role_admit.specs.declared.phase.Phase.{Phase}
use Rattle.role_admit.specs.declared.phase.Phase.TheVariants.{Declaring, Telling, Ended}
use Rattle.role_commands.specs.declared.Command.{Command}
use Rattle.role_commands.specs.declared.Command.TheVariants.{Sizes, Declare, Give, Assign, Permit, Line, End}

-- the operands of an admitted command lie within the record's tables
unfoldable pub Bounded : List ℕ → Command → Type 0
Bounded attributes (Sizes u r o k) = Unit {0}
Bounded attributes (Declare side kind domain) = (side < 2) × (get_or attributes side 0 < 6)
Bounded attributes (Give kind side a x v) = (side < 2) × (a < 6) × (x < 64)
Bounded attributes (Assign k u) = k < 32
Bounded attributes (Permit k r o) = (k < 32) × (o < most_operations)
Bounded attributes (Line j k) = j < 32
Bounded attributes End = Unit {0}

-- a table of sets with x in set i too
abbrev pub added : List ℕ → ℕ → ℕ → List ℕ
added t i x = set t i (marked (get_or t i 0) x)

-- the record with one attribute more of a side: its kind, 1 for sets, and its domain
abbrev pub declared_by : RoleFile → ℕ → ℕ → ℕ → RoleFile
declared_by f side kind domain =
    let n = get_or f.attributes side 0 in
    set_kinds f (set f.attributes side (n + 1)) (set f.kinds side (marked_if (eqb kind 1) (get_or f.kinds side 0) n)) (set f.domains (6 * side + n) domain)

-- and with a value more, of attribute a of a side for its member x
abbrev pub given_by : RoleFile → ℕ → ℕ → ℕ → ℕ → RoleFile
given_by f side a x v = set_values f (added f.known (6 * side + a) x) (set f.values (64 * (6 * side + a) + x) v)

-- the record after an admitted command
unfoldable pub stored_by : RoleFile → Command → RoleFile
stored_by f (Sizes u r o k) = set_sizes f u r o k
stored_by f (Declare side kind domain) = declared_by f side kind domain
stored_by f (Give kind side a x v) = given_by f side a x v
stored_by f (Assign k u) = set_assigned f (added f.assigned k u)
stored_by f (Permit k r o) = set_permissions f (added f.permissions (permission_at k o) r)
stored_by f (Line j s) = set_lines f (added f.lines j s)
stored_by f End = f

-- the phase after it
abbrev pub phase_after : Command → Phase
phase_after (Sizes u r o k) = Declaring
phase_after (Declare side kind domain) = Declaring
phase_after (Give s side a x v) = Telling
phase_after (Assign k u) = Telling
phase_after (Permit k r o) = Telling
phase_after (Line j s) = Telling
phase_after End = Ended
