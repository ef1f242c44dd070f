-- Whether a command is admitted: the form in which code works it out.
-- Assumes nothing.
use Rattle.std.specs.Prelude.{ℕ, ◌+◌, ◌*◌, eqb, ltb, get_or, Bool, true, false, cond, not, Result, Ok, Err}
use Rattle.std.specs.Result.{result_and}
use Rattle.files.specs.declared.refusal.Refusal.{Refusal}
use Rattle.files.specs.declared.refusal.Refusal.TheVariants.{OutOfPlace, Beyond, WrongKind}
use Rattle.sets.specs.Sets.{bit}
use Rattle.sets.specs.Tests.{iff}
use Rattle.role_record.specs.declared.RoleFile.{RoleFile}
use Rattle.role_record.specs.declared.Sizes.{Sizes as Counts}
use Rattle.role_admit.specs.declared.phase.Phase.{Phase}
use Rattle.role_admit.specs.declared.phase.Phase.TheVariants.{Nothing, Declaring, Telling, Ended}
use Rattle.role_commands.specs.declared.Command.{Command}
use Rattle.role_commands.specs.declared.Command.TheVariants.{Sizes, Declare, Give, Assign, Permit, Line, End}

-- a test that must be passed. Of several, `result_and` asks the next where one is passed, so the first refusal counts
abbrev pub checked : Bool → Refusal → Result (Unit {0}) Refusal
checked passed e = cond passed (Ok tt) (Err e)

-- a number that must be below a limit
abbrev pub below_of : ℕ → ℕ → Result (Unit {0}) Refusal
below_of x limit = checked (ltb x limit) Beyond

-- sizes within their limits
unfoldable pub sizes_admitted : Counts → Result (Unit {0}) Refusal
sizes_admitted n = result_and (below_of n.users 65) (result_and (below_of n.resources 65) (result_and (below_of n.operations 17) (below_of n.roles 33)))

-- an attribute that may be declared, by the record so far
unfoldable pub kind_admitted : ℕ → ℕ → RoleFile → Result (Unit {0}) Refusal
kind_admitted side kind f = result_and (below_of side 2) (result_and (below_of kind 2) (below_of (get_or f.attributes side 0) 6))

-- how many a side has
abbrev pub size_of : ℕ → RoleFile → ℕ
size_of side f = cond (eqb side 0) f.users f.resources

-- a value that may be given: of a declared attribute and its kind, for one who has none yet
unfoldable pub value_admitted : Bool → ℕ → ℕ → ℕ → RoleFile → Result (Unit {0}) Refusal
value_admitted set side a x f =
    result_and (below_of side 2)
    (result_and (below_of a (get_or f.attributes side 0))
    (result_and (below_of x (size_of side f))
    (result_and (checked (iff (bit (get_or f.kinds side 0) a) set) WrongKind) (checked (not (bit (get_or f.known (6 * side + a) 0) x)) WrongKind))))

-- a phase: nothing was read before
abbrev pub is_first : Phase → Bool
is_first Nothing = true
is_first Declaring = false
is_first Telling = false
is_first Ended = false

-- only 01 and 02 were
abbrev pub is_early : Phase → Bool
is_early Nothing = false
is_early Declaring = true
is_early Telling = false
is_early Ended = false

-- the end was
abbrev pub is_over : Phase → Bool
is_over Nothing = false
is_over Declaring = false
is_over Telling = false
is_over Ended = true

-- whether a command may stand where so much was read before it
abbrev pub may_stand : Command → Phase → Bool
may_stand (Sizes u r o k) p = is_first p
may_stand (Declare side kind domain) p = is_early p
may_stand (Give set side a x v) p = not (is_first p)
may_stand (Assign k u) p = not (is_first p)
may_stand (Permit k r o) p = not (is_first p)
may_stand (Line j s) p = not (is_first p)
may_stand End p = not (is_first p)

-- and whether it may say what it says, by the record so far
unfoldable pub operands_admitted : Command → RoleFile → Result (Unit {0}) Refusal
operands_admitted (Sizes u r o k) f = sizes_admitted (record { users = u; resources = r; operations = o; roles = k })
operands_admitted (Declare side kind domain) f = kind_admitted side kind f
operands_admitted (Give set side a x v) f = value_admitted set side a x f
operands_admitted (Assign k u) f = result_and (below_of k f.roles) (below_of u f.users)
operands_admitted (Permit k r o) f = result_and (below_of k f.roles) (result_and (below_of r f.resources) (below_of o f.operations))
operands_admitted (Line j s) f = result_and (below_of j f.roles) (below_of s f.roles)
operands_admitted End f = Ok tt

-- a command is admitted where both are so; the place is tested first
unfoldable pub admit_of : Command → Phase → RoleFile → Result (Unit {0}) Refusal
admit_of c p f = result_and (checked (may_stand c p) OutOfPlace) (operands_admitted c f)
