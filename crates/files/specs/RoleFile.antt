-- Reading a role file. 01, sections "The role file" and "Where each call stops".
-- Assumes nothing.
use Rattle.std.specs.Prelude.{ℕ, ◌*◌, eqb, ltb, leb, length, get_or, Bool, true, false, cond, ◌&&◌, ◌||◌, not, List, [], ◌∷◌, ◌++◌}
use Rattle.std.proofs.Math.Option.{Option, none, some}
use Rattle.files.specs.Answer.{Answer, unless, and_then, too_long, cut_off, unknown_command, out_of_place, beyond, wrong_kind, own_senior, accepted}
use Rattle.files.specs.Bytes.{Format, read}
use Rattle.policy.specs.Policy.{Table, Policy, kind_of, circular}
use Rattle.policy.specs.Rules.{Which, by, user, resource}
use Rattle.sets.specs.Tests.{iff, is_some}

-- "A command is one byte with fixed operands"
pub data RoleCommand : Type 0 where
  -- 01 users, resources, operations, roles
  sizes : ℕ → ℕ → ℕ → ℕ → RoleCommand
  -- 02 side, kind, which means domain 0, and 08 side, kind, domain
  declare : ℕ → ℕ → ℕ → RoleCommand
  -- 03 and 04: is it a set; side, attribute, who, value
  give : Bool → ℕ → ℕ → ℕ → ℕ → RoleCommand
  -- 05 role, user
  assign : ℕ → ℕ → RoleCommand
  -- 06 role, resource, operation
  permit : ℕ → ℕ → ℕ → RoleCommand
  -- 07 junior role, senior role
  line : ℕ → ℕ → RoleCommand
  -- 0F
  end : RoleCommand

-- the widths of the operands behind a command byte
abbrev pub role_widths : ℕ → Option (List ℕ)
role_widths b =
    cond (eqb b 0x01) (some (1 ∷ 1 ∷ 1 ∷ 1 ∷ []))
    (cond (eqb b 0x02) (some (1 ∷ 1 ∷ []))
    (cond (eqb b 0x03) (some (1 ∷ 1 ∷ 1 ∷ 2 ∷ []))
    (cond (eqb b 0x04) (some (1 ∷ 1 ∷ 1 ∷ 8 ∷ []))
    (cond (eqb b 0x05) (some (1 ∷ 1 ∷ []))
    (cond (eqb b 0x06) (some (1 ∷ 1 ∷ 1 ∷ []))
    (cond (eqb b 0x07) (some (1 ∷ 1 ∷ []))
    (cond (eqb b 0x08) (some (1 ∷ 1 ∷ 1 ∷ []))
    (cond (eqb b 0x0F) (some []) none))))))))

-- the command of a known byte with its operands
abbrev pub role_command : ℕ → List ℕ → RoleCommand
role_command b xs =
    cond (eqb b 0x01) (sizes (get_or xs 0 0) (get_or xs 1 0) (get_or xs 2 0) (get_or xs 3 0))
    (cond (eqb b 0x02) (declare (get_or xs 0 0) (get_or xs 1 0) 0)
    (cond (eqb b 0x03) (give false (get_or xs 0 0) (get_or xs 1 0) (get_or xs 2 0) (get_or xs 3 0))
    (cond (eqb b 0x04) (give true (get_or xs 0 0) (get_or xs 1 0) (get_or xs 2 0) (get_or xs 3 0))
    (cond (eqb b 0x05) (assign (get_or xs 0 0) (get_or xs 1 0))
    (cond (eqb b 0x06) (permit (get_or xs 0 0) (get_or xs 1 0) (get_or xs 2 0))
    (cond (eqb b 0x07) (line (get_or xs 0 0) (get_or xs 1 0))
    (cond (eqb b 0x08) (declare (get_or xs 0 0) (get_or xs 1 0) (get_or xs 2 0)) end)))))))

-- what was read so far: nothing; 01 and then only 02; more
pub data Phase : Type 0 where
  nothing : Phase
  declaring : Phase
  telling : Phase

pub record Loading : Type 0 where
  pub phase : Phase
  pub policy : Policy

-- a policy of these sizes that says nothing more
abbrev pub blank_table : ℕ → Table
blank_table n = record { count = n; kinds = []; domain = λ a. 0; value = λ a x. none }

unfoldable pub blank : ℕ → ℕ → ℕ → ℕ → Policy
blank u r o k = record {
  table = λ w. blank_table (by w u r);
  operations = o;
  roles = k;
  assigned = λ k u. false;
  permitted = λ k r o. false;
  line = λ j s. false;
}

-- "Side 0 user, 1 resource"
abbrev pub side_by : ℕ → Which
side_by s = cond (eqb s 0) user resource

abbrev pub same_side : Which → Which → Bool
same_side user user = true
same_side user resource = false
same_side resource user = false
same_side resource resource = true

module _ (F : Policy) where
  -- the policy with one side's table replaced
  unfoldable pub with_table : Which → Table → Policy
  with_table s t = record {
    table = λ w. cond (same_side w s) t (F.table w);
    operations = F.operations;
    roles = F.roles;
    assigned = F.assigned;
    permitted = F.permitted;
    line = F.line;
  }

  -- one attribute more: "Numbered from 0 on each side"
  unfoldable pub with_kind : Which → Bool → ℕ → Policy
  with_kind s k d = with_table s (record {
    count = (F.table s).count;
    kinds = (F.table s).kinds ++ (k ∷ []);
    domain = λ a. cond (eqb a (length (F.table s).kinds)) d ((F.table s).domain a);
    value = (F.table s).value;
  })

  unfoldable pub with_value : Which → ℕ → ℕ → ℕ → Policy
  with_value s a x v = with_table s (record {
    count = (F.table s).count;
    kinds = (F.table s).kinds;
    domain = (F.table s).domain;
    value = λ b y. cond (eqb b a && eqb y x) (some v) ((F.table s).value b y);
  })

  unfoldable pub with_assigned : ℕ → ℕ → Policy
  with_assigned k u = record {
    table = F.table;
    operations = F.operations;
    roles = F.roles;
    assigned = λ j v. (eqb j k && eqb v u) || F.assigned j v;
    permitted = F.permitted;
    line = F.line;
  }

  unfoldable pub with_permitted : ℕ → ℕ → ℕ → Policy
  with_permitted k r o = record {
    table = F.table;
    operations = F.operations;
    roles = F.roles;
    assigned = F.assigned;
    permitted = λ j q p. (eqb j k && (eqb q r && eqb p o)) || F.permitted j q p;
    line = F.line;
  }

  unfoldable pub with_line : ℕ → ℕ → Policy
  with_line j s = record {
    table = F.table;
    operations = F.operations;
    roles = F.roles;
    assigned = F.assigned;
    permitted = F.permitted;
    line = λ i k. (eqb i j && eqb k s) || F.line i k;
  }

abbrev pub is_nothing : Phase → Bool
is_nothing nothing = true
is_nothing declaring = false
is_nothing telling = false

abbrev pub is_declaring : Phase → Bool
is_declaring nothing = false
is_declaring declaring = true
is_declaring telling = false

abbrev pub is_end : RoleCommand → Bool
is_end (sizes u r o k) = false
is_end (declare side kind domain) = false
is_end (give set side a x v) = false
is_end (assign k u) = false
is_end (permit k r o) = false
is_end (line j k) = false
is_end end = true

-- "4 out of place", tested before what else the command is asked; and the phase after it
abbrev pub enter : Bool → Phase → Answer Policy → Answer Loading
enter place phase r = unless place out_of_place (and_then r (λ F. accepted (record { phase = phase; policy = F })))

module _ (F : Policy) where
  -- 02: "a seventh attribute" is beyond the limit
  unfoldable pub take_kind : ℕ → ℕ → ℕ → Answer Policy
  take_kind side kind domain = unless (ltb side 2 && ltb kind 2 && ltb (length (F.table (side_by side)).kinds) 6) beyond (accepted (with_kind F (side_by side) (eqb kind 1) domain))

  -- 03 and 04: "5 an operand beyond its limit or declared size; 6 wrong kind, or a value given twice"
  unfoldable pub take_value : Bool → ℕ → ℕ → ℕ → ℕ → Answer Policy
  take_value set side a x v =
      let t = F.table (side_by side) in
      unless (ltb side 2 && ltb a (length t.kinds) && ltb x t.count) beyond
      (unless (iff (kind_of t a) set && not (is_some (t.value a x))) wrong_kind
      (accepted (with_value F (side_by side) a x v)))

  unfoldable pub take_assignment : ℕ → ℕ → Answer Policy
  take_assignment k u = unless (ltb k F.roles && ltb u (F.table user).count) beyond (accepted (with_assigned F k u))

  unfoldable pub take_permission : ℕ → ℕ → ℕ → Answer Policy
  take_permission k r o = unless (ltb k F.roles && ltb r (F.table resource).count && ltb o F.operations) beyond (accepted (with_permitted F k r o))

  unfoldable pub take_line : ℕ → ℕ → Answer Policy
  take_line j k = unless (ltb j F.roles && ltb k F.roles) beyond (accepted (with_line F j k))

-- before the first command
abbrev pub fresh : Loading
fresh = record { phase = nothing; policy = blank 0 0 0 0 }

-- after the last
abbrev pub settle : Loading → Answer Policy
settle s = unless (not (circular s.policy)) own_senior (accepted s.policy)

-- an operation set is W bytes wide in the rule file, so there are at most 8 × W operations: 16 where W is 2
module _ (W : ℕ) where
  -- 01: "at most 64, 64, 16, 32; zero is allowed"
  unfoldable pub take_sizes : ℕ → ℕ → ℕ → ℕ → Answer Policy
  take_sizes u r o k = unless (leb u 64 && leb r 64 && leb o (8 * W) && leb k 32) beyond (accepted (blank u r o k))

  -- 01 "First, and only once", 02 "Only after 01 or another 02", the others behind 01
  unfoldable pub obey_role : Loading → RoleCommand → Answer Loading
  obey_role s (sizes u r o k) = enter (is_nothing s.phase) declaring (take_sizes u r o k)
  obey_role s (declare side kind domain) = enter (is_declaring s.phase) declaring (take_kind s.policy side kind domain)
  obey_role s (give set side a x v) = enter (not (is_nothing s.phase)) telling (take_value s.policy set side a x v)
  obey_role s (assign k u) = enter (not (is_nothing s.phase)) telling (take_assignment s.policy k u)
  obey_role s (permit k r o) = enter (not (is_nothing s.phase)) telling (take_permission s.policy k r o)
  obey_role s (line j k) = enter (not (is_nothing s.phase)) telling (take_line s.policy j k)
  obey_role s end = enter (not (is_nothing s.phase)) telling (accepted s.policy)

  unfoldable pub role_format : Format RoleCommand Loading
  role_format = record {
    widths = role_widths;
    command = role_command;
    ends = is_end;
    obey = obey_role;
    late = out_of_place;
    unknown = unknown_command;
    short = cut_off;
  }

  -- "1 too long. Then by command ... Last, where no command was refused: 7 a role is its own senior."
  unfoldable pub read_roles : List ℕ → Answer Policy
  read_roles bytes = unless (leb (length bytes) 65535) too_long (and_then (read role_format fresh bytes) settle)

  -- the same without its last test: 1 to 6 alone, and what the file says "where no command was refused"
  unfoldable pub read_commands : List ℕ → Answer Policy
  read_commands bytes = unless (leb (length bytes) 65535) too_long (and_then (read role_format fresh bytes) (λ s. accepted s.policy))
