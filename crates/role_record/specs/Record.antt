-- What the record holds of a policy: each table as a list of masks.
-- Assumes nothing.
use Rattle.std.specs.Prelude.{ℕ, ◌+◌, ◌/◌, ◌%◌, ◌≤◌, ◌<◌, eqb, ltb, length, get_or, replicate, Bool, true, false, cond, ◌&&◌, ◌||◌, List, [], ◌∷◌, map}
use Rattle.std.proofs.Math.Option.{Option, none, some}
use Rattle.files.specs.RuleFile.{operations}
use Rattle.role_record.specs.Cells.{most_operations, permission_role, permission_operation, permission_cells}
use Rattle.role_record.specs.declared.RoleFile.{RoleFile}
use Rattle.role_record.specs.declared.Sizes.{Sizes}
use Rattle.policy.specs.Covering.{known}
use Rattle.policy.specs.Policy.{Policy, kind_of, senior, held}
use Rattle.policy.specs.Rules.{Which, user, resource}
use Rattle.sets.specs.Sets.{bit, mask_of}
use Rattle.sets.specs.Tests.{up_to, is_some, Is}

-- the record that says nothing
unfoldable pub empty_record : RoleFile
empty_record = record {
  users = 0;
  resources = 0;
  operations = 0;
  roles = 0;
  attributes = replicate 2 0;
  kinds = replicate 2 0;
  domains = replicate 12 0;
  known = replicate 12 0;
  values = replicate 768 0;
  assigned = replicate 32 0;
  lines = replicate 32 0;
  permissions = replicate (permission_cells most_operations) 0;
  seniors = replicate 32 0;
  holders = replicate 32 0;
}

-- "01 users, resources, operations, roles: at most 64, 64, 16, 32"
abbrev pub WithinLimits : Sizes → Type 0
WithinLimits n = (n.users ≤ 64) × (n.resources ≤ 64) × (n.operations ≤ 16) × (n.roles ≤ 32)

-- "at most 6 on a side": the attributes of both sides
abbrev pub FewAttributes : List ℕ → Type 0
FewAttributes attributes = (get_or attributes 0 0 ≤ 6) × (get_or attributes 1 0 ≤ 6)

-- how many a record has of each
abbrev pub sizes_of : RoleFile → Sizes
sizes_of f = record { users = f.users; resources = f.resources; operations = f.operations; roles = f.roles }

-- a user, a resource and an operation that there are
unfoldable pub in_sizes : Sizes → ℕ → ℕ → ℕ → Bool
in_sizes s u r o = ltb u s.users && (ltb r s.resources && ltb o s.operations)

-- a table of n numbers
unfoldable pub table_of : ℕ → (ℕ → ℕ) → List ℕ
table_of n f = map f (up_to n)

-- attribute columns: 6 for each side
abbrev pub column_side : ℕ → Which
column_side s = cond (ltb s 6) user resource

abbrev pub number_or : Option ℕ → ℕ
number_or none = 0
number_or (some v) = v

-- a set with x in it too; the same if a test passes
abbrev pub marked : ℕ → ℕ → ℕ
marked m x = mask_of 64 (λ k. bit m k || eqb k x)

abbrev pub marked_if : Bool → ℕ → ℕ → ℕ
marked_if true m x = marked m x
marked_if false m x = m

module _ (F : Policy) where
  -- the tables that commands fill
  unfoldable pub known_table : List ℕ
  known_table = table_of 12 (λ s. mask_of 64 (λ x. is_some ((F.table (column_side s)).value (s % 6) x)))

  unfoldable pub value_table : List ℕ
  value_table = table_of 768 (λ i. number_or ((F.table (column_side (i / 64))).value (i / 64 % 6) (i % 64)))

  unfoldable pub assigned_table : List ℕ
  assigned_table = table_of 32 (λ k. mask_of 64 (F.assigned k))

  unfoldable pub line_table : List ℕ
  line_table = table_of 32 (λ k. mask_of 64 (F.line k))

  unfoldable pub permission_table : List ℕ
  permission_table = table_of (permission_cells most_operations) (λ i. mask_of 64 (λ r. F.permitted (permission_role i) r (permission_operation i)))

  unfoldable pub attribute_table : List ℕ
  attribute_table = length (F.table user).kinds ∷ length (F.table resource).kinds ∷ []

  unfoldable pub kind_table : List ℕ
  kind_table = mask_of 64 (kind_of (F.table user)) ∷ mask_of 64 (kind_of (F.table resource)) ∷ []

  unfoldable pub domain_table : List ℕ
  domain_table = table_of 12 (λ s. (F.table (column_side s)).domain (s % 6))

  -- the record with these tables, and with tables of seniors and holders
  unfoldable pub record_with : List ℕ → List ℕ → RoleFile
  record_with above held = record {
    users = (F.table user).count;
    resources = (F.table resource).count;
    operations = F.operations;
    roles = F.roles;
    attributes = attribute_table;
    kinds = kind_table;
    domains = domain_table;
    known = known_table;
    values = value_table;
    assigned = assigned_table;
    lines = line_table;
    permissions = permission_table;
    seniors = above;
    holders = held;
  }

  -- while the file is read; and when all is worked out
  unfoldable pub record_so_far : RoleFile
  record_so_far = record_with (replicate 32 0) (replicate 32 0)

  unfoldable pub record_of : RoleFile
  record_of = record_with (table_of 32 (λ k. mask_of 64 (senior F k))) (table_of 32 (λ k. mask_of 64 (held F k)))

-- ---- the record with some of its fields replaced

-- the sizes
abbrev pub set_sizes : RoleFile → ℕ → ℕ → ℕ → ℕ → RoleFile
set_sizes f u r o k = record { users = u; resources = r; operations = o; roles = k; attributes = f.attributes; kinds = f.kinds; domains = f.domains; known = f.known; values = f.values; assigned = f.assigned; lines = f.lines; permissions = f.permissions; seniors = f.seniors; holders = f.holders }

-- the attributes declared
abbrev pub set_kinds : RoleFile → List ℕ → List ℕ → List ℕ → RoleFile
set_kinds f a k d = record { users = f.users; resources = f.resources; operations = f.operations; roles = f.roles; attributes = a; kinds = k; domains = d; known = f.known; values = f.values; assigned = f.assigned; lines = f.lines; permissions = f.permissions; seniors = f.seniors; holders = f.holders }

-- the values
abbrev pub set_values : RoleFile → List ℕ → List ℕ → RoleFile
set_values f k v = record { users = f.users; resources = f.resources; operations = f.operations; roles = f.roles; attributes = f.attributes; kinds = f.kinds; domains = f.domains; known = k; values = v; assigned = f.assigned; lines = f.lines; permissions = f.permissions; seniors = f.seniors; holders = f.holders }

-- the assignments
abbrev pub set_assigned : RoleFile → List ℕ → RoleFile
set_assigned f l = record { users = f.users; resources = f.resources; operations = f.operations; roles = f.roles; attributes = f.attributes; kinds = f.kinds; domains = f.domains; known = f.known; values = f.values; assigned = l; lines = f.lines; permissions = f.permissions; seniors = f.seniors; holders = f.holders }

-- the lines 07
abbrev pub set_lines : RoleFile → List ℕ → RoleFile
set_lines f l = record { users = f.users; resources = f.resources; operations = f.operations; roles = f.roles; attributes = f.attributes; kinds = f.kinds; domains = f.domains; known = f.known; values = f.values; assigned = f.assigned; lines = l; permissions = f.permissions; seniors = f.seniors; holders = f.holders }

-- the permissions
abbrev pub set_permissions : RoleFile → List ℕ → RoleFile
set_permissions f l = record { users = f.users; resources = f.resources; operations = f.operations; roles = f.roles; attributes = f.attributes; kinds = f.kinds; domains = f.domains; known = f.known; values = f.values; assigned = f.assigned; lines = f.lines; permissions = l; seniors = f.seniors; holders = f.holders }

-- what is worked out
abbrev pub set_derived : RoleFile → List ℕ → List ℕ → RoleFile
set_derived f s h = record { users = f.users; resources = f.resources; operations = f.operations; roles = f.roles; attributes = f.attributes; kinds = f.kinds; domains = f.domains; known = f.known; values = f.values; assigned = f.assigned; lines = f.lines; permissions = f.permissions; seniors = s; holders = h }

-- user attribute a and resource attribute b have one domain. The resource attributes' columns stand behind the six of the user attributes
abbrev pub same_domain : List ℕ → ℕ → ℕ → Bool
same_domain domains a b = eqb (get_or domains a 0) (get_or domains (6 + b) 0)

-- the sizes that a record has room for; assignments, permissions and lines are within the declared ones
pub record Sized (F : Policy) : Type 0 where
  pub many : (w : Which) → (F.table w).count ≤ 64
  pub declared : (w : Which) → length (F.table w).kinds ≤ 6
  pub operable : F.operations ≤ 16
  pub few : F.roles ≤ 32
  pub lined : (i j : ℕ) → Is (F.line i j) → (i < F.roles) × (j < F.roles)
  pub assigned-to : (k u : ℕ) → Is (F.assigned k u) → (k < F.roles) × (u < (F.table user).count)
  pub permits : (k r o : ℕ) → Is (F.permitted k r o) → (k < F.roles) × (r < (F.table resource).count) × (o < F.operations)
