-- The layout of scratch memory: four words for each part, by the number of the part. No other file says where a word stands, or how many
-- parts there may be.
-- Assumes nothing.
use Rattle.std.specs.Prelude.{ℕ, ◌+◌, ◌*◌, ◌/◌, ◌%◌, ◌^◌, min, eqb, length, get_or, set, Bool, List, ◌≡◌}
use Rattle.mine_theory.specs.Words.Words.{Words}
use Rattle.policy.specs.Roles.{Part}
use Rattle.role_record.specs.Cells.{most_operations, role_cells}

-- ---- how many parts there are

-- at most: a role has no more parts than there are operations
abbrev pub most_parts : ℕ
most_parts = role_cells

-- how many parts scratch memory has room for
abbrev pub room_in : List ℕ → ℕ
room_in t = min most_parts (length t / 4)

-- ---- the words of a part

-- users, resources, operations of the group whose head the part is; the last holds the atoms (36 bits), the level (2 bits), the part's own
-- name, which is its role (5 bits) and its lowest operation (6 bits), and the number of its head (11 bits)
abbrev pub users_at : List ℕ → ℕ → ℕ
users_at t i = get_or t (4 * i) 0

abbrev pub resources_at : List ℕ → ℕ → ℕ
resources_at t i = get_or t (4 * i + 1) 0

abbrev pub operations_at : List ℕ → ℕ → ℕ
operations_at t i = get_or t (4 * i + 2) 0

abbrev pub rest_at : List ℕ → ℕ → ℕ
rest_at t i = get_or t (4 * i + 3) 0

-- its users on side 0, its resources on side 1
abbrev pub members_at : List ℕ → ℕ → ℕ → ℕ
members_at t i side = get_or t (4 * i + side) 0

abbrev pub atoms_in : ℕ → ℕ
atoms_in rest = rest % 2 ^ 36

abbrev pub level_in : ℕ → ℕ
level_in rest = rest / 2 ^ 36 % 4

abbrev pub name_in : ℕ → ℕ
name_in rest = rest / 2 ^ 38 % 2 ^ 11

abbrev pub head_in : ℕ → ℕ
head_in rest = rest / 2 ^ 49

abbrev pub rest_of : (atoms level name head : ℕ) → ℕ
rest_of atoms level name head = atoms + 2 ^ 36 * level + 2 ^ 38 * name + 2 ^ 49 * head

-- the name of a part; of the bits for its lowest operation so many are read as there may be operations
abbrev pub name_of : (role lead : ℕ) → ℕ
name_of role lead = role + 32 * lead

abbrev pub role_at : List ℕ → ℕ → ℕ
role_at t i = name_in (rest_at t i) % 32

abbrev pub lead_at : List ℕ → ℕ → ℕ
lead_at t i = name_in (rest_at t i) / 32 % most_operations

abbrev pub named_at : List ℕ → ℕ → Part
named_at t i = record { role = role_at t i; lead = lead_at t i }

abbrev pub words_at : List ℕ → ℕ → Words
words_at t i = record { users = users_at t i; resources = resources_at t i; ops = operations_at t i; atoms = atoms_in (rest_at t i) }

-- the part is the head of a group
abbrev pub is_head_at : List ℕ → ℕ → Bool
is_head_at t i = eqb (head_in (rest_at t i)) i

-- ---- what is written

-- the four words of part i stored
abbrev pub stored_part : List ℕ → (i a b c d : ℕ) → List ℕ
stored_part t i a b c d = set (set (set (set t (4 * i) a) (4 * i + 1) b) (4 * i + 2) c) (4 * i + 3) d

-- the last word of a part but for the head
abbrev pub low_in : ℕ → ℕ
low_in rest = rest % 2 ^ 49

-- part k has the head that part p names
abbrev pub head_taken : List ℕ → ℕ → ℕ → List ℕ
head_taken t k p = set t (4 * k + 3) (low_in (rest_at t k) + 2 ^ 49 * head_in (rest_at t p))

-- the words of part k stay, apart from its last
pub record Kept (t u : List ℕ) (k : ℕ) : Type 0 where
  pub users : users_at u k ≡ users_at t k
  pub resources : resources_at u k ≡ resources_at t k
  pub operations : operations_at u k ≡ operations_at t k
