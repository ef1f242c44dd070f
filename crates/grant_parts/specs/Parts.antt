-- Classes and parts of a role, from the record's tables: the form in which code works them out.
-- Assumes nothing.
use Rattle.std.specs.Prelude.{ℕ, eqb, ltb, get_or, Bool, false, cond, not, List}
use Rattle.role_record.specs.Cells.{permission_at}
use Rattle.sets.specs.Sets.{mask_of}
use Rattle.sets.specs.Tests.{any, up_to}

-- two operations of a role have the same resources
abbrev pub same_row : List ℕ → (role o q : ℕ) → Bool
same_row permissions role o q = eqb (get_or permissions (permission_at role q) 0) (get_or permissions (permission_at role o) 0)

-- the operations of a role that have the same resources as operation o
unfoldable pub class_row : List ℕ → ℕ → ℕ → ℕ → ℕ
class_row permissions role ops o = mask_of ops (same_row permissions role o)

-- no operation of the role before this one has the same resources
unfoldable pub is_first : List ℕ → (role o : ℕ) → Bool
is_first permissions role o = not (any (same_row permissions role o) (up_to o))

-- the operation is the lowest of a part of the role: there is such an operation, the role has a holder, the operation a resource, and no
-- lower one has the same resources
unfoldable pub is_part_in : (holders permissions : List ℕ) → (ops role o : ℕ) → Bool
is_part_in holders permissions ops role o =
    cond (ltb o ops)
    (cond (eqb (get_or holders role 0) 0) false
    (cond (eqb (get_or permissions (permission_at role o) 0) 0) false (is_first permissions role o))) false
