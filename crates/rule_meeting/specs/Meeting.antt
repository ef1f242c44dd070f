-- Who meets a listed value, by the record's tables: the form in which code works it out.
-- Assumes nothing.
use Rattle.std.specs.Prelude.{ℕ, ◌+◌, ◌*◌, eqb, ltb, get_or, Bool, true, false, cond, ◌&&◌, ◌||◌, List}
use Rattle.policy.specs.Covering.{known}
use Rattle.sets.specs.Sets.{bit, subset, mask_of}
use Rattle.sets.specs.Tests.{imp, all, up_to}

-- a listed value is met: by containment, or by equality
abbrev pub order : Bool → ℕ → ℕ → Bool
order true x y = subset x y
order false x y = eqb x y

-- somebody knows the attribute of a column, and meets the listed value
unfoldable pub meets_at : ℕ → List ℕ → ℕ → ℕ → Bool → ℕ → Bool
meets_at known values column v within x = bit known x && order within v (get_or values (64 * column + x) 0)

-- a user holds all roles of a set
unfoldable pub holds_all : List ℕ → ℕ → ℕ → ℕ → Bool
holds_all holders roles v u = all (λ k. imp (bit v k) (bit (get_or holders k 0) u)) (up_to roles)

-- how many a side has: side 0 is the users'
abbrev pub count_by : ℕ → ℕ → ℕ → ℕ
count_by side users resources = cond (eqb side 0) users resources

unfoldable pub meeting_of : ℕ → Bool → ℕ → ℕ → ℕ → ℕ → List ℕ → List ℕ → List ℕ → ℕ
meeting_of side set a v count roles known values holders =
    cond (ltb a 6)
    (mask_of count (meets_at (get_or known (6 * side + a) 0) values (6 * side + a) v (cond (eqb side 0) set false)))
    (cond (eqb side 0) (mask_of count (holds_all holders roles v)) (mask_of 64 (λ k. bit 0 k || eqb k v)))
