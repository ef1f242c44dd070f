-- A cell has one role, or user, and one operation.
-- Assumes nothing.
use Rattle.std.specs.Prelude.{ℕ, ◌<◌, eqb, ◌&&◌, ◌≡◌}
use Rattle.std.proofs.Common.{eqb-true, eq-eqb, ap₂, arith}
use Rattle.role_record.specs.Cells.{permission_at, permission_role, permission_operation, grid_at, grid_user, grid_operation, row_cells, cell_at, cell_row, cell_operation}
use Rattle.sets.specs.TestLaws.{and_in, and_l, and_r, same}

-- ---- what roles are permitted

-- what is said of a cell's role and its operation
pub permission_parts : {A : Type 0} (f : ℕ → ℕ → A) (k o : ℕ) → k < 32 → f (permission_role (permission_at k o)) (permission_operation (permission_at k o)) ≡ f k o
permission_parts f k o l = ap₂ f (let e : permission_role (permission_at k o) ≡ k = omega arith in e) (let e : permission_operation (permission_at k o) ≡ o = omega arith in e)

-- cells of different roles or operations differ
pub permission_same : (i k o : ℕ) → k < 32 → eqb i (permission_at k o) ≡ (eqb (permission_role i) k && eqb (permission_operation i) o)
permission_same i k o h =
    same (eqb i (permission_at k o)) (eqb (permission_role i) k && eqb (permission_operation i) o)
    (λ e. let d = eqb-true i (permission_at k o) e in and_in (eq-eqb (permission_role i) k (omega arith)) (eq-eqb (permission_operation i) o (omega arith)))
    (λ e. let a = eqb-true (permission_role i) k (and_l (eqb (permission_role i) k) (eqb (permission_operation i) o) e) in let b = eqb-true (permission_operation i) o (and_r (eqb (permission_role i) k) (eqb (permission_operation i) o) e) in eq-eqb i (permission_at k o) (omega arith))

-- ---- what users are granted

-- what is said of a cell's user and its operation
pub grid_parts : {A : Type 0} (f : ℕ → ℕ → A) (u o : ℕ) → u < 64 → f (grid_user (grid_at u o)) (grid_operation (grid_at u o)) ≡ f u o
grid_parts f u o l = ap₂ f (let e : grid_user (grid_at u o) ≡ u = omega arith in e) (let e : grid_operation (grid_at u o) ≡ o = omega arith in e)

-- the cell of its user and its operation
pub grid_again : (i : ℕ) → grid_at (grid_user i) (grid_operation i) ≡ i
grid_again i = omega arith

-- ---- rows

pub cell_row_lem : (x o : ℕ) → o < row_cells → cell_row (cell_at x o) ≡ x
cell_row_lem x o l = omega arith

pub cell-operation : (x o : ℕ) → o < row_cells → cell_operation (cell_at x o) ≡ o
cell-operation x o l = omega arith

-- what is said of a cell's row and its operation
pub cell_parts : {A : Type 0} (f : ℕ → ℕ → A) (x o : ℕ) → o < row_cells → f (cell_row (cell_at x o)) (cell_operation (cell_at x o)) ≡ f x o
cell_parts f x o l = ap₂ f (cell_row_lem x o l) (cell-operation x o l)

-- the cell of its row and its operation
pub cell_again : (i : ℕ) → cell_at (cell_row i) (cell_operation i) ≡ i
cell_again i = omega arith
