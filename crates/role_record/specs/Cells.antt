-- Where tables by role and operation, and by user and operation, have their words. Tables of masks have the operation outermost, and in it a
-- cell for each role or user, so that a table's length follows from the number of its operations. Parts and the summary of rights are counted
-- row by row: a row for each role or user, and in it a cell for each operation. No other file says so.
-- Assumes nothing.
use Rattle.std.specs.Prelude.{ℕ, ◌+◌, ◌*◌, ◌/◌, ◌%◌}

-- as many as there may be operations
abbrev pub most_operations : ℕ
most_operations = 16

-- ---- what roles are permitted

-- the cell of a role and an operation
abbrev pub permission_at : ℕ → ℕ → ℕ
permission_at k o = 32 * o + k

-- the role of a cell, and its operation
abbrev pub permission_role : ℕ → ℕ
permission_role i = i % 32

abbrev pub permission_operation : ℕ → ℕ
permission_operation i = i / 32

-- the cells of n operations
abbrev pub permission_cells : ℕ → ℕ
permission_cells n = 32 * n

-- ---- what users are granted

-- the cell of a user and an operation
abbrev pub grid_at : ℕ → ℕ → ℕ
grid_at u o = 64 * o + u

-- the user of a cell, and its operation
abbrev pub grid_user : ℕ → ℕ
grid_user i = i % 64

abbrev pub grid_operation : ℕ → ℕ
grid_operation i = i / 64

-- the cells of n operations
abbrev pub grid_cells : ℕ → ℕ
grid_cells n = 64 * n

-- ---- rows

-- the cells of a row: as many as there may be operations
abbrev pub row_cells : ℕ
row_cells = most_operations

-- the first cell of a row; so many cells are in the rows before it
abbrev pub row_start : ℕ → ℕ
row_start x = row_cells * x

-- the cell of a role, or a user, and an operation
abbrev pub cell_at : ℕ → ℕ → ℕ
cell_at x o = row_start x + o

-- the role, or the user, of a cell
abbrev pub cell_row : ℕ → ℕ
cell_row i = i / row_cells

-- the operation of a cell
abbrev pub cell_operation : ℕ → ℕ
cell_operation i = i % row_cells

-- the cells of all roles: there are at most 32
abbrev pub role_cells : ℕ
role_cells = row_start 32

-- the cells of all users: there are at most 64
abbrev pub user_cells : ℕ
user_cells = row_start 64
