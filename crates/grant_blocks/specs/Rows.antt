-- What a rule grants, without a grid of its own: a row for each user, the set of the resources that the rule leaves the user, and the rule's
-- operations. How rows are joined to a grid, and compared with one.
-- Assumes nothing.
use Rattle.std.specs.Prelude.{ℕ, eqb, get_or, Bool, cond, List}
use Rattle.grant_grids.specs.Updates.{updated, joined_word}
use Rattle.role_record.specs.Cells.{grid_at, grid_user, grid_operation, grid_cells}
use Rattle.sets.specs.Sets.{bit}
use Rattle.sets.specs.Tests.{all, up_to}

-- the resources of a user for an operation: none for one that is not among the operations
unfoldable pub cell_of : List ℕ → ℕ → ℕ → ℕ → ℕ
cell_of rows acts u o = cond (bit acts o) (get_or rows u 0) 0

-- word i of a grid, joined to its user's row
unfoldable pub with_row : List ℕ → ℕ → ℕ → ℕ
with_row rows i old = joined_word old (get_or rows (grid_user i) 0)

-- a grid of n operations with the rows joined at one of them
unfoldable pub added_row : ℕ → List ℕ → ℕ → List ℕ → List ℕ
added_row n rows o grid = updated (grid_cells n) (λ i. eqb (grid_operation i) o) (with_row rows) grid

-- and at some of them
unfoldable pub added_rows : ℕ → List ℕ → ℕ → List ℕ → List ℕ
added_rows n rows acts grid = updated (grid_cells n) (λ i. bit acts (grid_operation i)) (with_row rows) grid

-- a grid has the rows at an operation
unfoldable pub rows_at : List ℕ → ℕ → List ℕ → Bool
rows_at rows o grid = all (λ u. eqb (get_or rows u 0) (get_or grid (grid_at u o) 0)) (up_to 64)

-- a grid has just what the rows and the operations grant, at one operation
unfoldable pub same_at : List ℕ → ℕ → List ℕ → ℕ → Bool
same_at rows acts grid o = all (λ u. eqb (cell_of rows acts u o) (get_or grid (grid_at u o) 0)) (up_to 64)

-- and at all n of them
unfoldable pub same_rows : ℕ → List ℕ → ℕ → List ℕ → Bool
same_rows n rows acts grid = all (same_at rows acts grid) (up_to n)
