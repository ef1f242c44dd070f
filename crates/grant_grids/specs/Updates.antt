-- A table with some of its words changed. It is what loops come to that store word by word.
-- Assumes nothing.
use Rattle.std.specs.Prelude.{ℕ, ◌+◌, eqb, ltb, get_or, Bool, cond, ◌&&◌, ◌||◌, not, List}
use Rattle.role_record.specs.Cells.{permission_at, grid_user, grid_operation, grid_cells}
use Rattle.role_record.specs.Record.{table_of}
use Rattle.sets.specs.Sets.{bit, mask_of}

-- the words of a table of n that pass a test, changed; w says what word i becomes, and the others stay
unfoldable pub updated : ℕ → (ℕ → Bool) → (ℕ → ℕ → ℕ) → List ℕ → List ℕ
updated n f w table = table_of n (λ i. cond (f i) (w i (get_or table i 0)) (get_or table i 0))

-- a number is one of the n from s on
unfoldable pub span : ℕ → ℕ → ℕ → Bool
span s n i = not (ltb i s) && ltb i (s + n)

-- the resources of either set
unfoldable pub joined_word : ℕ → ℕ → ℕ
joined_word old new = mask_of 64 (λ r. bit old r || bit new r)

-- word i of a grid, joined to what a role is permitted for its operation
unfoldable pub permitted_to : List ℕ → ℕ → ℕ → ℕ → ℕ
permitted_to permissions role i old = joined_word old (get_or permissions (permission_at role (grid_operation i)) 0)

-- a grid of n operations with what a role is permitted joined, at one operation, to the word of each user who holds it
unfoldable pub added_column : ℕ → ℕ → List ℕ → ℕ → ℕ → List ℕ → List ℕ
added_column n o permissions role holding grid = updated (grid_cells n) (λ i. eqb (grid_operation i) o && bit holding (grid_user i)) (permitted_to permissions role) grid

-- and at each operation of a class
unfoldable pub added_part : ℕ → ℕ → List ℕ → ℕ → ℕ → List ℕ → List ℕ
added_part n holding permissions role class grid = updated (grid_cells n) (λ i. bit class (grid_operation i) && bit holding (grid_user i)) (permitted_to permissions role) grid
