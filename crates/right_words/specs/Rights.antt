-- The words of a standing summary of rights, from the tables of holders and of permissions: for a user and an operation
-- the set of resources granted. 02, request 8.
-- Assumes nothing.
use Rattle.std.specs.Prelude.{ℕ, eqb, ltb, get_or, cond, ◌&&◌, List}
use Rattle.grant_grids.specs.Grid.{granted_by}
use Rattle.grant_values.specs.PlaceValues.{held_roles}
use Rattle.role_record.specs.Cells.{permission_at, cell_row, cell_operation, user_cells}
use Rattle.role_record.specs.Record.{table_of}
use Rattle.role_record.specs.declared.Sizes.{Sizes}
use Rattle.sets.specs.Sets.{bit, mask_of}
use Rattle.sets.specs.Tests.{any, up_to}

-- "each the set of resources granted": for a user and an operation; a user or an operation beyond the sizes has none
unfoldable pub rights_word : Sizes → (holders permissions : List ℕ) → ℕ → ℕ → ℕ
rights_word n holders permissions u o =
    cond (ltb u n.users && ltb o n.operations)
    (mask_of n.resources (λ r. granted_by holders permissions n.roles u r o)) 0

-- "one for each user and operation": a table filled
unfoldable pub rights_table : Sizes → (holders permissions : List ℕ) → List ℕ
rights_table n holders permissions =
    table_of user_cells (λ i. rights_word n holders permissions (cell_row i) (cell_operation i))

-- "works out the 16 words of its user afresh, whatever they held, and writes no others"
unfoldable pub refreshed : Sizes → (holders permissions : List ℕ) → ℕ → List ℕ → List ℕ
refreshed n holders permissions u table =
    table_of user_cells (λ i.
    cond (eqb (cell_row i) u) (rights_word n holders permissions (cell_row i) (cell_operation i)) (get_or table i 0))

-- ---- in the steps of the code

-- the roles that a user holds, and what some roles are permitted under an operation
unfoldable pub held_within : Sizes → List ℕ → ℕ → ℕ
held_within n holders u = cond (ltb u n.users) (held_roles holders n.roles u) 0

unfoldable pub permitted_by : ℕ → List ℕ → ℕ → ℕ
permitted_by held permissions o =
    mask_of 64 (λ r. any (λ k. bit held k && bit (get_or permissions (permission_at k o) 0) r) (up_to 64))

-- within the sizes
unfoldable pub word_by : Sizes → ℕ → List ℕ → ℕ → ℕ
word_by n held permissions o =
    cond (ltb o n.operations) (mask_of n.resources (bit (permitted_by held permissions o))) 0
