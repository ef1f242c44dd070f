-- Grants as a grid of sets: in the cell of a user and an operation stands the set of the resources granted. A grid is made for a number of
-- operations. And the first triple at which two grids differ.
-- Assumes nothing.
use Rattle.std.specs.Prelude.{ℕ, eqb, get_or, Bool, true, false, ◌&&◌, not, List, map, Some, None, Option as Handed}
use Rattle.std.proofs.Math.Option.{Option, none, some}
use Rattle.files.specs.Calls.{first}
use Rattle.role_record.specs.Cells.{permission_at, grid_at, grid_user, grid_operation, grid_cells}
use Rattle.role_record.specs.Record.{table_of}
use Rattle.policy.specs.Rules.{Block}
use Rattle.sets.specs.Sets.{bit, mask_of}
use Rattle.sets.specs.Tests.{iff, all, any, each, up_to}

-- the grid of a set of triples, for n operations
unfoldable pub grid_of : ℕ → Block → List ℕ
grid_of n G = table_of (grid_cells n) (λ i. mask_of 64 (λ r. G (grid_user i) r (grid_operation i)))

-- the triples that a grid has
unfoldable pub in_grid : List ℕ → Block
in_grid t u r o = bit (get_or t (grid_at u o) 0) r

-- what roles grant, from the tables of their holders and of their permissions: a role that the user holds has the permission
unfoldable pub granted_by : List ℕ → List ℕ → ℕ → Block
granted_by holders permissions roles u r o = any (λ k. bit (get_or holders k 0) u && bit (get_or permissions (permission_at k o) 0) r) (up_to roles)

-- two grids have the same sets for a user, at that many operations
unfoldable pub same_words : List ℕ → List ℕ → ℕ → ℕ → Bool
same_words a b u os = all (λ o. eqb (get_or a (grid_at u o) 0) (get_or b (grid_at u o) 0)) (up_to os)

-- two tables have the same first n words
unfoldable pub same_tables : List ℕ → List ℕ → ℕ → Bool
same_tables a b n = all (λ i. eqb (get_or a i 0) (get_or b i 0)) (up_to n)

-- every triple within the sizes, by user, then resource, then operation
unfoldable pub triple_list : ℕ → ℕ → ℕ → List (ℕ × ℕ × ℕ)
triple_list us rs os = each (λ u. each (λ r. map (λ o. (u, r, o)) (up_to os)) (up_to rs)) (up_to us)

-- two sets of triples differ at one
unfoldable pub differ_at : Block → Block → ℕ × ℕ × ℕ → Bool
differ_at G H t = not (iff (G t.0 t.1 t.2) (H t.0 t.1 t.2))

-- the first triple at which two grids differ
unfoldable pub grid_difference : List ℕ → List ℕ → ℕ → ℕ → ℕ → Option (ℕ × ℕ × ℕ)
grid_difference a b us rs os = first (differ_at (in_grid a) (in_grid b)) (triple_list us rs os)

-- as the code hands it back
unfoldable pub difference_of : Option (ℕ × ℕ × ℕ) → Handed (ℕ × ℕ × ℕ)
difference_of none = None
difference_of (some t) = Some t

-- nothing differs
unfoldable pub is_same : Handed (ℕ × ℕ × ℕ) → Bool
is_same None = true
is_same (Some t) = false
