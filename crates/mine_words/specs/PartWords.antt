-- The words of a part, from the record's tables: the form in which code works them out.
-- Assumes nothing.
use Rattle.std.specs.Prelude.{ℕ, ◌+◌, ◌*◌, ◌/◌, ◌%◌, ltb, get_or, Bool, cond, ◌&&◌, List}
use Rattle.sets.specs.Sets.{bit, subset, mask_of}
use Rattle.sets.specs.Tests.{imp, all, up_to}

-- an atom, by its number, is true of all pairs of these users and resources
unfoldable pub true_of_all : List ℕ → (i users resources : ℕ) → Bool
true_of_all links i users resources = all (λ u. imp (bit users u) (subset resources (get_or links (64 * i + u) 0))) (up_to 64)

-- and it is over declared attributes
unfoldable pub is_atom_of : (links attributes : List ℕ) → (users resources i : ℕ) → Bool
is_atom_of links attributes users resources i = ltb (i / 6) (get_or attributes 0 0) && (ltb (i % 6) (get_or attributes 1 0) && true_of_all links i users resources)

-- the atoms true of all pairs of these users and resources
unfoldable pub atoms_of : (links attributes : List ℕ) → (users resources : ℕ) → ℕ
atoms_of links attributes users resources = mask_of 36 (is_atom_of links attributes users resources)

-- a number of declared attributes, of which there are at most six
unfoldable pub at_most_six : ℕ → ℕ
at_most_six n = cond (ltb n 6) n 6

-- the atoms over declared attributes
unfoldable pub declared_atoms : List ℕ → ℕ
declared_atoms attributes = mask_of 36 (λ i. ltb (i / 6) (get_or attributes 0 0) && ltb (i % 6) (get_or attributes 1 0))

-- those of some atoms that join a user with all of these resources
unfoldable pub true_of_user : List ℕ → (atoms u resources : ℕ) → ℕ
true_of_user links atoms u resources = mask_of 36 (λ i. bit atoms i && subset resources (get_or links (64 * i + u) 0))
