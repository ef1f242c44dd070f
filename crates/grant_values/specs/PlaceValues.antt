-- The 14 places of attributes, the six of the users, their 255, the six of the resources, their 255: who knows the attribute of each, and
-- who has which value.
-- Assumes nothing.
use Rattle.std.specs.Prelude.{ℕ, ◌+◌, ◌*◌, ◌/◌, ◌%◌, ltb, get_or, cond, List}
use Rattle.role_record.specs.Record.{table_of}
use Rattle.sets.specs.Sets.{bit, mask_of}

-- how many there are on the side of a place: users at the first seven, resources at the others
abbrev pub count_at : ℕ → ℕ → ℕ → ℕ
count_at users resources i = cond (ltb i 7) users resources

-- who has a value at a place: of an attribute whoever knows it, of a 255 everybody there is
unfoldable pub knowing : (users resources : ℕ) → List ℕ → ℕ → ℕ
knowing users resources known i = cond (ltb (i % 7) 6) (get_or known (6 * (i / 7) + i % 7) 0) (mask_of 64 (λ x. ltb x (count_at users resources i)))

-- the roles that a user holds
unfoldable pub held_roles : List ℕ → ℕ → ℕ → ℕ
held_roles holders roles u = mask_of roles (λ k. bit (get_or holders k 0) u)

-- the value that somebody has at a place: of a 255 the roles held, or the resource's number
unfoldable pub value_for : (values holders : List ℕ) → ℕ → ℕ → ℕ → ℕ
value_for values holders roles i x =
    cond (ltb (i % 7) 6) (get_or values (64 * (6 * (i / 7) + i % 7) + x) 0) (cond (ltb i 7) (held_roles holders roles x) x)

-- the value that each has at a place
unfoldable pub values_at : (values holders : List ℕ) → ℕ → ℕ → List ℕ
values_at values holders roles i = table_of 64 (value_for values holders roles i)
