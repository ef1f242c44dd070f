-- The value that comes with the answer that shows a circle.
-- Assumes nothing.
use Rattle.std.specs.Prelude.{ℕ, length, List, [], ◌∷◌}

-- how many roles are listed: they themselves stand in the memory
abbrev pub roles_listed : List ℕ → List ℕ
roles_listed c = length c ∷ []
