-- The value that comes with the answer that makes a role file from a seed.
-- Assumes nothing.
use Rattle.std.specs.Prelude.{ℕ, List, [], ◌∷◌}

-- the file's length
abbrev pub bytes_written : ℕ → List ℕ
bytes_written n = n ∷ []
