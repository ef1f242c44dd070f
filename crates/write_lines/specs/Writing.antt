-- Writing at the start of lent memory: what stands behind the bytes stays as it was.
-- Assumes nothing.
use Rattle.std.specs.Prelude.{ℕ, length, drop, List, ◌++◌}

-- an output with bytes written from its start
abbrev pub wrote : List ℕ → List ℕ → List ℕ
wrote bytes out = bytes ++ drop (length bytes) out
