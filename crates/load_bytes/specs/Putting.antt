-- Bytes put into lent memory.
-- Assumes nothing.
use Rattle.std.specs.Prelude.{ℕ, ◌+◌, length, List, ◌≡◌}
use Rattle.std.proofs.lemmas.List.Edits.{sets}

-- bytes are put into memory from a place on, as far as it goes, and r is the place behind them
abbrev pub Put : (bytes out : List ℕ) (at : ℕ) (out' : List ℕ) (r : ℕ) → Type 0
Put bytes out at out' r = (out' ≡ sets out at bytes) × (r ≡ at + length bytes)
