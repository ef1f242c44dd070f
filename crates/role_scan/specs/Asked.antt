-- What is asked of a value: that it contains a set, or that it is a number.
-- Assumes nothing.
use Rattle.std.specs.Prelude.{ℕ, Bool, eqb}
use Rattle.role_scan.specs.declared.Containing.{Containing}
use Rattle.role_scan.specs.declared.Equal.{Equal}
use Rattle.sets.specs.Sets.{subset}

-- the value contains the set
abbrev pub contains : Containing → ℕ → Bool
contains asked value = subset asked.0 value

-- the value is the number
abbrev pub equals : Equal → ℕ → Bool
equals asked value = eqb asked.0 value
