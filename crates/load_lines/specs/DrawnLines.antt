-- The lines of a run of draws, by their sort.
-- Assumes nothing.
use Rattle.std.specs.Prelude.{ℕ, ◌+◌, ◌<◌, List}
use Rattle.files.specs.Load.{value_line, assign_line, permit_line, senior_line}
use Rattle.load_lines.specs.declared.Draws.{Draws}
use Rattle.load_lines.specs.declared.Draws.TheVariants.{Values, Users, Operations, Seniors}

-- what a draw writes in turn i of its run
abbrev pub line_of : Draws → (turn draw : ℕ) → List ℕ
line_of (Values side) i x = value_line side i x
line_of (Users k) i x = assign_line k i x
line_of (Operations k r) i x = permit_line k r i x
line_of (Seniors j) i x = senior_line j (j + 1 + i) x

-- every number of that line is a byte
abbrev pub Fits : Draws → ℕ → Type 0
Fits (Values side) i = (side < 256) × (i < 256)
Fits (Users k) i = (k < 256) × (i < 256)
Fits (Operations k r) i = (k < 256) × (r < 256) × (i < 256)
Fits (Seniors j) i = (j < 256) × (j + 1 + i < 256)
