-- A run of draws whose lines are put into lent memory.
-- Assumes nothing.
use Rattle.std.specs.Prelude.{ℕ, List, ◌≡◌}
use Rattle.files.specs.Load.{Run, draw, times}
use Rattle.load_bytes.specs.Putting.{Put}
use Rattle.load_draws.specs.declared.Drawn.{Drawn}
use Rattle.load_lines.specs.DrawnLines.{line_of}
use Rattle.load_lines.specs.declared.Draws.{Draws}

-- a run was made from d on: its lines stand in memory, and r is where the next line goes and the generator's last output
abbrev pub Ran : Run → (d : Drawn) (out out' : List ℕ) (r : Drawn) → Type 0
Ran f d out out' r = Put (f d.last).0 out d.at out' r.at × (r.last ≡ (f d.last).1)

-- n draws that make lines of one sort
abbrev pub drawn_lines : Draws → ℕ → Run
drawn_lines s n = times n (λ i. draw (line_of s i))
