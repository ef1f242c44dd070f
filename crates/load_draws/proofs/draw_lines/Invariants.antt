-- The invariant: i draws are made. Assumes nothing.
use Prim.Native.Nat.{◌≤◌}
use Rattle.load_draws.specs.Runs.{Ran, drawn_lines}
use Rattle.load_draws.proofs.draw_lines.Given as goal

abbrev pub invariant-loop-i : goal.invariant-loop-i
invariant-loop-i l = (l.i ≤ l.n) × Ran (drawn_lines l.draws l.i) (record { at = l.initial.at; last = l.initial.last }) l.initial.out l.out (record { at = l.at; last = l.last })
