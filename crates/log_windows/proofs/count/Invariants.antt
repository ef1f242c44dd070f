-- The invariant: the records before i are within the sizes, and the count and the worst are theirs. Assumes nothing.
use Prim.Native.Nat.{◌≤◌}
use Rattle.files.specs.Denials.{denied_by}
use Rattle.files.proofs.WindowLaws.{SoFar}
use Rattle.grant_grids.specs.Grid.{in_grid}
use Rattle.log_windows.specs.CountingLaws.{Within}
use Rattle.log_windows.proofs.count.Given as goal

abbrev pub invariant-loop-i : goal.invariant-loop-i
invariant-loop-i l = (l.i ≤ l.records) × Within l.sizes l.log l.i × SoFar (denied_by (in_grid l.grid) l.log) l.window l.i l.counted l.most l.start
