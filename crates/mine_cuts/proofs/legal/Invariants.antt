-- Each cut is above the one before it and below the number of roles. Assumes nothing.
use Prim.Native.Nat.{◌≤◌}
use lib.ListN.{length, drop}
use mathlib.Core.Path.{◌≡◌}
use Rattle.files.specs.Calls.{cuts_ok}
use Rattle.files.proofs.CutLaws.{cuts_behind}
use Rattle.mine_cuts.proofs.legal.Given as goal

abbrev pub invariant-loop-i : goal.invariant-loop-i
invariant-loop-i l = (l.i ≤ length l.cuts) × (cuts_ok l.cuts l.roles ≡ cuts_behind l.roles l.low (drop l.i l.cuts))
