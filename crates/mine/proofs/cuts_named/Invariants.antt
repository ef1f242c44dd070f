-- No more cuts are held than there is room for. Assumes nothing.
use Rattle.std.proofs.Common.{length, ◌≤◌, ◌≡◌}
use Rattle.mine.proofs.cuts_named.Given as goal

abbrev pub invariant-loop-i : goal.invariant-loop-i
invariant-loop-i l = (1 ≤ l.i) × (l.held ≤ length l.initial.cuts) × (length l.cuts ≡ length l.initial.cuts)
