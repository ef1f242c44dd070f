-- The invariant: i roles behind the lowest are written, and the rest is possible. Assumes nothing.
use Prim.Native.Nat.{◌≤◌, ◌<◌}
use Rattle.role_circles.specs.BackLaws.{Listing}
use Rattle.role_circles.proofs.write.Given as goal

abbrev pub invariant-loop-i : goal.invariant-loop-i
invariant-loop-i l = (l.i ≤ l.more) × (l.x < l.roles) × Listing l.lines l.roles l.low l.more l.initial.out l.out l.i l.x
