-- The invariant: the best of the roles before a. Assumes nothing.
use Prim.Native.Nat.{◌≤◌}
use Rattle.role_circles.specs.BackLaws.{Sofar}
use Rattle.role_circles.proofs.shortest.Given as goal

abbrev pub invariant-loop-a : goal.invariant-loop-a
invariant-loop-a l = (l.a ≤ l.roles) × Sofar l.lines l.roles l.a l.low l.more
