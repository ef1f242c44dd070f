-- The invariants: nothing differs before the user, at the user before the resource, at the resource before the operation. The loop
-- that has the label is left in its first turn, so it keeps nothing. Assumes nothing.
use Prim.Native.Nat.{◌≤◌}
use Rattle.grant_grids.specs.Grid.{in_grid}
use Rattle.grant_grids.proofs.GridLaws.{UsersPassed, ResourcesPassed, OperationsPassed}
use Rattle.grant_differences.proofs.first_difference.Given as goal

abbrev pub invariant-loop-o : goal.invariant-loop-o
invariant-loop-o l = (l.o ≤ l.operations) × OperationsPassed (in_grid l.a) (in_grid l.b) l.u l.r l.o

abbrev pub invariant-loop-r : goal.invariant-loop-r
invariant-loop-r l = (l.r ≤ l.resources) × ResourcesPassed (in_grid l.a) (in_grid l.b) l.operations l.u l.r

abbrev pub invariant-loop-u : goal.invariant-loop-u
invariant-loop-u l = (l.u ≤ l.users) × UsersPassed (in_grid l.a) (in_grid l.b) l.resources l.operations l.u

abbrev pub invariant-triples : goal.invariant-triples
invariant-triples l = Unit {0}

abbrev pub decreases-triples : goal.decreases-triples
decreases-triples l = 0
