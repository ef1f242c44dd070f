-- The invariants: nothing differs before the user, at the user before the resource, at the resource before the operation. The loop
-- that has the label is left in its first turn, so it keeps nothing. Assumes nothing.
use Prim.Native.Nat.{◌≤◌}
use Rattle.grant_grids.proofs.GridLaws.{UsersPassed, ResourcesPassed, OperationsPassed}
use Rattle.mine_corners.specs.Pairing.{words_in, table_spans}
use Rattle.mine_rows.specs.FirstOtherLaws.{ruled}
use Rattle.mine_others.proofs.first_other.Given as goal

abbrev pub invariant-loop-o : goal.invariant-loop-o
invariant-loop-o l = (l.o ≤ l.sizes.operations) × OperationsPassed (ruled l.links (words_in l.g) l.atoms l.who l.what) (table_spans l.links (words_in l.g)) l.u l.r l.o

abbrev pub invariant-loop-r : goal.invariant-loop-r
invariant-loop-r l = (l.r ≤ l.sizes.resources) × ResourcesPassed (ruled l.links (words_in l.g) l.atoms l.who l.what) (table_spans l.links (words_in l.g)) l.sizes.operations l.u l.r

abbrev pub invariant-loop-u : goal.invariant-loop-u
invariant-loop-u l = (l.u ≤ l.sizes.users) × UsersPassed (ruled l.links (words_in l.g) l.atoms l.who l.what) (table_spans l.links (words_in l.g)) l.sizes.resources l.sizes.operations l.u

abbrev pub invariant-triples : goal.invariant-triples
invariant-triples l = Unit {0}

abbrev pub decreases-triples : goal.decreases-triples
decreases-triples l = 0
