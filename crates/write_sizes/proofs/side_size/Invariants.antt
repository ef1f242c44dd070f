-- The invariant: the size of so many conjuncts of the side. Assumes nothing.
use Rattle.write_sizes.specs.ListSizeLaws.{Conjuncts}
use Rattle.write_sizes.proofs.side_size.Given as goal

abbrev pub invariant-loop-j : goal.invariant-loop-j
invariant-loop-j l = Conjuncts l.distinct l.having l.inside l.kinds l.scratch l.head l.kept l.side l.bytes l.cost l.j
