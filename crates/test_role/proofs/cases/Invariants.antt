-- The measure is what is left of the corpus: a case takes a byte or more. Assumes nothing.
use Rattle.std.proofs.Common.{length}
use Rattle.test_role.proofs.cases.Given as goal

abbrev pub decreases-loop-rest : goal.decreases-loop-rest
decreases-loop-rest g l = length l.rest
