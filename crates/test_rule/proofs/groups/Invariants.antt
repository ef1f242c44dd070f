-- The measure is what is left of the corpus: a group takes a byte or more. Assumes nothing.
use Rattle.std.proofs.Common.{length}
use Rattle.test_rule.proofs.groups.Given as goal

abbrev pub decreases-loop-rest : goal.decreases-loop-rest
decreases-loop-rest g l = length l.rest
