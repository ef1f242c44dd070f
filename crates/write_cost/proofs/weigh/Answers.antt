-- Assumes nothing.
use borrow.Author.Rules.{rules}
use Rattle.write_cost.specs.CostSums.{weighed}
use Rattle.write_cost.proofs.weigh.Goals as goal

pub returns : goal.returns
unfolding weighed
returns c = search rules
