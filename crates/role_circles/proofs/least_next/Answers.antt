use borrow.Author.Rules.{rules}
use Rattle.role_circles.specs.BackLaws.{least-so}
use Rattle.role_circles.proofs.least_next.Goals as goal

pub returns : goal.returns
returns c = search (rules, least-so)
