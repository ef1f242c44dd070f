use Rattle.std.proofs.Common.{rules, tests, get_or}
use Rattle.sets.specs.Sets.{bit}
use Rattle.sets.specs.SearchLaws.{any_below}
use Rattle.role_seniority.proofs.circular.Goals as goal

pub returns : goal.returns
returns c = any_below (λ k. bit (get_or c.args.t.now k 0) k) c.any.ensures.ran (λ x b q k. search (rules, tests))
