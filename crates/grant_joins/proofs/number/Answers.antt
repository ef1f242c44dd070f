use Rattle.std.proofs.Common.{get_or, eqb, rules, tests, ◌∙◌, ◌+◌, ◌*◌}
use Rattle.grant_joins.specs.Tables.{value_count}
use Rattle.sets.specs.SearchLaws.{first_below}
use Rattle.grant_joins.proofs.number.Goals as goal

pub returns : goal.returns
unfolding value_count
returns c = c.unwrap_or.ensures ∙ first_below (λ k. eqb (get_or c.args.having.now (64 * c.args.place + k) 0) 0) c.position.ensures.ran (λ x b q k. search (rules, tests))
