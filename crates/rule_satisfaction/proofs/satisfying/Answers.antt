-- Assumes nothing.
use borrow.Author.Rules.{rules}
use Rattle.rule_satisfaction.proofs.HalvesLaws.{halves-whole}
use Rattle.rule_satisfaction.proofs.satisfying.Goals as goal

pub returns : goal.returns
returns c =
    let a = c.args in
    halves-whole a.met.now a.kinds.now a.asked a.side c.requires.0 a.count c.singles_satisfied-in_singles.result c.sets_satisfied-in_sets.result _
    c.singles_satisfied-in_singles.ensures.0 c.sets_satisfied-in_sets.ensures.0 (search rules)
