-- Assumes nothing.
use Rattle.rule_notes.specs.KeptLaws.{levelled-other, levelled-29}
use Rattle.rule_steps.proofs.levelled.Goals as goal

pub returns-then-line-ne-LEVEL : goal.returns-then-line-ne-LEVEL
returns-then-line-ne-LEVEL c = let a = c.args in levelled-other a.k a.line c.if-line-ne-LEVEL.true

pub returns : goal.returns
returns c =
    let a = c.args in
    levelled-29 a.k a.line _ _ _ c.if-line-ne-LEVEL.false c.has-roles.ensures c.has-numbers.ensures c.level.ensures
