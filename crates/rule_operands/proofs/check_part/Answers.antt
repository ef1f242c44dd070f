use mathlib.Core.Path.{refl}
use Rattle.rule_operands.specs.Checked.{checked_part}
use Rattle.rule_operands.specs.CheckedLaws.{made, not_made}
use Rattle.rule_operands.proofs.check_part.Goals as goal

pub returns-then-part_legal : goal.returns-then-part_legal
unfolding checked_part
returns-then-part_legal c = made _ _ _ _ c.part_legal.ensures c.if-part_legal.true refl

pub returns : goal.returns
unfolding checked_part
returns c = not_made _ _ _ c.part_legal.ensures c.if-part_legal.false
