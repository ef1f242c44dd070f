use mathlib.Core.Path.{refl}
use Rattle.rule_operands.specs.Checked.{checked_value}
use Rattle.rule_operands.specs.CheckedLaws.{made, not_made}
use Rattle.rule_operands.proofs.check_value.Goals as goal

pub returns-then-value_legal : goal.returns-then-value_legal
unfolding checked_value
returns-then-value_legal c = made _ _ _ _ c.value_legal.ensures c.if-value_legal.true refl

pub returns : goal.returns
unfolding checked_value
returns c = not_made _ _ _ c.value_legal.ensures c.if-value_legal.false
