use mathlib.Core.Path.{refl}
use Rattle.rule_operands.specs.Checked.{checked_operations}
use Rattle.rule_operands.specs.CheckedLaws.{made, not_made}
use Rattle.rule_operands.proofs.check_operations.Goals as goal

pub returns-then-operations_legal : goal.returns-then-operations_legal
unfolding checked_operations
returns-then-operations_legal c = made _ _ _ _ c.operations_legal.ensures c.if-operations_legal.true refl

pub returns : goal.returns
unfolding checked_operations
returns c = not_made _ _ _ c.operations_legal.ensures c.if-operations_legal.false
