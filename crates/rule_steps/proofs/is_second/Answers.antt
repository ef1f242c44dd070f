-- Assumes nothing.
use Rattle.rule_notes.specs.KeptLaws.{second-operations, second-level, second_none}
use Rattle.rule_steps.proofs.is_second.Goals as goal

pub returns-then-byte-eq-OPERATIONS : goal.returns-then-byte-eq-OPERATIONS
returns-then-byte-eq-OPERATIONS c = second-operations c.args.k c.args.byte c.if-byte-eq-OPERATIONS.true

pub returns-then-byte-eq-LEVEL : goal.returns-then-byte-eq-LEVEL
returns-then-byte-eq-LEVEL c = second-level c.args.k c.args.byte c.if-byte-eq-LEVEL.true

pub returns : goal.returns
returns c = second_none c.args.k c.args.byte c.if-byte-eq-OPERATIONS.false c.if-byte-eq-LEVEL.false
