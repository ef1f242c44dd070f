-- Assumes nothing.
use Rattle.rule_notes.specs.KeptLaws.{pair-within, pair-beyond, pair-none}
use Rattle.rule_notes.proofs.pair_number.Goals as goal

pub returns-then-b-lt-ATTRIBUTES : goal.returns-then-b-lt-ATTRIBUTES
returns-then-b-lt-ATTRIBUTES c = pair-within c.args.a c.args.b c.if-a-lt-ATTRIBUTES.true c.if-b-lt-ATTRIBUTES.true

pub returns-else-b-lt-ATTRIBUTES : goal.returns-else-b-lt-ATTRIBUTES
returns-else-b-lt-ATTRIBUTES c = pair-beyond c.args.a c.args.b c.if-a-lt-ATTRIBUTES.true c.if-b-lt-ATTRIBUTES.false

pub returns-else-a-lt-ATTRIBUTES : goal.returns-else-a-lt-ATTRIBUTES
returns-else-a-lt-ATTRIBUTES c = pair-none c.args.a c.args.b c.if-a-lt-ATTRIBUTES.false
