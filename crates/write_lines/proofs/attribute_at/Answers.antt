-- Assumes nothing.
use Rattle.write_lines.proofs.ValueLineLaws.{attribute-own, attribute-other}
use Rattle.write_lines.proofs.attribute_at.Goals as goal

pub returns-then-place-eq-ATTRIBUTES : goal.returns-then-place-eq-ATTRIBUTES
returns-then-place-eq-ATTRIBUTES c = attribute-own c.args.place c.if-place-eq-ATTRIBUTES.true

pub returns : goal.returns
returns c = attribute-other c.args.place c.if-place-eq-ATTRIBUTES.false
