-- Assumes nothing.
use Rattle.rule_notes.specs.KeptLaws.{place-low, place-own}
use Rattle.rule_notes.proofs.place.Goals as goal

pub returns-then-attribute-lt-ATTRIBUTES : goal.returns-then-attribute-lt-ATTRIBUTES
returns-then-attribute-lt-ATTRIBUTES c = place-low c.args.side c.args.attribute c.if-attribute-lt-ATTRIBUTES.true

pub returns : goal.returns
returns c = place-own c.args.side c.args.attribute c.if-attribute-lt-ATTRIBUTES.false
