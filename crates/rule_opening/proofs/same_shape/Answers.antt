-- Assumes nothing.
use borrow.Author.Rules.{rules}
use Rattle.rule_opening.specs.OpeningLaws.{same-six}
use Rattle.rule_opening.proofs.same_shape.Goals as goal

pub returns : goal.returns
returns c =
    same-six c.args.rules.now _ _ _ _ _ _ _ _ _ _ _ _ c.byte_at.ensures.0 c.byte_at-2.ensures.0 c.byte_at-3.ensures.0 c.byte_at-4.ensures.0 c.byte_at-5.ensures.0 c.byte_at-6.ensures.0
