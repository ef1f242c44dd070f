-- Assumes nothing.
use mathlib.Core.Path.{refl}
use Rattle.rule_notes.specs.Tally.{counted_with}
use Rattle.rule_steps.proofs.counted.Goals as goal
use Rattle.rule_steps.proofs.counted.Goals.{else-not-same-via-then-not-same+else-is_none, else-not-same-via-else-not-same}

pub returns-then-is_none : goal.returns-then-is_none
unfolding counted_with
returns-then-is_none c = rw (c.if-not-same.true, c.if-is_none.ensures) refl

pub returns-else-not-same : goal.returns-else-not-same
unfolding counted_with
returns-else-not-same c = elim c.else-not-same.branch [ else-not-same-via-then-not-same+else-is_none w ↦ rw (w.if-not-same.true, w.if-is_none.ensures) refl | else-not-same-via-else-not-same w ↦ rw w.if-not-same.false refl ]
