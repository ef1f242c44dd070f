-- Assumes nothing.
use Rattle.sets.specs.MaskLaws.{with_law, with_none}
use Rattle.sets.proofs.with.Goals as goal

pub returns-then-i-lt64 : goal.returns-then-i-lt64
returns-then-i-lt64 c = with_law c.args.m c.args.i c.ranges.m.fits c.if-i-lt64.true

pub returns-else-i-lt64 : goal.returns-else-i-lt64
returns-else-i-lt64 c = with_none c.args.m c.args.i c.ranges.m.fits c.if-i-lt64.false
