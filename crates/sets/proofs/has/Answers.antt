-- Assumes nothing.
use Rattle.sets.specs.MaskLaws.{has_law, has-none}
use Rattle.sets.proofs.has.Goals as goal

pub returns-then-i-lt64 : goal.returns-then-i-lt64
returns-then-i-lt64 c = has_law c.args.m c.args.i

pub returns-else-i-lt64 : goal.returns-else-i-lt64
returns-else-i-lt64 c = has-none c.args.m c.args.i c.ranges.m.fits c.if-i-lt64.false
