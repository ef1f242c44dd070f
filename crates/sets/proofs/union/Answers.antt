-- Assumes nothing.
use Rattle.sets.specs.MaskLaws.{or_law}
use Rattle.sets.proofs.union.Goals as goal

pub returns : goal.returns
returns c = or_law c.args.a c.args.b c.ranges.a.fits c.ranges.b.fits
