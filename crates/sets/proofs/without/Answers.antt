-- Assumes nothing.
use Rattle.sets.specs.MaskLaws.{without_law}
use Rattle.sets.proofs.without.Goals as goal

pub returns : goal.returns
returns c = without_law c.args.a c.args.b c.ranges.a.fits c.ranges.b.fits
