-- Assumes nothing.
use Rattle.sets.specs.MaskLaws.{and_law}
use Rattle.sets.proofs.meet.Goals as goal

pub returns : goal.returns
returns c = and_law c.args.a c.args.b c.ranges.a.fits c.ranges.b.fits
