-- Assumes nothing.
use Rattle.sets.specs.MemberLaws.{clear_least}
use Rattle.sets.proofs.without_least.Goals as goal

pub returns : goal.returns
returns c = clear_least c.args.m c.ranges.m.fits c.requires
