-- Assumes nothing.
use lib.Count.{ones-le}
use native.Mathlib.Omega.{arith}
use Rattle.sets.specs.MaskLaws.{count_law}
use Rattle.sets.proofs.count.Goals as goal

pub overflow_cast-result : goal.overflow_cast-result
overflow_cast-result c = omega (arith, ones-le 64 c.args.m c.ranges.m.fits)

pub returns : goal.returns
returns c = count_law c.args.m c.ranges.m.fits
