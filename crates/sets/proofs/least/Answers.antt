-- Assumes nothing.
use lib.Count.{trailing_le}
use native.Mathlib.Omega.{arith}
use Rattle.sets.specs.MaskLaws.{least_law}
use Rattle.sets.proofs.least.Goals as goal

pub overflow_cast-result : goal.overflow_cast-result
overflow_cast-result c = omega (arith, trailing_le 64 c.args.m)

pub returns : goal.returns
returns c = least_law c.args.m
