-- Assumes nothing.
use mathlib.Core.Path.{refl}
use native.Mathlib.Omega.{arith}
use Prim.Native.Nat.{◌*◌, ◌<◌}
use Rattle.write_cost.specs.CostSumLaws.{product_low}
use Rattle.write_cost.proofs.product.Goals as goal
use Rattle.write_cost.proofs.product.Goals.{Start}

low : (c : Start) → c.args.weight * c.args.sum < 281474976710656
low c = product_low c.args.weight c.args.sum c.ranges.weight.fits c.ranges.sum.fits

pub overflow_mul-result : goal.overflow_mul-result
overflow_mul-result c = let l = low c in omega (arith, l)

pub returns : goal.returns
returns c = (refl, low c)
