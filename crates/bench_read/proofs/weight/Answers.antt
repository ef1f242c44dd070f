-- The weight is what the four words add up to. Assumes nothing.
use Rattle.std.proofs.Common.{refl}
use Rattle.bench_read.specs.ReadChecksum.{weight_of}
use Rattle.bench_read.proofs.weight.Goals as goal

pub returns : goal.returns
unfolding weight_of
returns c = refl
