-- The shifts are products and quotients of 32 bits. Assumes nothing.
use mathlib.Core.Path.{refl}
use Rattle.files.specs.Load.{xorshift}
use Rattle.load_draws.proofs.next.Goals as goal

pub returns : goal.returns
unfolding xorshift
returns c = refl
