-- Assumes nothing.
use Prim.Native.Nat.{ℕ}
use lib.Dec.{eqb}
use mathlib.Core.Path.{ap}
use Rattle.mine_parts.proofs.is_head.Goals as goal

pub returns : goal.returns
returns c = ap (λ (x : ℕ). eqb x c.args.i) c.head_at.ensures
