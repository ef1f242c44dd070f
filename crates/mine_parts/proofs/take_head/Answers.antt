-- Assumes nothing.
use Prim.Native.Nat.{◌+◌, ◌*◌}
use lib.ListN.{set}
use mathlib.Core.Path.{ap}
use Rattle.mine_parts.proofs.take_head.Goals as goal

pub returns : goal.returns
returns c = let a = c.args in ap (set a.scratch.now (4 * a.k + 3)) c.headed_as.ensures
