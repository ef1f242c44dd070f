-- Assumes nothing.
use mathlib.Core.Bool.{◌&&◌, ◌||◌}
use mathlib.Core.Path.{ap₂}
use Rattle.grant_grids.proofs.GridLaws.{differs}
use Rattle.mine_exact.proofs.differ_at.Goals as goal

pub returns : goal.returns
returns c =
    differs (ap₂ ◌&&◌ c.has.ensures c.has-2.ensures)
    (ap₂ ◌||◌ (ap₂ ◌&&◌ c.has-3.ensures c.has-4.ensures) (ap₂ ◌&&◌ c.has-5.ensures c.has-6.ensures))
