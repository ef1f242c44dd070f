-- Assumes nothing.
use mathlib.Core.Bool.{◌&&◌}
use mathlib.Core.Path.{ap₂}
use Rattle.grant_grids.proofs.GridLaws.{differs}
use Rattle.mine_others.proofs.differ_at.Goals as goal

pub returns : goal.returns
returns c = differs (ap₂ ◌&&◌ c.has-granted.ensures c.has.ensures) (ap₂ ◌&&◌ c.has-granted.ensures c.has-2.ensures)
