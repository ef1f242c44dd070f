-- Assumes nothing.
use Rattle.grant_grids.specs.Grid.{in_grid}
use Rattle.grant_grids.proofs.GridLaws.{differs}
use Rattle.grant_differences.proofs.differ_at.Goals as goal

pub returns : goal.returns
unfolding in_grid
returns c = differs c.has.ensures c.has-2.ensures
