-- Assumes nothing.
use Rattle.grant_grids.specs.Grid.{in_grid}
use Rattle.grant_grids.proofs.has.Goals as goal

pub returns : goal.returns
unfolding in_grid
returns c = c.has.ensures
