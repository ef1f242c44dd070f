-- Assumes nothing.
use Rattle.std.specs.Option.{is_some}
use Rattle.std.proofs.Common.{refl}
use Rattle.grant_grids.proofs.GridLaws.{told_same}
use Rattle.mine_exact.proofs.grants_just.Goals as goal

pub returns : goal.returns
returns c = told_same is_some refl (λ t. refl) c.first_beyond.result c.is_none.result c.is_none.ensures c.first_beyond.ensures
