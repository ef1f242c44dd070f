-- Assumes nothing.
use Rattle.std.specs.Option.{is_some}
use Rattle.std.proofs.Common.{refl}
use Rattle.grant_grids.proofs.GridLaws.{told_same}
use Rattle.mine_rows.specs.Others.{no_other}
use Rattle.mine_others.proofs.no_other.Goals as goal

pub returns : goal.returns
unfolding no_other
returns c = told_same is_some refl (λ t. refl) c.first_other.result c.is_none.result c.is_none.ensures c.first_other.ensures
