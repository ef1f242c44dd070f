-- Assumes nothing.
use Rattle.mine_join.specs.JoinedLaws.{joined-heads}
use Rattle.mine_join.proofs.join.Goals as goal

pub returns : goal.returns
returns c =
    joined-heads c.requires.0 c.requires.1 c.take_in.ensures c.take_head.ensures
