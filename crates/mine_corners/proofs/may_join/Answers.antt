-- Assumes nothing.
use Rattle.mine_corners.specs.MayJoinLaws.{first-fails, second_decides}
use Rattle.mine_corners.specs.Pairing.{words_in, corners_free, may_join}
use Rattle.mine_corners.proofs.may_join.Goals as goal

pub returns-then-near : goal.returns-then-near
unfolding may_join
returns-then-near c = second_decides c.near.ensures c.if-near.true c.corners_free.ensures

pub returns : goal.returns
unfolding may_join
returns c =
    let a = c.args in
    first-fails (corners_free a.links.now (words_in a.g) (words_in a.h)) c.near.ensures c.if-near.false
