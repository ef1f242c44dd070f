-- Assumes nothing.
use Rattle.mine_corners.specs.MayJoinLaws.{first-fails, second_decides}
use Rattle.mine_corners.specs.Pairing.{words_in, reaches}
use Rattle.mine_corners.proofs.near.Goals as goal

pub returns-then-reaches : goal.returns-then-reaches
returns-then-reaches c = second_decides c.reaches.ensures c.if-reaches.true c.reaches-then-reaches.ensures

pub returns : goal.returns
returns c =
    let a = c.args in
    first-fails (reaches (words_in a.h) (words_in a.g)) c.reaches.ensures c.if-reaches.false
