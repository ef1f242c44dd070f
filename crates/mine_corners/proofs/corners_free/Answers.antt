-- Assumes nothing.
use Rattle.mine_corners.specs.MayJoinLaws.{corners-refused, corners-rest}
use Rattle.mine_corners.specs.Pairing.{words_in}
use Rattle.mine_corners.proofs.corners_free.Goals as goal

pub returns-then-corner_free : goal.returns-then-corner_free
returns-then-corner_free c =
    let a = c.args in
    corners-rest (words_in a.g) (words_in a.h) a.links.now c.meet-atoms.ensures c.without.ensures c.without-2.ensures c.without-then-corner_free.ensures c.without-then-corner_free-2.ensures
    c.corner_free.ensures c.if-corner_free.true c.corner_free-then-corner_free.ensures

pub returns : goal.returns
returns c =
    let a = c.args in
    corners-refused (words_in a.g) (words_in a.h) a.links.now c.meet-atoms.ensures c.without.ensures c.without-2.ensures c.corner_free.ensures c.if-corner_free.false
