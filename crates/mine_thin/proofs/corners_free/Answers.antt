-- Assumes nothing.
use Rattle.mine_corners.specs.Pairing.{words_in}
use Rattle.mine_rows.specs.RowLaws.{corners-refused, corners-rest}
use Rattle.mine_thin.proofs.corners_free.Goals as goal

pub returns-then-corner_free : goal.returns-then-corner_free
returns-then-corner_free c =
    let a = c.args in
    corners-rest a.rows.now (words_in a.g) a.who a.what c.without.ensures c.corner_free.ensures c.if-corner_free.true c.without-then-corner_free.ensures c.corner_free-then-corner_free.ensures

pub returns : goal.returns
returns c =
    let a = c.args in
    corners-refused a.rows.now (words_in a.g) a.who a.what c.without.ensures c.corner_free.ensures c.if-corner_free.false
