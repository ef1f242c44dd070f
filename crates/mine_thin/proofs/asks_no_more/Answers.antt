-- Assumes nothing.
use Rattle.mine_corners.specs.Pairing.{words_in}
use Rattle.mine_rows.specs.RowLaws.{asks_nothing, asks-some}
use Rattle.mine_thin.proofs.asks_no_more.Goals as goal

pub returns-then-meet-eq0 : goal.returns-then-meet-eq0
returns-then-meet-eq0 c =
    let a = c.args in
    asks_nothing (words_in a.g) a.atoms a.who a.what a.operations c.below.ensures c.meet.ensures c.if-meet-eq0.true

pub returns : goal.returns
returns c =
    let a = c.args in
    asks-some (words_in a.g) a.atoms a.who a.what a.operations c.below.ensures c.meet.ensures c.if-meet-eq0.false c.within.ensures c.within-2.ensures c.within-3.ensures
