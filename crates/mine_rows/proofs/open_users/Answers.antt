-- Assumes nothing.
use Rattle.mine_corners.specs.Pairing.{words_in}
use Rattle.mine_rows.specs.RowLaws.{open_some, open_all}
use Rattle.mine_rows.proofs.open_users.Goals as goal

pub returns-then-within : goal.returns-then-within
returns-then-within c =
    let a = c.args in
    open_some (words_in a.g) a.full a.who a.what c.within.ensures c.if-within.true c.without.ensures

pub returns : goal.returns
returns c =
    let a = c.args in
    open_all (words_in a.g) a.full a.who a.what c.within.ensures c.if-within.false
