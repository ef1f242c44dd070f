-- Assumes nothing.
use Rattle.mine_corners.specs.Pairing.{words_in}
use Rattle.mine_rows.specs.RowLaws.{full-told}
use Rattle.mine_rows.proofs.is_full.Goals as goal

pub returns : goal.returns
returns c =
    let a = c.args in
    full-told a.rows.now (words_in a.g) a.user c.has.ensures c.within.ensures
