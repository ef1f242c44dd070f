-- Assumes nothing.
use mathlib.Core.Path.{sym, ◌∙◌}
use Rattle.mine_corners.specs.Pairing.{words_in}
use Rattle.mine_rows.specs.RowLaws.{row-there, row-nobody}
use Rattle.mine_rows.proofs.row_in.Goals as goal

pub returns-then-has : goal.returns-then-has
returns-then-has c =
    let a = c.args in
    row-there a.rows.now (words_in a.g) a.user (sym c.has.ensures ∙ c.if-has.true) c.meet.ensures

pub returns : goal.returns
returns c =
    let a = c.args in
    row-nobody a.rows.now (words_in a.g) a.user (sym c.has.ensures ∙ c.if-has.false)
