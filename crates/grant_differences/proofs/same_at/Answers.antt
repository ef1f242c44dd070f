-- Assumes nothing.
use mathlib.Core.Path.{sym, ◌∙◌}
use Rattle.grant_blocks.specs.RowsLaws.{compared_in, compared-out}
use Rattle.grant_differences.proofs.same_at.Goals as goal

pub returns-then-has : goal.returns-then-has
returns-then-has c =
    let a = c.args in
    compared_in a.rows.now a.acts a.operation a.grid.now (sym c.has.ensures ∙ c.if-has.true) c.rows_at.ensures

pub returns : goal.returns
returns c =
    let a = c.args in
    compared-out a.rows.now a.acts a.operation a.grid.now (sym c.has.ensures ∙ c.if-has.false) c.rows_at-2.ensures
