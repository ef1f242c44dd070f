-- Assumes nothing.
use mathlib.Core.Path.{sym, ◌∙◌}
use Rattle.grant_links.specs.LinkedLaws.{row-met, row_unmet}
use Rattle.grant_links.proofs.row.Goals as goal

pub returns-then-has : goal.returns-then-has
returns-then-has c =
    let a = c.args in
    row-met a.links.now a.atoms a.users a.resources a.user c.linked.result (sym c.has.ensures ∙ c.if-has.true) c.linked.ensures

pub returns : goal.returns
returns c =
    let a = c.args in
    row_unmet a.links.now a.atoms a.users a.resources a.user (sym c.has.ensures ∙ c.if-has.false)
