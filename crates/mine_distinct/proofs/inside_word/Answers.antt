-- Assumes nothing.
use mathlib.Core.Path.{sym, ◌∙◌}
use Rattle.mine_distinct.specs.InsideLaws.{inside_not_least, inside-nobody, inside-somebody}
use Rattle.mine_distinct.proofs.inside_word.Goals as goal

pub returns-then-not-lists_least : goal.returns-then-not-lists_least
returns-then-not-lists_least c =
    let a = c.args in
    inside_not_least a.kinds.now a.distinct.now a.having.now a.place a.number (sym c.lists_least.ensures ∙ c.if-not-lists_least.true)

pub returns-then-having-place-eq0 : goal.returns-then-having-place-eq0
returns-then-having-place-eq0 c =
    let a = c.args in
    inside-nobody a.kinds.now a.distinct.now a.having.now a.place a.number c.if-having-place-eq0.true

pub returns : goal.returns
returns c =
    let a = c.args in
    inside-somebody a.kinds.now a.distinct.now a.having.now a.place a.number c.within_before.result (sym c.lists_least.ensures ∙ c.if-not-lists_least.false) c.if-having-place-eq0.false c.within_before.ensures
