-- Assumes nothing.
use mathlib.Core.Path.{sym, ◌∙◌}
use Rattle.write_sizes.specs.ListSizeLaws.{size_none, size-kept}
use Rattle.write_sizes.proofs.place_size.Goals as goal

pub returns-then-has : goal.returns-then-has
returns-then-has c =
    let a = c.args in
    size-kept a.distinct.now a.having.now a.inside.now a.kinds.now a.scratch.now a.head a.kept a.place _ _ _ c.set_place-set.result c.requires.1 (sym c.has.ensures ∙ c.if-has.true) c.members_at-members.ensures c.set_place-set.ensures c.listed_size.ensures

pub returns : goal.returns
returns c =
    let a = c.args in
    size_none a.distinct.now a.having.now a.inside.now a.kinds.now a.scratch.now a.head a.kept a.place (sym c.has.ensures ∙ c.if-has.false)
