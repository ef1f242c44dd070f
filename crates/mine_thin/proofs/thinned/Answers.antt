-- Assumes nothing.
use mathlib.Core.Path.{sym, ◌∙◌}
use Rattle.mine_corners.specs.Pairing.{words_in}
use Rattle.mine_present.specs.PlaceLaws.{less-one, thin_absent, thin-goes, thin-stays}
use Rattle.mine_thin.proofs.thinned.Goals as goal

pub returns-then-grants_same : goal.returns-then-grants_same
returns-then-grants_same c =
    let a = c.args in
    thin-goes a.links.now a.met.now a.sizes.users a.sizes.resources a.sizes.operations (words_in a.g) a.places a.place (sym c.has.ensures ∙ c.if-has.true)
    (less-one a.places a.place c.with.ensures c.without-fewer.ensures) c.grants_same.ensures c.if-grants_same.true

pub returns-else-grants_same : goal.returns-else-grants_same
returns-else-grants_same c =
    let a = c.args in
    thin-stays a.links.now a.met.now a.sizes.users a.sizes.resources a.sizes.operations (words_in a.g) a.places a.place (sym c.has.ensures ∙ c.if-has.true)
    (less-one a.places a.place c.with.ensures c.without-fewer.ensures) c.grants_same.ensures c.if-grants_same.false

pub returns-else-has : goal.returns-else-has
returns-else-has c =
    let a = c.args in
    thin_absent a.links.now a.met.now a.sizes.users a.sizes.resources a.sizes.operations (words_in a.g) a.places a.place (sym c.has.ensures ∙ c.if-has.false)
