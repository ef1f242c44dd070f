-- Assumes nothing.
use mathlib.Core.Path.{sym, ◌∙◌}
use Rattle.mine_corners.specs.Pairing.{words_in}
use Rattle.mine_present.specs.PlaceLaws.{met-there, met-nobody}
use Rattle.mine_present.proofs.met_at.Goals as goal

pub returns-then-has : goal.returns-then-has
returns-then-has c =
    let a = c.args in
    met-there a.matches.now (words_in a.g) a.places a.place (sym c.has.ensures ∙ c.if-has.true) c.members_at.ensures c.met_by.ensures

pub returns : goal.returns
returns c =
    let a = c.args in
    met-nobody a.matches.now (words_in a.g) a.places a.place (sym c.has.ensures ∙ c.if-has.false)
