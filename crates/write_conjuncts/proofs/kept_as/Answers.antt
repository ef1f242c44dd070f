-- Assumes nothing.
use mathlib.Core.Path.{sym, ◌∙◌}
use Rattle.write_theory.proofs.SectionLaws.{kept-none, kept_kind}
use Rattle.write_conjuncts.proofs.kept_as.Goals as goal

pub returns-then-has : goal.returns-then-has
returns-then-has c =
    let a = c.args in
    kept_kind a.kinds.now a.kept a.set a.place c.set_place.result (sym c.has.ensures ∙ c.if-has.true) c.set_place.ensures

pub returns : goal.returns
returns c = let a = c.args in kept-none a.kinds.now a.kept a.set a.place (sym c.has.ensures ∙ c.if-has.false)
