-- Assumes nothing.
use mathlib.Core.Path.{sym, ◌∙◌}
use Rattle.std.proofs.lemmas.Result.{err_from_is_err_and}
use Rattle.rule_opening.specs.OpeningLaws.{opening-fails, opening-other, opening-unlike, opening-alike}
use Rattle.rule_opening.proofs.opening.Goals as goal

pub returns-in_err-line : goal.returns-in_err-line
returns-in_err-line c =
    let p = err_from_is_err_and c.from_residual.result c.from_residual.ensures.1 in
    rw (p.1, p.2) (opening-fails _ _ _ (sym c.in_err-line.ensures))

pub returns-then-line-ne-SHAPE : goal.returns-then-line-ne-SHAPE
returns-then-line-ne-SHAPE c = opening-other _ _ _ _ (sym c.in_ok-line.ensures) c.if-line-ne-SHAPE.true

pub returns-then-not-same_shape : goal.returns-then-not-same_shape
returns-then-not-same_shape c = opening-unlike _ _ _ _ (sym c.in_ok-line.ensures) c.if-line-ne-SHAPE.false (sym c.same_shape.ensures ∙ c.if-not-same_shape.true)

pub returns : goal.returns
returns c = opening-alike _ _ _ _ (sym c.in_ok-line.ensures) c.if-line-ne-SHAPE.false (sym c.same_shape.ensures ∙ c.if-not-same_shape.false)
