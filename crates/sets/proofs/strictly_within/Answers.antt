-- Assumes nothing.
use mathlib.Core.Bool.{Bool, ◌&&◌, not, and-false, and-true}
use mathlib.Core.Path.{sym, ap, ◌∙◌}
use Rattle.sets.specs.Sets.{subset}
use Rattle.sets.proofs.strictly_within.Goals as goal

pub returns-then-within : goal.returns-then-within
returns-then-within c =
    let a = c.args in
    sym (ap (λ (x : Bool). subset a.a a.b && not x) (sym c.within.ensures ∙ c.if-within.true) ∙ and-false (subset a.a a.b))

pub returns : goal.returns
returns c =
    let a = c.args in
    c.within-2.ensures ∙ sym (ap (λ (x : Bool). subset a.a a.b && not x) (sym c.within.ensures ∙ c.if-within.false) ∙ and-true (subset a.a a.b))
