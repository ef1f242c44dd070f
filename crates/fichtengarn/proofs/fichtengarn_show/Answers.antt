-- Assumes nothing.
use Rattle.std.proofs.Common.{◌≤◌, sym, ap, subst, ◌∙◌, arith}
use Rattle.fichtengarn.specs.NumberLaws.{in-order}
use Rattle.rule_show.specs.RuleShowLaws.{told-so}
use Rattle.rule_show.specs.declared.Place.{Place}
use Rattle.fichtengarn.proofs.fichtengarn_show.Goals as goal

pub returns : goal.returns
returns c =
    let a = c.args in
    let t = told-so a.file.now a.rules.now a.rule c.locate.result c.locate.ensures.0 in
    let p = c.tell-place.ensures.1 ∙ t.1 in
    let to = ap (λ (x : Place). x.to) p in
    let order = subst (λ (x : Place). x.from ≤ x.to) (sym c.tell-place.ensures.1) (in-order a.rules.now c.locate.result c.locate.ensures.1) in
    (ap (λ (x : Place). x.from) p, omega (arith, order, to), c.tell-place.ensures.0 ∙ t.0)
