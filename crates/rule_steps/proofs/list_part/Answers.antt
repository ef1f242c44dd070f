-- Assumes nothing.
use mathlib.Core.Path.{sym, ap, ◌∙◌, subst}
use Rattle.rule_notes.specs.KeptLaws.{seen-other, again-other}
use Rattle.rule_notes.specs.LineSteps.{PartWithin, seen_by, again_by}
use Rattle.rule_steps.proofs.list_part.Goals as goal

pub list-requires : goal.list-requires
unfolding PartWithin
list-requires c = subst PartWithin c.in-Part.is c.requires

pub returns-in-Part : goal.returns-in-Part
unfolding seen_by again_by
returns-in-Part c =
    let a = c.args in
    let e = sym c.in-Part.is in
    (c.list.ensures.0 ∙ ap (seen_by a.seen.now) e, c.list.ensures.1 ∙ ap (again_by a.seen.now a.again.now) e)

pub returns-in_default : goal.returns-in_default
returns-in_default c = let h = c.in_default.not-Part in let a = c.args in (seen-other a.seen.now a.c h, again-other a.seen.now a.again.now a.c h)
