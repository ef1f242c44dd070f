-- Assumes nothing.
use mathlib.Core.Path.{◌∙◌}
use Rattle.rule_notes.specs.KeptLaws.{finish-inside, finish-outside}
use Rattle.rule_steps.proofs.finish.Goals as goal

pub returns-then-k : goal.returns-then-k
returns-then-k c =
    let a = c.args in
    let f = finish-inside a.k a.met.now a.listed.now a.links.now a.f.now.users a.f.now.resources a.f.now.operations a.grid.now c.if-k.true in
    (c.close.ensures.0 ∙ f.0, c.close.ensures.1 ∙ f.1)

pub returns : goal.returns
returns c =
    let a = c.args in
    finish-outside a.k a.met.now a.listed.now a.links.now a.f.now.users a.f.now.resources a.f.now.operations a.grid.now c.if-k.false
