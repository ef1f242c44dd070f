-- Assumes nothing.
use mathlib.Core.Path.{sym, ◌∙◌}
use Rattle.rule_notes.specs.KeptLaws.{follow-outside, follow-second, follow-inside}
use Rattle.rule_steps.proofs.follows.Goals as goal

pub returns-then-is_second : goal.returns-then-is_second
returns-then-is_second c =
    let a = c.args in
    follow-second a.k a.line c.if-k.true (sym c.is_second.ensures ∙ c.if-is_second.true)

pub returns-then-k : goal.returns-then-k
returns-then-k c =
    let a = c.args in
    c.before-then-k.ensures ∙ follow-inside a.k a.line c.if-k.true (sym c.is_second.ensures ∙ c.if-is_second.false)

pub returns : goal.returns
returns c = let a = c.args in follow-outside a.k a.line c.if-k.false
