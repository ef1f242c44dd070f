-- Assumes nothing.
use borrow.Author.Rules.{rules}
use mathlib.Core.Path.{sym, ap, ◌∙◌, subst}
use Rattle.rule_notes.specs.KeptLaws.{met-other}
use Rattle.rule_notes.specs.LineSteps.{met_after}
use Rattle.rule_commands.specs.Raw.{Sided}
use Rattle.rule_notes.proofs.meet_line.Goals as goal

pub meet_value-requires : goal.meet_value-requires
unfolding Sided
meet_value-requires c = (subst Sided c.in-Value.is c.requires.0, search rules)

pub returns-in-Value : goal.returns-in-Value
unfolding met_after
returns-in-Value c =
    let f = c.args.f.now in
    c.meet_value.ensures ∙ ap (met_after f.users f.resources f.roles f.known f.values f.holders c.args.met.now) (sym c.in-Value.is)

pub returns-in_default : goal.returns-in_default
returns-in_default c =
    let f = c.args.f.now in
    met-other f.users f.resources f.roles f.known f.values f.holders c.args.met.now c.args.c c.in_default.not-Value
