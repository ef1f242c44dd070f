-- Assumes nothing.
use mathlib.Core.Path.{sym, ap, subst}
use Rattle.rule_commands.specs.Raw.{Sided}
use Rattle.rule_notes.specs.KeptLaws.{noted-value, noted-link, noted-other}
use Rattle.rule_notes.specs.LineSteps.{noted_with}
use Rattle.rule_notes.proofs.note.Goals as goal

pub place-requires : goal.place-requires
unfolding Sided
place-requires c = subst Sided c.in-Value.is c.requires

pub returns-in-Value : goal.returns-in-Value
unfolding noted_with
returns-in-Value c = let a = c.args in noted-value a.k a.c a.line _ _ _ c.place.ensures c.with.ensures (ap (λ t. noted_with a.k t a.line) c.in-Value.is)

pub returns-in-Operations : goal.returns-in-Operations
unfolding noted_with
returns-in-Operations c = let a = c.args in ap (λ t. noted_with a.k t a.line) (sym c.in-Operations.is)

pub returns-in-Link : goal.returns-in-Link
unfolding noted_with
returns-in-Link c = let a = c.args in noted-link a.k a.c a.line _ _ _ c.atom_number.ensures c.with-in-Link.ensures (ap (λ t. noted_with a.k t a.line) c.in-Link.is)

pub returns-in-Part : goal.returns-in-Part
unfolding noted_with
returns-in-Part c = let a = c.args in ap (λ t. noted_with a.k t a.line) (sym c.in-Part.is)

pub returns-in-Level : goal.returns-in-Level
unfolding noted_with
returns-in-Level c = let a = c.args in ap (λ t. noted_with a.k t a.line) (sym c.in-Level.is)

pub returns-in_default : goal.returns-in_default
returns-in_default c =
    let n = c.in_default in
    noted-other c.args.k c.args.line c.args.c n.not-Value n.not-Operations n.not-Link n.not-Part n.not-Level
