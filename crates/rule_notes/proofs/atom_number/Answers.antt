-- Assumes nothing.
use mathlib.Core.Logic.{⊎_elim}
use mathlib.Core.Path.{sym, ap, ◌∙◌}
use Rattle.rule_notes.specs.LineSteps.{atom_number}
use Rattle.rule_notes.proofs.atom_number.Goals as goal

pub returns : goal.returns
unfolding atom_number
returns c = c.pair_number.ensures ∙ sym (⊎_elim (ap atom_number) (⊎_elim (ap atom_number) (ap atom_number)) c.in-SetContainsSet.is)
