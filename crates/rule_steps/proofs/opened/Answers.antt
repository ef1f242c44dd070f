-- Assumes nothing.
use mathlib.Core.Path.{refl}
use Rattle.rule_notes.specs.Tally.{begun_with, opened_with}
use Rattle.rule_steps.proofs.opened.Goals as goal

pub returns : goal.returns
unfolding begun_with opened_with
returns c = rw c.begun.ensures refl
