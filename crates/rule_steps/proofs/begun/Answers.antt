-- Assumes nothing.
use mathlib.Core.Path.{refl}
use Rattle.rule_notes.specs.Tally.{begun_with}
use Rattle.rule_steps.proofs.begun.Goals as goal

pub returns : goal.returns
unfolding begun_with
returns c = refl
