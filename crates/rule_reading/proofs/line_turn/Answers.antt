-- Assumes nothing.
use mathlib.Core.Path.{refl}
use Rattle.rule_reading.proofs.TurnLaws.{line-right, line-wrong}
use Rattle.rule_reading.specs.Turns.{line_turn}
use Rattle.rule_reading.proofs.line_turn.Goals as goal

pub returns-in_default : goal.returns-in_default
unfolding line_turn
returns-in_default c = rw c.in_default.is refl

pub returns-then-levelled : goal.returns-then-levelled
returns-then-levelled c = line-right _ _ _ c.in-Some.is c.if-levelled.true

pub returns : goal.returns
returns c = line-wrong _ _ _ c.in-Some.is c.if-levelled.false
