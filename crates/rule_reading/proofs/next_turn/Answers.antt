-- Assumes nothing.
use mathlib.Core.Path.{sym, ap₂, ◌∙◌}
use Rattle.std.proofs.lemmas.Result.{err_from_is_err_and}
use Rattle.rule_reading.proofs.TurnLaws.{turn-fails, turn-closing, turn-misplaced, turn-line}
use Rattle.rule_reading.specs.Turns.{line_turn}
use Rattle.rule_reading.proofs.next_turn.Goals as goal

pub returns-in_err-line : goal.returns-in_err-line
returns-in_err-line c =
    let p = err_from_is_err_and c.from_residual.result c.from_residual.ensures.1 in
    rw (p.1, p.2) (turn-fails _ _ _ _ (sym c.in_err-line.ensures))

pub returns-then-closes : goal.returns-then-closes
returns-then-closes c = c.closing_turn.ensures ∙ turn-closing _ _ _ _ _ (sym c.in_ok-line.ensures) (sym c.closes.ensures ∙ c.if-closes.true)

pub returns-then-not-follows : goal.returns-then-not-follows
returns-then-not-follows c =
    turn-misplaced _ _ _ _ _ (sym c.in_ok-line.ensures) (sym c.closes.ensures ∙ c.if-closes.false) (sym c.follows.ensures ∙ c.if-not-follows.true)

pub returns : goal.returns
returns c =
    c.line_turn.ensures
    ∙ ap₂ (λ o l. line_turn o l c.in_ok-line.line c.in_ok-line.w) c.check-checked.ensures c.levelled.ensures
    ∙ turn-line _ _ _ _ _ (sym c.in_ok-line.ensures) (sym c.closes.ensures ∙ c.if-closes.false) (sym c.follows.ensures ∙ c.if-not-follows.false)
