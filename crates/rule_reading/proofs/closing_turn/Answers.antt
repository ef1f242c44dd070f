-- Assumes nothing.
use mathlib.Core.Bool.{true}
use mathlib.Core.Path.{◌≡◌, sym, ◌∙◌}
use Rattle.rule_reading.proofs.TurnLaws.{close_refused, close_opens, close_late, close_ends}
use Rattle.rule_notes.specs.Tally.{may_close}
use Rattle.rule_reading.proofs.closing_turn.Goals as goal

pub returns-then-not-may_close : goal.returns-then-not-may_close
returns-then-not-may_close c = close_refused _ _ _ _ (sym c.may_close.ensures ∙ c.if-not-may_close.true)

pub returns-then-byte-eq-OPENS : goal.returns-then-byte-eq-OPENS
returns-then-byte-eq-OPENS c =
    let closable : may_close c.args.k ≡ true = sym c.may_close.ensures ∙ c.if-not-may_close.false in
    close_opens _ _ _ _ closable c.if-byte-eq-OPENS.true

pub returns-then-w-left : goal.returns-then-w-left
returns-then-w-left c =
    let closable : may_close c.args.k ≡ true = sym c.may_close.ensures ∙ c.if-not-may_close.false in
    close_late _ _ _ _ closable c.if-byte-eq-OPENS.false c.if-w-left.true

pub returns : goal.returns
returns c =
    let closable : may_close c.args.k ≡ true = sym c.may_close.ensures ∙ c.if-not-may_close.false in
    close_ends _ _ _ _ closable c.if-byte-eq-OPENS.false c.if-w-left.false
