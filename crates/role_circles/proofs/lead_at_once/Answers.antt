use borrow.Author.Rules.{rules}
use mathlib.Core.Path.{sym, ◌∙◌}
use native.Mathlib.Omega.{arith}
use Rattle.role_circles.specs.BackWords.{back_word}
use Rattle.sets.specs.LoopLaws.{turn-within}
use Rattle.sets.specs.MaskLaws.{fill_none, fill_with, fill_out, fill_end}
use Rattle.role_circles.proofs.lead_at_once.Invariants.{leading}
use Rattle.role_circles.proofs.lead_at_once.Goals as goal
use Rattle.role_circles.proofs.lead_at_once.Goals.{else-has, then-has}

pub loop-x-init : goal.loop-x-init
loop-x-init start = (search rules, sym (fill_none (leading start.args.lines.now start.args.low)))

pub loop-x-preserved : goal.loop-x-preserved
loop-x-preserved c =
    let a = c.args in
    let turn = c.loop-x in (
      turn-within turn.x a.roles c.loop-x-test.true,
      elim c.if-has.branch [ then-has w ↦ fill_with turn.x turn.word _ (leading a.lines.now a.low) (omega arith) turn.invariant.1 (sym c.has.ensures ∙ w.if-has.true) (w.word-is ∙ w.with-word.ensures) | else-has w ↦ fill_out turn.x turn.word _ (leading a.lines.now a.low) turn.invariant.1 (sym c.has.ensures ∙ w.if-has.false) w.word-is ],
    )

pub returns : goal.returns
unfolding back_word
returns c =
    let a = c.args in
    fill_end c.loop-x.x a.roles c.loop-x.word (leading a.lines.now a.low) c.loop-x.invariant.1 (omega arith)
