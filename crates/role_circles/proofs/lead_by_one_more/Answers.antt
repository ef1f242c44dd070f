use borrow.Author.Rules.{rules}
use mathlib.Core.Path.{sym, ◌∙◌}
use native.Mathlib.Omega.{arith}
use Rattle.role_circles.specs.BackLaws.{next-some, next-none}
use Rattle.sets.specs.LoopLaws.{turn-within}
use Rattle.sets.specs.MaskLaws.{fill_none, fill_with, fill_out, fill_end}
use Rattle.role_circles.proofs.lead_by_one_more.Invariants.{leading}
use Rattle.role_circles.proofs.lead_by_one_more.Goals as goal
use Rattle.role_circles.proofs.lead_by_one_more.Goals.{else-next-ne0, then-next-ne0}

pub loop-x-init : goal.loop-x-init
loop-x-init start = (search rules, sym (fill_none (leading start.args.lines.now start.args.low start.args.back)))

pub loop-x-preserved : goal.loop-x-preserved
loop-x-preserved c =
    let a = c.args in
    let turn = c.loop-x in (
      turn-within turn.x a.roles c.loop-x-test.true,
      elim c.if-next-ne0.branch [ then-next-ne0 w ↦ fill_with turn.x turn.word _ (leading a.lines.now a.low a.back) (omega arith) turn.invariant.1 (next-some _ _ c.next.ensures w.if-next-ne0.true) (w.word-is ∙ w.with-word.ensures) | else-next-ne0 w ↦ fill_out turn.x turn.word _ (leading a.lines.now a.low a.back) turn.invariant.1 (next-none _ _ c.next.ensures w.if-next-ne0.false) w.word-is ],
    )

pub returns : goal.returns
returns c =
    let a = c.args in
    fill_end c.loop-x.x a.roles c.loop-x.word (leading a.lines.now a.low a.back) c.loop-x.invariant.1 (omega arith)
