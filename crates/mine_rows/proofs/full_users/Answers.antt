use borrow.Author.Rules.{rules}
use mathlib.Core.Path.{sym, ◌∙◌}
use native.Mathlib.Omega.{arith}
use Rattle.mine_corners.specs.Pairing.{words_in}
use Rattle.sets.specs.LoopLaws.{turn-within}
use Rattle.sets.specs.MaskLaws.{fill_none, fill_with, fill_out, fill_end}
use Rattle.mine_rows.specs.Rows.{is_full}
use Rattle.mine_rows.proofs.full_users.Goals as goal
use Rattle.mine_rows.proofs.full_users.Goals.{else-is_full, then-is_full}

pub loop-u-init : goal.loop-u-init
loop-u-init start = (search rules, sym (fill_none (is_full start.args.rows.now (words_in start.args.g))))

pub loop-u-preserved : goal.loop-u-preserved
loop-u-preserved c =
    let a = c.args in
    let turn = c.loop-u in
    let has = is_full a.rows.now (words_in a.g) in (
      turn-within turn.u 64 c.loop-u-test.true,
      elim c.if-is_full.branch [ then-is_full w ↦ fill_with turn.u turn.m _ has (omega arith) turn.invariant.1 (sym c.is_full.ensures ∙ w.if-is_full.true) (w.m-is ∙ w.with-m.ensures) | else-is_full w ↦ fill_out turn.u turn.m _ has turn.invariant.1 (sym c.is_full.ensures ∙ w.if-is_full.false) w.m-is ],
    )

pub returns : goal.returns
returns c =
    let end = c.loop-u in
    let a = c.args in
    fill_end end.u 64 end.m (is_full a.rows.now (words_in a.g)) end.invariant.1 (omega arith)
