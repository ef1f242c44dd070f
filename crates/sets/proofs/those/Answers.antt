use Rattle.std.proofs.Common.{rules, sym, ◌∙◌, arith}
use Rattle.sets.specs.MaskLaws.{fill_none, fill_out, fill_with}
use Rattle.sets.proofs.those.Goals as goal
use Rattle.sets.proofs.those.Goals.{then-passes, else-passes}

pub loop-i-init : goal.loop-i-init
loop-i-init g c = (omega arith, λ test says. sym (fill_none test))

pub loop-i-preserved : goal.loop-i-preserved
loop-i-preserved g c =
    let turn = c.loop-i in (
      omega arith,
      λ test says.
          let said = says turn.i _ (omega arith) c.passes.ensures in
          elim c.if-passes.branch [
            | then-passes w ↦ fill_with turn.i turn.m _ test (omega arith) (turn.invariant.1 test says) (sym said ∙ w.if-passes.true) (w.m-is ∙ w.with-m.ensures)
            | else-passes w ↦ fill_out turn.i turn.m _ test (turn.invariant.1 test says) (sym said ∙ w.if-passes.false) w.m-is
          ],
    )
