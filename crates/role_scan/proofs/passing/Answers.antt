use borrow.Author.Rules.{rules}
use mathlib.Core.Path.{sym, ◌∙◌}
use native.Mathlib.Omega.{arith}
use Rattle.sets.specs.LoopLaws.{turn-within}
use Rattle.role_scan.specs.ShiftLaws.{shift_none, shift_in, shift_out, shift_end}
use Rattle.role_scan.proofs.passing.Invariants.{passes}
use Rattle.role_scan.proofs.passing.Goals as goal
use Rattle.role_scan.proofs.passing.Goals.{else-passes, then-passes}

pub loop-x-init : goal.loop-x-init
loop-x-init g start =
    let a = start.args in
    (search rules, shift_none (passes (g.T.Test.test a.test.now) a.values.now a.column))

pub loop-x-preserved : goal.loop-x-preserved
loop-x-preserved g c =
    let a = c.args in
    let turn = c.loop-x in
    let within = c.loop-x-test.true in
    let f = passes (g.T.Test.test a.test.now) a.values.now a.column in (
      turn-within turn.x 64 within,
      elim c.if-passes.branch [ then-passes w ↦ shift_in f turn.x turn.m _ within turn.invariant.1 (sym c.passes.ensures ∙ w.if-passes.true) w.m-is | else-passes w ↦ shift_out f turn.x turn.m _ within turn.invariant.1 (sym c.passes.ensures ∙ w.if-passes.false) w.m-is ],
    )

pub returns : goal.returns
returns g c =
    let a = c.args in
    shift_end (passes (g.T.Test.test a.test.now) a.values.now a.column) c.loop-x.x c.loop-x.m c.loop-x.invariant.1 (omega arith)
