use mathlib.Core.Path.{sym, ◌∙◌}
use native.Mathlib.Omega.{arith}
use Rattle.mine_distinct.specs.InsideFilling.{within_before}
use Rattle.sets.specs.LoopLaws.{turn-within, join-none, join_in, join-out, join-end}
use borrow.Author.Rules.{rules}
use Rattle.mine_distinct.proofs.within_before.Invariants.{who, within}
use Rattle.mine_distinct.proofs.within_before.Goals as goal
use Rattle.mine_distinct.proofs.within_before.Goals.{else-strictly_within, then-strictly_within}

pub loop-l-init : goal.loop-l-init
loop-l-init c =
    let a = c.args in
    (search rules, join-none 0 (within a.distinct.now a.place a.number) (who a.having.now a.place) (omega arith))

pub loop-l-preserved : goal.loop-l-preserved
loop-l-preserved c =
    let turn = c.loop-l in
    let a = c.args in (
      turn-within turn.l a.number c.loop-l-test.true,
      elim c.if-strictly_within.branch [ then-strictly_within w ↦ join_in 0 (within a.distinct.now a.place a.number) (who a.having.now a.place) turn.l turn.m _ turn.invariant.1 (sym c.strictly_within.ensures ∙ w.if-strictly_within.true) (w.m-is ∙ w.union-m.ensures) | else-strictly_within w ↦ join-out 0 (within a.distinct.now a.place a.number) (who a.having.now a.place) turn.l turn.m _ turn.invariant.1 (sym c.strictly_within.ensures ∙ w.if-strictly_within.false) w.m-is ],
    )

pub returns : goal.returns
unfolding within_before
returns c =
    let end = c.loop-l in
    let a = c.args in
    join-end 0 (within a.distinct.now a.place a.number) (who a.having.now a.place) end.l a.number end.m end.invariant.1 (omega arith)
