use borrow.Author.Rules.{rules}
use mathlib.Core.Path.{sym, ◌∙◌}
use native.Mathlib.Omega.{arith}
use Rattle.grant_blocks.specs.Rows.{same_at, same_rows}
use Rattle.sets.specs.LoopLaws.{turn-within, all_none, all-on, all_found, all_end}
use Rattle.grant_differences.proofs.same_rows.Goals as goal

pub loop-o-init : goal.loop-o-init
loop-o-init c =
    let a = c.args in
    (search rules, all_none (same_at a.rows.now a.acts a.grid.now))

pub returns-then-not-same_at : goal.returns-then-not-same_at
unfolding same_rows
returns-then-not-same_at c =
    let a = c.args in
    let turn = c.loop-o in
    sym (all_found (same_at a.rows.now a.acts a.grid.now) turn.o a.operations c.loop-o-test.true (sym c.same_at.ensures ∙ c.if-not-same_at.true))

pub loop-o-preserved : goal.loop-o-preserved
loop-o-preserved c =
    let a = c.args in
    let turn = c.loop-o in
    (turn-within turn.o a.operations c.loop-o-test.true, all-on (same_at a.rows.now a.acts a.grid.now) turn.o turn.invariant.1 (sym c.same_at.ensures ∙ c.if-not-same_at.false))

pub returns : goal.returns
unfolding same_rows
returns c =
    let a = c.args in
    sym (all_end (same_at a.rows.now a.acts a.grid.now) c.loop-o.o a.operations c.loop-o.invariant.1 (omega arith))
