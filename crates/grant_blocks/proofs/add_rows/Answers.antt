use Prim.Native.Nat.{◌+◌}
use borrow.Author.Rules.{rules}
use mathlib.Core.Path.{◌≡◌, sym, ◌∙◌}
use native.Mathlib.Omega.{arith}
use Rattle.grant_blocks.specs.RowsLaws.{rows_so_far, rows_none, rows_in, rows_out, rows_end, rows_so_long}
use Rattle.sets.specs.LoopLaws.{turn-within}
use Rattle.grant_blocks.proofs.add_rows.Goals as goal
use Rattle.grant_blocks.proofs.add_rows.Goals.{else-has, then-has}

pub loop-o-init : goal.loop-o-init
loop-o-init c =
    let a = c.args in
    (search rules, search rules, rows_none a.operations a.rows.now a.acts a.grid.now (search rules))

pub loop-o-preserved : goal.loop-o-preserved
loop-o-preserved c =
    let a = c.args in
    let turn = c.loop-o in
    let next : c.if-has.grid ≡ rows_so_far a.operations a.rows.now a.acts a.grid.now (turn.o + 1) =
    elim c.if-has.branch [ then-has w ↦ w.grid-is ∙ rows_in a.operations a.rows.now a.acts a.grid.now turn.o turn.grid _ turn.invariant.2 (sym c.has.ensures ∙ w.if-has.true) w.add_row.ensures | else-has w ↦ rows_out a.operations a.rows.now a.acts a.grid.now turn.o turn.grid _ turn.invariant.2 (sym c.has.ensures ∙ w.if-has.false) w.grid-is ] in (
      turn-within turn.o a.operations c.loop-o-test.true,
      rows_so_long a.operations a.rows.now a.acts a.grid.now (turn.o + 1) c.if-has.grid next,
      next,
    )

pub returns : goal.returns
returns c =
    let a = c.args in
    rows_end a.operations a.rows.now a.acts a.grid.now c.loop-o.o c.loop-o.grid c.loop-o.invariant.2 (omega arith)
