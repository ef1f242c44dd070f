use Prim.Native.Nat.{◌+◌}
use borrow.Author.Rules.{rules}
use mathlib.Core.Path.{◌≡◌, sym, ◌∙◌}
use native.Mathlib.Omega.{arith}
use Rattle.grant_grids.proofs.UpdateLaws.{part_so_far, part_none, part_in, part_out, part_end, part_so_long}
use Rattle.sets.specs.LoopLaws.{turn-within}
use Rattle.grant_grids.proofs.add_part.Goals as goal
use Rattle.grant_grids.proofs.add_part.Goals.{else-has, then-has}

pub loop-o-init : goal.loop-o-init
loop-o-init c =
    let a = c.args in
    (search rules, search rules, part_none a.operations a.permissions.now a.role a.holding a.grid.now a.class (search rules))

pub loop-o-preserved : goal.loop-o-preserved
loop-o-preserved c =
    let a = c.args in
    let turn = c.loop-o in
    let next : c.if-has.grid ≡ part_so_far a.operations a.permissions.now a.role a.holding a.grid.now a.class (turn.o + 1) =
    elim c.if-has.branch [ then-has w ↦ w.grid-is ∙ part_in a.operations a.permissions.now a.role a.holding a.grid.now a.class turn.o turn.grid _ turn.invariant.2 (sym c.has.ensures ∙ w.if-has.true) w.add_column.ensures | else-has w ↦ part_out a.operations a.permissions.now a.role a.holding a.grid.now a.class turn.o turn.grid _ turn.invariant.2 (sym c.has.ensures ∙ w.if-has.false) w.grid-is ] in (
      turn-within turn.o a.operations c.loop-o-test.true,
      part_so_long a.operations a.permissions.now a.role a.holding a.grid.now a.class (turn.o + 1) c.if-has.grid next,
      next,
    )

pub returns : goal.returns
returns c =
    let a = c.args in
    part_end a.operations a.permissions.now a.role a.holding a.grid.now a.class c.loop-o.o c.loop-o.grid c.loop-o.invariant.2 (omega arith)
