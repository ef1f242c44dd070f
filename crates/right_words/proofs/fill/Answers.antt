use Prim.Native.Nat.{◌+◌}
use borrow.Author.Rules.{rules}
use native.Mathlib.Omega.{arith}
use Rattle.right_words.specs.RightLaws.{filled_none, filled_next, filled-end, filled-long}
use Rattle.sets.specs.LoopLaws.{turn-within}
use Rattle.right_words.proofs.fill.Goals as goal

pub loop-u-init : goal.loop-u-init
loop-u-init c =
    let a = c.args in
    (search rules, search rules, filled_none a.sizes a.holders.now a.permissions.now a.table.now (search rules))

pub loop-u-preserved : goal.loop-u-preserved
loop-u-preserved c =
    let turn = c.loop-u in
    let a = c.args in
    let next = filled_next a.sizes a.holders.now a.permissions.now turn.u a.table.now turn.table _ turn.invariant.2 c.refresh.ensures in
    (turn-within turn.u 64 (omega (arith, c.loop-u-test.true)), filled-long a.sizes a.holders.now a.permissions.now (turn.u + 1) a.table.now _ next, next)

pub returns : goal.returns
returns c =
    let a = c.args in
    let end = c.loop-u in
    filled-end a.sizes a.holders.now a.permissions.now end.u a.table.now end.table end.invariant.2 (omega arith)
