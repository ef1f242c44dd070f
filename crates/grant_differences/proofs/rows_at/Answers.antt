use borrow.Author.Rules.{rules}
use mathlib.Core.Path.{refl}
use native.Mathlib.Omega.{arith}
use Rattle.grant_blocks.specs.Rows.{rows_at}
use Rattle.grant_grids.proofs.GridLaws.{alike-none, alike-more, alike_end}
use Rattle.sets.specs.LoopLaws.{turn-within}
use Rattle.grant_differences.proofs.rows_at.Invariants.{row, word}
use Rattle.grant_differences.proofs.rows_at.Goals as goal

pub loop-u-init : goal.loop-u-init
loop-u-init start = (search rules, alike-none (row start.args.rows.now) (word start.args.grid.now start.args.operation))

pub loop-u-preserved : goal.loop-u-preserved
loop-u-preserved c =
    let a = c.args in
    let turn = c.loop-u in
    (turn-within turn.u 64 c.loop-u-test.true, alike-more (row a.rows.now) (word a.grid.now a.operation) turn.differences _ turn.u turn.invariant.1 refl)

pub returns : goal.returns
unfolding rows_at
returns c =
    let a = c.args in
    alike_end (row a.rows.now) (word a.grid.now a.operation) c.loop-u.differences c.loop-u.u 64 c.loop-u.invariant.1 (omega arith)
