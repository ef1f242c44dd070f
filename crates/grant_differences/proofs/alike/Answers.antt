use borrow.Author.Rules.{rules}
use lib.ListN.{length}
use mathlib.Core.Path.{refl}
use native.Mathlib.Omega.{arith}
use Rattle.grant_grids.specs.Grid.{same_tables}
use Rattle.grant_grids.proofs.GridLaws.{alike-none, alike-more, alike_end}
use Rattle.sets.specs.LoopLaws.{turn-within}
use Rattle.grant_differences.proofs.alike.Invariants.{word}
use Rattle.grant_differences.proofs.alike.Goals as goal

pub loop-i-init : goal.loop-i-init
loop-i-init start = (search rules, alike-none (word start.args.a.now) (word start.args.b.now))

pub loop-i-preserved : goal.loop-i-preserved
loop-i-preserved c =
    let a = c.args in
    let turn = c.loop-i in
    (turn-within turn.i (length a.a.now) c.loop-i-test.true, alike-more (word a.a.now) (word a.b.now) turn.differences _ turn.i turn.invariant.1 refl)

pub returns : goal.returns
unfolding same_tables
returns c =
    let a = c.args in
    alike_end (word a.a.now) (word a.b.now) c.loop-i.differences c.loop-i.i (length a.a.now) c.loop-i.invariant.1 (omega arith)
