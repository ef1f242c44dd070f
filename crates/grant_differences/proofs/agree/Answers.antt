use borrow.Author.Rules.{rules}
use mathlib.Core.Path.{refl}
use native.Mathlib.Omega.{arith}
use Rattle.grant_grids.specs.Grid.{same_words}
use Rattle.grant_grids.proofs.GridLaws.{alike-none, alike-more, alike_end}
use Rattle.sets.specs.LoopLaws.{turn-within}
use Rattle.grant_differences.proofs.agree.Invariants.{word}
use Rattle.grant_differences.proofs.agree.Goals as goal

pub loop-o-init : goal.loop-o-init
loop-o-init start = (search rules, alike-none (word start.args.a.now start.args.user) (word start.args.b.now start.args.user))

pub loop-o-preserved : goal.loop-o-preserved
loop-o-preserved c =
    let a = c.args in
    let turn = c.loop-o in
    (turn-within turn.o a.operations c.loop-o-test.true, alike-more (word a.a.now a.user) (word a.b.now a.user) turn.differences _ turn.o turn.invariant.1 refl)

pub returns : goal.returns
unfolding same_words
returns c =
    let a = c.args in
    alike_end (word a.a.now a.user) (word a.b.now a.user) c.loop-o.differences c.loop-o.o a.operations c.loop-o.invariant.1 (omega arith)
