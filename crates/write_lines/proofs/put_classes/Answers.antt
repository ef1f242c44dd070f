use mathlib.Core.Path.{refl}
use native.Mathlib.Omega.{arith}
use Rattle.write_lines.proofs.WritingLaws.{runs_begin, runs_room, runs_within, runs_more, runs_end}
use borrow.Author.Rules.{rules}
use Rattle.write_lines.proofs.put_classes.Invariants.{lines}
use Rattle.write_lines.proofs.put_classes.Goals as goal

pub loop-k-init : goal.loop-k-init
loop-k-init c = let a = c.args in (search rules, runs_begin (lines a.list.now a.role) a.count a.out.now c.requires.2)

pub put_four-requires : goal.put_four-requires
put_four-requires c =
    let turn = c.loop-k in
    let a = c.args in
    (runs_room (lines a.list.now a.role) a.count a.out.now turn.out turn.at turn.k c.loop-k-test.true turn.invariant.1, search rules, search rules)

pub overflow_add-at : goal.overflow_add-at
overflow_add-at c =
    let turn = c.loop-k in
    let a = c.args in
    let w = runs_within (lines a.list.now a.role) a.count a.out.now turn.out turn.at turn.k c.loop-k-test.true turn.invariant.1 in
    omega (arith, c.well_formed)

pub loop-k-preserved : goal.loop-k-preserved
loop-k-preserved c =
    let turn = c.loop-k in
    let a = c.args in
    (search rules, runs_more (lines a.list.now a.role) a.count a.out.now turn.out turn.at turn.k c.loop-k-test.true turn.invariant.1 _ 4 c.put_four.ensures refl)

pub shape_of-out : goal.shape_of-out
shape_of-out c = c.loop-k.invariant.1.long

pub returns : goal.returns
returns c =
    let end = c.loop-k in
    let a = c.args in
    runs_end (lines a.list.now a.role) a.count a.out.now end.out end.at end.k (omega arith) end.invariant.1
