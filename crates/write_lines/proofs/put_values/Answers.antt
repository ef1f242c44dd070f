use native.Mathlib.Omega.{arith}
use Rattle.write_lines.proofs.WritingLaws.{runs_begin, runs_room, runs_within, runs_more, runs_end}
use borrow.Author.Rules.{rules}
use Rattle.write_lines.proofs.put_values.Invariants.{lines}
use Rattle.write_lines.proofs.put_values.Goals as goal

pub loop-k-init : goal.loop-k-init
loop-k-init c = let a = c.args in (search rules, runs_begin (lines a.list.now a.place a.set) a.count a.out.now c.requires.1)

pub put_value-at-requires : goal.put_value-at-requires
put_value-at-requires c =
    let turn = c.loop-k in
    let a = c.args in
    runs_room (lines a.list.now a.place a.set) a.count a.out.now turn.out turn.at turn.k c.loop-k-test.true turn.invariant.1

pub overflow_add-at : goal.overflow_add-at
overflow_add-at c =
    let turn = c.loop-k in
    let a = c.args in
    let w = runs_within (lines a.list.now a.place a.set) a.count a.out.now turn.out turn.at turn.k c.loop-k-test.true turn.invariant.1 in
    let e = c.put_value-at.ensures.0 in
    omega (arith, c.well_formed)

pub loop-k-preserved : goal.loop-k-preserved
loop-k-preserved c =
    let turn = c.loop-k in
    let a = c.args in
    let p = c.put_value-at in
    (search rules, runs_more (lines a.list.now a.place a.set) a.count a.out.now turn.out turn.at turn.k c.loop-k-test.true turn.invariant.1 _ p.result p.ensures.1 p.ensures.0)

pub shape_of-out : goal.shape_of-out
shape_of-out c = c.loop-k.invariant.1.long

pub returns : goal.returns
returns c =
    let end = c.loop-k in
    let a = c.args in
    runs_end (lines a.list.now a.place a.set) a.count a.out.now end.out end.at end.k (omega arith) end.invariant.1
