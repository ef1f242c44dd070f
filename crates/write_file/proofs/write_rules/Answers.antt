use borrow.Author.Rules.{rules}
use native.Mathlib.Omega.{arith}
use Rattle.write_measure.specs.MeasureLaws.{file-room, file-ended}
use Rattle.write_measure.specs.FileTable.{rule_at}
use Rattle.mine_groups.specs.Scratch.{all_parts}
use Rattle.write_lines.proofs.WritingLaws.{runs_begin, runs_room, runs_within, runs_more}
use Rattle.write_file.proofs.write_rules.Goals as goal

pub loop-i-init : goal.loop-i-init
loop-i-init c =
    let a = c.args in
    let r = file-room a.kept.now a.distinct.now a.having.now a.inside.now a.kinds.now a.permissions.now a.operations a.starts.now a.scratch.now a.out.now c.requires.3 in
    (search rules, runs_begin (rule_at a.kept.now a.distinct.now a.having.now a.inside.now a.kinds.now a.permissions.now a.operations a.starts.now a.scratch.now) (all_parts a.starts.now) a.out.now (omega (arith, r)))

pub write_head-at-requires : goal.write_head-at-requires
write_head-at-requires c =
    let l = c.loop-i in
    let a = c.args in
    let t = c.loop-i-test.true in
    (c.requires.0, c.requires.1, t, c.requires.2 l.i t, runs_room (rule_at a.kept.now a.distinct.now a.having.now a.inside.now a.kinds.now a.permissions.now a.operations a.starts.now a.scratch.now) (all_parts a.starts.now) a.out.now l.out l.at l.i t l.invariant.1)

pub overflow_add-at : goal.overflow_add-at
overflow_add-at c =
    let l = c.loop-i in
    let a = c.args in
    let t = c.loop-i-test.true in
    let w = runs_within (rule_at a.kept.now a.distinct.now a.having.now a.inside.now a.kinds.now a.permissions.now a.operations a.starts.now a.scratch.now) (all_parts a.starts.now) a.out.now l.out l.at l.i t l.invariant.1 in
    let e = c.write_head-at.ensures.1 in
    omega (arith, w, e, c.well_formed)

pub loop-i-preserved : goal.loop-i-preserved
loop-i-preserved c =
    let l = c.loop-i in
    let a = c.args in
    let t = c.loop-i-test.true in
    let w = c.write_head-at in
    (search rules, runs_more (rule_at a.kept.now a.distinct.now a.having.now a.inside.now a.kinds.now a.permissions.now a.operations a.starts.now a.scratch.now) (all_parts a.starts.now) a.out.now l.out l.at l.i t l.invariant.1 _ w.result w.ensures.0 w.ensures.1)

pub bounds-out-at : goal.bounds-out-at
bounds-out-at c =
    let l = c.loop-i in
    let a = c.args in
    let i = l.invariant.0 in
    let e = c.loop-i-test.false in
    (file-ended a.kept.now a.distinct.now a.having.now a.inside.now a.kinds.now a.permissions.now a.operations a.starts.now a.scratch.now a.out.now l.out l.at l.i l.invariant.1 (omega (arith, i, e)) c.requires.3).0

pub shape_of-out : goal.shape_of-out
shape_of-out c =
    let l = c.loop-i in
    let a = c.args in
    let i = l.invariant.0 in
    let e = c.loop-i-test.false in
    (file-ended a.kept.now a.distinct.now a.having.now a.inside.now a.kinds.now a.permissions.now a.operations a.starts.now a.scratch.now a.out.now l.out l.at l.i l.invariant.1 (omega (arith, i, e)) c.requires.3).2

pub returns : goal.returns
returns c =
    let l = c.loop-i in
    let a = c.args in
    let i = l.invariant.0 in
    let e = c.loop-i-test.false in
    (file-ended a.kept.now a.distinct.now a.having.now a.inside.now a.kinds.now a.permissions.now a.operations a.starts.now a.scratch.now a.out.now l.out l.at l.i l.invariant.1 (omega (arith, i, e)) c.requires.3).1
