use Prim.Native.Nat.{ℕ, ◌+◌, ◌*◌, ◌<◌}
use lib.ListN.{length}
use mathlib.Core.List.{List}
use native.Mathlib.Omega.{arith}
use Rattle.write_lines.proofs.WritingLaws.{runs_begin, runs_room, runs_within, runs_more, runs_end}
use Rattle.write_theory.specs.RuleTable.{place_bytes_in}
use Rattle.write_theory.proofs.SectionLaws.{written_as, room_as, kind_places}
use borrow.Author.Rules.{rules}
use Rattle.role_record.specs.Places.{place_side}
use Rattle.write_conjuncts.proofs.put_kind.Goals as goal
use Rattle.write_conjuncts.proofs.put_kind.Goals.{After-slice_known-1}

place-below : (side j : ℕ) → side < 2 → j < 7 → 7 * side + j < 14
place-below side j h l = omega arith

abbrev runs : After-slice_known-1 → ℕ → List ℕ
runs s = let a = s.args in λ j. place_bytes_in a.distinct.now a.having.now a.inside.now a.kinds.now a.scratch.now a.rule.head a.rule.kept (place_side (7 * a.side + j)) a.set (7 * a.side + j)

pub loop-j-init : goal.loop-j-init
loop-j-init c = (search rules, runs_begin (runs c) 7 c.args.out.now (room_as _ _ (length c.args.out.now) (kind_places c.args.distinct.now c.args.having.now c.args.inside.now c.args.kinds.now c.args.scratch.now c.args.rule.head c.args.rule.kept c.args.set c.args.side c.requires.head_bound.1) c.requires.set_in_bounds))

pub put_place-at-requires : goal.put_place-at-requires
put_place-at-requires c =
    let turn = c.loop-j in
    let l = c.loop-j-test.true in
    let m = c.requires.head_bound.1 in
    record {
      head_bound = (c.requires.head_bound.0, place-below c.args.side turn.j m l);
      place_in_bounds = runs_room (runs (goal.at.put_place-at-requires c).After-slice_known-1) 7 c.args.out.now turn.out turn.at turn.j c.loop-j-test.true turn.invariant.1;
    }

pub overflow_add-at : goal.overflow_add-at
overflow_add-at c =
    let turn = c.loop-j in
    let w = runs_within (runs (goal.at.overflow_add-at c).After-slice_known-1) 7 c.args.out.now turn.out turn.at turn.j c.loop-j-test.true turn.invariant.1 in
    let e = c.put_place-at.ensures.0 in
    omega (arith, c.well_formed)

pub loop-j-preserved : goal.loop-j-preserved
loop-j-preserved c =
    let turn = c.loop-j in
    let p = c.put_place-at in
    (search rules, runs_more (runs (goal.at.loop-j-preserved c).After-slice_known-1) 7 c.args.out.now turn.out turn.at turn.j c.loop-j-test.true turn.invariant.1 _ p.result p.ensures.1 p.ensures.0)

pub shape_of-out : goal.shape_of-out
shape_of-out c = c.loop-j.invariant.1.long

pub returns : goal.returns
returns c =
    let turn = c.loop-j in
    written_as _ _ _ c.args.out.now turn.at (kind_places c.args.distinct.now c.args.having.now c.args.inside.now c.args.kinds.now c.args.scratch.now c.args.rule.head c.args.rule.kept c.args.set c.args.side c.requires.head_bound.1) (runs_end (runs (goal.at.returns c).After-slice_known-1) 7 c.args.out.now turn.out turn.at turn.j (omega arith) turn.invariant.1)
