use Prim.Native.Nat.{ℕ, ◌/◌, ◌%◌}
use lib.ListN.{length}
use mathlib.Core.List.{List}
use native.Mathlib.Omega.{arith}
use Rattle.write_lines.proofs.WritingLaws.{runs_begin, runs_room, runs_within, runs_more, runs_end}
use lib.Dec.{eqb}
use Rattle.files.specs.RoleFile.{side_by}
use Rattle.write_theory.specs.RuleTable.{kind_bytes_in}
use Rattle.write_theory.proofs.SectionLaws.{written_as, room_as, conjunct-kinds}
use borrow.Author.Rules.{rules}
use Rattle.write_conjuncts.proofs.put_conjuncts.Goals as goal
use Rattle.write_conjuncts.proofs.put_conjuncts.Goals.{After-slice_known-1}

abbrev runs : After-slice_known-1 → ℕ → List ℕ
runs s = let a = s.args in λ k. kind_bytes_in a.distinct.now a.having.now a.inside.now a.kinds.now a.scratch.now a.rule.head a.rule.kept (side_by (k / 2)) (eqb (k % 2) 1)

pub loop-k-init : goal.loop-k-init
loop-k-init c = (search rules, runs_begin (runs c) 4 c.args.out.now (room_as _ _ (length c.args.out.now) (conjunct-kinds c.args.distinct.now c.args.having.now c.args.inside.now c.args.kinds.now c.args.scratch.now c.args.rule.head c.args.rule.kept) c.requires.kept_in_bounds))

pub put_kind-at-requires : goal.put_kind-at-requires
put_kind-at-requires c =
    let turn = c.loop-k in
    let l = c.loop-k-test.true in
    record {
      head_bound = (c.requires.head_bound, omega arith);
      set_in_bounds = runs_room (runs (goal.at.put_kind-at-requires c).After-slice_known-1) 4 c.args.out.now turn.out turn.at turn.k c.loop-k-test.true turn.invariant.1;
    }

pub overflow_add-at : goal.overflow_add-at
overflow_add-at c =
    let turn = c.loop-k in
    let w = runs_within (runs (goal.at.overflow_add-at c).After-slice_known-1) 4 c.args.out.now turn.out turn.at turn.k c.loop-k-test.true turn.invariant.1 in
    let e = c.put_kind-at.ensures.0 in
    omega (arith, c.well_formed)

pub loop-k-preserved : goal.loop-k-preserved
loop-k-preserved c =
    let turn = c.loop-k in
    let p = c.put_kind-at in
    (search rules, runs_more (runs (goal.at.loop-k-preserved c).After-slice_known-1) 4 c.args.out.now turn.out turn.at turn.k c.loop-k-test.true turn.invariant.1 _ p.result p.ensures.1 p.ensures.0)

pub shape_of-out : goal.shape_of-out
shape_of-out c = c.loop-k.invariant.1.long

pub returns : goal.returns
returns c =
    let turn = c.loop-k in
    written_as _ _ _ c.args.out.now turn.at (conjunct-kinds c.args.distinct.now c.args.having.now c.args.inside.now c.args.kinds.now c.args.scratch.now c.args.rule.head c.args.rule.kept) (runs_end (runs (goal.at.returns c).After-slice_known-1) 4 c.args.out.now turn.out turn.at turn.k (omega arith) turn.invariant.1)
