use Prim.Native.Nat.{◌<◌}
use mathlib.Core.Path.{ap, ◌∙◌}
use native.Mathlib.Omega.{arith}
use Rattle.sets.specs.declared.Ascending.{Ascending}
use Rattle.write_roles.specs.RoleVisitLaws.{parts-begin, visits_at, visits_low, visits_room, visits_within, visits_more, visits_end}
use Rattle.sets.specs.Sets.{less_one}
use Rattle.write_theory.specs.RuleTable.{role_bytes_in, part_bytes_in}
use Rattle.write_listings.proofs.put_parts.Goals as goal

pub loop-k-init : goal.loop-k-init
loop-k-init c =
    let r = ap (λ (s : Ascending). s.rest) c.into_iter-k-iterator.ensures.into_iter_gives ∙ c.members-k-items.ensures in
    let a = c.args in
    parts-begin a.permissions.now a.operations a.starts.now a.scratch.now c.requires.operations_bound.1 a.rule.head _ a.out.now (r ∙ c.requires.operations_bound.3) c.requires.head_in_bounds

pub slice_bounds-put_role-count : goal.slice_bounds-put_role-count
slice_bounds-put_role-count c = let turn = c.loop-k in visits_at (role_bytes_in c.args.permissions.now c.args.operations c.args.starts.now c.args.scratch.now c.args.rule.head) 32 (omega arith) c.args.out.now turn.out turn.at turn.k-iterator.rest turn.invariant

pub slice_bounds-put_role-start : goal.slice_bounds-put_role-start
slice_bounds-put_role-start c = let turn = c.loop-k in visits_at (role_bytes_in c.args.permissions.now c.args.operations c.args.starts.now c.args.scratch.now c.args.rule.head) 32 (omega arith) c.args.out.now turn.out turn.at turn.k-iterator.rest turn.invariant

pub put_role-at-requires : goal.put_role-at-requires
put_role-at-requires c =
    let turn = c.loop-k in
    let t = c.in-Some.ensures.steps in
    let some : 0 < turn.k-iterator.rest = omega (arith, t.fewer) in
    record {
      operations_bound = (c.requires.operations_bound.0, c.requires.operations_bound.1, c.requires.operations_bound.2, visits_low (role_bytes_in c.args.permissions.now c.args.operations c.args.starts.now c.args.scratch.now c.args.rule.head) 32 (omega arith) c.args.out.now turn.out turn.at turn.k-iterator.rest c.in-Some.k turn.invariant some t.least);
      role_in_bounds = visits_room (role_bytes_in c.args.permissions.now c.args.operations c.args.starts.now c.args.scratch.now c.args.rule.head) 32 (omega arith) c.args.out.now turn.out turn.at turn.k-iterator.rest c.in-Some.k turn.invariant some t.least;
    }

pub overflow_add-at : goal.overflow_add-at
overflow_add-at c =
    let turn = c.loop-k in
    let t = c.in-Some.ensures.steps in
    let w = visits_within (role_bytes_in c.args.permissions.now c.args.operations c.args.starts.now c.args.scratch.now c.args.rule.head) 32 (omega arith) c.args.out.now turn.out turn.at turn.k-iterator.rest c.in-Some.k turn.invariant (omega (arith, t.fewer)) t.least in
    let e = c.put_role-at.ensures.0 in
    omega (arith, w, e, c.well_formed)

pub loop-k-preserved : goal.loop-k-preserved
loop-k-preserved c =
    let turn = c.loop-k in
    let t = c.in-Some.ensures.steps in
    let p = c.put_role-at in
    visits_more (role_bytes_in c.args.permissions.now c.args.operations c.args.starts.now c.args.scratch.now c.args.rule.head) 32 (omega arith) c.args.out.now turn.out turn.at turn.k-iterator.rest c.in-Some.k turn.invariant (omega (arith, t.fewer)) t.least _ (t.others ∙ ap (less_one turn.k-iterator.rest) t.least) _ p.result p.ensures.1 p.ensures.0

pub shape_of-out : goal.shape_of-out
shape_of-out c = c.loop-k.invariant.1.long

pub returns : goal.returns
unfolding part_bytes_in
returns c =
    let turn = c.loop-k in
    let none = c.in-None.ensures.steps.0 in
    visits_end (role_bytes_in c.args.permissions.now c.args.operations c.args.starts.now c.args.scratch.now c.args.rule.head) 32 (omega arith) c.args.out.now turn.out turn.at turn.k-iterator.rest (omega (arith, none)) turn.invariant
