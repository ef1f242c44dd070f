use Prim.Native.Nat.{◌<◌}
use mathlib.Core.Path.{ap, ◌∙◌}
use native.Mathlib.Omega.{arith}
use Rattle.sets.specs.declared.Ascending.{Ascending}
use Rattle.write_roles.specs.RoleVisitLaws.{atoms-begin, visits_at, visits_low, visits_room, visits_within, visits_more, visits_end}
use Rattle.sets.specs.Sets.{less_one}
use Rattle.write_theory.specs.RuleTable.{atom_bytes_at, atom_bytes_in}
use Rattle.write_atoms.proofs.put_atoms.Goals as goal

pub loop-j-init : goal.loop-j-init
loop-j-init c =
    let r = ap (λ (s : Ascending). s.rest) c.into_iter-j-iterator.ensures.into_iter_gives ∙ c.members-j-items.ensures in
    atoms-begin c.args.kept _ c.args.out.now (r ∙ c.atoms_kept.ensures) c.requires

pub slice_bounds-put_atom-count : goal.slice_bounds-put_atom-count
slice_bounds-put_atom-count c = let turn = c.loop-j in visits_at (atom_bytes_at c.args.kept) 36 (omega arith) c.args.out.now turn.out turn.at turn.j-iterator.rest turn.invariant

pub slice_bounds-put_atom-start : goal.slice_bounds-put_atom-start
slice_bounds-put_atom-start c = let turn = c.loop-j in visits_at (atom_bytes_at c.args.kept) 36 (omega arith) c.args.out.now turn.out turn.at turn.j-iterator.rest turn.invariant

pub put_atom-at-requires : goal.put_atom-at-requires
put_atom-at-requires c =
    let turn = c.loop-j in
    let t = c.in-Some.ensures.steps in
    let some : 0 < turn.j-iterator.rest = omega (arith, t.fewer) in (
      visits_low (atom_bytes_at c.args.kept) 36 (omega arith) c.args.out.now turn.out turn.at turn.j-iterator.rest c.in-Some.j turn.invariant some t.least,
      visits_room (atom_bytes_at c.args.kept) 36 (omega arith) c.args.out.now turn.out turn.at turn.j-iterator.rest c.in-Some.j turn.invariant some t.least,
    )

pub overflow_add-at : goal.overflow_add-at
overflow_add-at c =
    let turn = c.loop-j in
    let t = c.in-Some.ensures.steps in
    let w = visits_within (atom_bytes_at c.args.kept) 36 (omega arith) c.args.out.now turn.out turn.at turn.j-iterator.rest c.in-Some.j turn.invariant (omega (arith, t.fewer)) t.least in
    let e = c.put_atom-at.ensures.0 in
    omega (arith, w, e, c.well_formed)

pub loop-j-preserved : goal.loop-j-preserved
loop-j-preserved c =
    let turn = c.loop-j in
    let t = c.in-Some.ensures.steps in
    let p = c.put_atom-at in
    visits_more (atom_bytes_at c.args.kept) 36 (omega arith) c.args.out.now turn.out turn.at turn.j-iterator.rest c.in-Some.j turn.invariant (omega (arith, t.fewer)) t.least _ (t.others ∙ ap (less_one turn.j-iterator.rest) t.least) _ p.result p.ensures.1 p.ensures.0

pub shape_of-out : goal.shape_of-out
shape_of-out c = c.loop-j.invariant.1.long

pub returns : goal.returns
unfolding atom_bytes_in
returns c =
    let turn = c.loop-j in
    let none = c.in-None.ensures.steps.0 in
    visits_end (atom_bytes_at c.args.kept) 36 (omega arith) c.args.out.now turn.out turn.at turn.j-iterator.rest (omega (arith, none)) turn.invariant
