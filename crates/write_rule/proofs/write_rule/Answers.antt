-- Section by section: what is written, and what is left. Assumes nothing.
use Prim.Native.Nat.{ℕ, ◌+◌}
use borrow.Author.Rules.{rules}
use lib.ListN.{length}
use mathlib.Core.List.{[], List, ◌∷◌, ◌++◌}
use mathlib.Core.Path.{◌≡◌}
use native.Mathlib.Omega.{arith}
use Rattle.write_lines.proofs.WritingLaws.{back_in, Writing, room_for, place-within, all-written}
use Rattle.write_theory.specs.RuleTable.{conjunct_bytes_in, operation_bytes_in, atom_bytes_in, part_bytes_in, level_bytes_in, rule_bytes_in}
use Rattle.write_theory.proofs.SectionLaws.{rule_sections, opening-room, opened, section_on, at-within}
use Rattle.write_rule.proofs.write_rule.Goals as goal
use Rattle.write_rule.proofs.write_rule.Goals.{After-put_one-arg-1, After-slice_known-2-1, After-slice_known-3-1, After-slice_known-4-1, After-slice_known-5-1, After-slice_known-6-1, After-slice_known-7-1}

-- ---- the sections of the rule, and what is left behind each

abbrev whole : After-put_one-arg-1 → List ℕ
whole s = let a = s.args in rule_bytes_in a.distinct.now a.having.now a.inside.now a.kinds.now a.permissions.now a.operations a.starts.now a.scratch.now a.rule.head a.rule.kept

abbrev conjuncts : After-put_one-arg-1 → List ℕ
conjuncts s = let a = s.args in conjunct_bytes_in a.distinct.now a.having.now a.inside.now a.kinds.now a.scratch.now a.rule.head a.rule.kept

abbrev operations : After-put_one-arg-1 → List ℕ
operations s = let a = s.args in operation_bytes_in a.scratch.now a.rule.head

abbrev atoms : After-put_one-arg-1 → List ℕ
atoms s = atom_bytes_in s.args.rule.kept

abbrev parts : After-put_one-arg-1 → List ℕ
parts s = let a = s.args in part_bytes_in a.permissions.now a.operations a.starts.now a.scratch.now a.rule.head

abbrev levels : After-put_one-arg-1 → List ℕ
levels s = let a = s.args in level_bytes_in a.scratch.now a.rule.head

abbrev behind-parts : After-put_one-arg-1 → List ℕ
behind-parts s = levels s ++ []

abbrev behind-atoms : After-put_one-arg-1 → List ℕ
behind-atoms s = parts s ++ behind-parts s

abbrev behind-operations : After-put_one-arg-1 → List ℕ
behind-operations s = atoms s ++ behind-atoms s

abbrev behind-conjuncts : After-put_one-arg-1 → List ℕ
behind-conjuncts s = operations s ++ behind-operations s

sections : (s : After-put_one-arg-1) → whole s ≡ (0x21 ∷ []) ++ (conjuncts s ++ behind-conjuncts s)
sections s = let a = s.args in rule_sections a.distinct.now a.having.now a.inside.now a.kinds.now a.permissions.now a.operations a.starts.now a.scratch.now a.rule.head a.rule.kept

-- ---- the start, the output and the place behind what is written, behind each section

abbrev start2 : After-slice_known-2-1 → After-put_one-arg-1
start2 c = (goal.at.slice_bounds-put_conjuncts-count c).After-put_one-arg-1

-- where it stood before that section
abbrev back3 : After-slice_known-3-1 → After-slice_known-2-1
back3 c = (goal.at.slice_bounds-put_operations-count c).After-slice_known-2-1

abbrev start3 : After-slice_known-3-1 → After-put_one-arg-1
start3 c = start2 (back3 c)

-- where it stood before that section
abbrev back4 : After-slice_known-4-1 → After-slice_known-3-1
back4 c = (goal.at.slice_bounds-put_atoms-count c).After-slice_known-3-1

abbrev start4 : After-slice_known-4-1 → After-put_one-arg-1
start4 c = start3 (back4 c)

-- where it stood before that section
abbrev back5 : After-slice_known-5-1 → After-slice_known-4-1
back5 c = (goal.at.slice_bounds-put_parts-count c).After-slice_known-4-1

abbrev start5 : After-slice_known-5-1 → After-put_one-arg-1
start5 c = start4 (back5 c)

-- where it stood before that section
abbrev back6 : After-slice_known-6-1 → After-slice_known-5-1
back6 c = (goal.at.slice_bounds-put_level-count c).After-slice_known-5-1

abbrev start6 : After-slice_known-6-1 → After-put_one-arg-1
start6 c = start5 (back6 c)

-- where it stood before that section
abbrev back7 : After-slice_known-7-1 → After-slice_known-6-1
back7 c = (goal.at.returns c).After-slice_known-6-1

abbrev start7 : After-slice_known-7-1 → After-put_one-arg-1
start7 c = start6 (back7 c)

abbrev at3 : After-slice_known-3-1 → ℕ
at3 c = 1 + c.put_conjuncts-at.result

abbrev at4 : After-slice_known-4-1 → ℕ
at4 c = at3 (back4 c) + c.put_operations-at.result

abbrev at5 : After-slice_known-5-1 → ℕ
at5 c = at4 (back5 c) + c.put_atoms-at.result

abbrev at6 : After-slice_known-6-1 → ℕ
at6 c = at5 (back6 c) + c.put_parts-at.result

abbrev at7 : After-slice_known-7-1 → ℕ
at7 c = at6 (back7 c) + c.put_level-at.result

abbrev out2 : After-slice_known-2-1 → List ℕ
out2 c = c.put_one.new.out

abbrev out3 : After-slice_known-3-1 → List ℕ
out3 c = back_in (out2 (back3 c)) 1 c.put_conjuncts-at.new.out

abbrev out4 : After-slice_known-4-1 → List ℕ
out4 c = let b = back4 c in back_in (out3 b) (at3 b) c.put_operations-at.new.out

abbrev out5 : After-slice_known-5-1 → List ℕ
out5 c = let b = back5 c in back_in (out4 b) (at4 b) c.put_atoms-at.new.out

abbrev out6 : After-slice_known-6-1 → List ℕ
out6 c = let b = back6 c in back_in (out5 b) (at5 b) c.put_parts-at.new.out

abbrev out7 : After-slice_known-7-1 → List ℕ
out7 c = let b = back7 c in back_in (out6 b) (at6 b) c.put_level-at.new.out

-- ---- what is written

written2 : (c : After-slice_known-2-1) → let s = start2 c in Writing (whole s) s.args.out.now (out2 c) 1 (conjuncts s ++ behind-conjuncts s)
written2 c = let s = start2 c in opened (whole s) s.args.out.now (out2 c) (conjuncts s ++ behind-conjuncts s) (0x21 ∷ []) (sections s) c.requires.kept_in_bounds c.put_one.ensures

written3 : (c : After-slice_known-3-1) → let s = start3 c in Writing (whole s) s.args.out.now (out3 c) (at3 c) (behind-conjuncts s)
written3 c =
    let b = back3 c in
    let s = start2 b in
    section_on (whole s) s.args.out.now (out2 b) (behind-conjuncts s) (conjuncts s) 1 _ _ (written2 b) c.put_conjuncts-at.ensures

written4 : (c : After-slice_known-4-1) → let s = start4 c in Writing (whole s) s.args.out.now (out4 c) (at4 c) (behind-operations s)
written4 c =
    let b = back4 c in
    let s = start3 b in
    section_on (whole s) s.args.out.now (out3 b) (behind-operations s) (operations s) (at3 b) _ _ (written3 b) c.put_operations-at.ensures

written5 : (c : After-slice_known-5-1) → let s = start5 c in Writing (whole s) s.args.out.now (out5 c) (at5 c) (behind-atoms s)
written5 c =
    let b = back5 c in
    let s = start4 b in
    section_on (whole s) s.args.out.now (out4 b) (behind-atoms s) (atoms s) (at4 b) _ _ (written4 b) c.put_atoms-at.ensures

written6 : (c : After-slice_known-6-1) → let s = start6 c in Writing (whole s) s.args.out.now (out6 c) (at6 c) (behind-parts s)
written6 c =
    let b = back6 c in
    let s = start5 b in
    section_on (whole s) s.args.out.now (out5 b) (behind-parts s) (parts s) (at5 b) _ _ (written5 b) c.put_parts-at.ensures

written7 : (c : After-slice_known-7-1) → let s = start7 c in Writing (whole s) s.args.out.now (out7 c) (at7 c) []
written7 c =
    let b = back7 c in
    let s = start6 b in
    section_on (whole s) s.args.out.now (out6 b) [] (levels s) (at6 b) _ _ (written6 b) c.put_level-at.ensures

-- ---- what is asked

pub put_one-requires : goal.put_one-requires
put_one-requires c = (opening-room (whole c) (conjuncts c ++ behind-conjuncts c) (length c.args.out.now) (sections c) c.requires.kept_in_bounds, search rules)

pub slice_bounds-put_conjuncts-count : goal.slice_bounds-put_conjuncts-count
slice_bounds-put_conjuncts-count c = at-within _ _ _ _ _ (written2 c)

pub slice_bounds-put_conjuncts-start : goal.slice_bounds-put_conjuncts-start
slice_bounds-put_conjuncts-start c = at-within _ _ _ _ _ (written2 c)

pub put_conjuncts-at-requires : goal.put_conjuncts-at-requires
put_conjuncts-at-requires c =
    let b = (goal.at.put_conjuncts-at-requires c).After-slice_known-2-1 in
    let s = start2 b in
    record { head_bound = omega (arith, c.requires.operations_bound.1.room, c.requires.operations_bound.2); kept_in_bounds = room_for _ _ (out2 b) (behind-conjuncts s) (conjuncts s) 1 (written2 b) }

pub overflow_add-at : goal.overflow_add-at
overflow_add-at c =
    let b = back3 c in
    let s = start2 b in
    let w = place-within _ _ (out2 b) (behind-conjuncts s) (conjuncts s) 1 (written2 b) in
    let e = c.put_conjuncts-at.ensures.0 in
    omega (arith, w, e, c.well_formed)

pub slice_bounds-put_operations-count : goal.slice_bounds-put_operations-count
slice_bounds-put_operations-count c = at-within _ _ _ _ _ (written3 c)

pub slice_bounds-put_operations-start : goal.slice_bounds-put_operations-start
slice_bounds-put_operations-start c = at-within _ _ _ _ _ (written3 c)

pub put_operations-at-requires : goal.put_operations-at-requires
put_operations-at-requires c =
    let b = (goal.at.put_operations-at-requires c).After-slice_known-3-1 in
    let s = start3 b in
    (omega (arith, c.requires.operations_bound.1.room, c.requires.operations_bound.2), room_for _ _ (out3 b) (behind-operations s) (operations s) (at3 b) (written3 b))

pub overflow_add-at-2 : goal.overflow_add-at-2
overflow_add-at-2 c =
    let b = back4 c in
    let s = start3 b in
    let w = place-within _ _ (out3 b) (behind-operations s) (operations s) (at3 b) (written3 b) in
    let e = c.put_operations-at.ensures.0 in
    omega (arith, w, e, c.well_formed)

pub slice_bounds-put_atoms-count : goal.slice_bounds-put_atoms-count
slice_bounds-put_atoms-count c = at-within _ _ _ _ _ (written4 c)

pub slice_bounds-put_atoms-start : goal.slice_bounds-put_atoms-start
slice_bounds-put_atoms-start c = at-within _ _ _ _ _ (written4 c)

pub put_atoms-at-requires : goal.put_atoms-at-requires
put_atoms-at-requires c =
    let b = (goal.at.put_atoms-at-requires c).After-slice_known-4-1 in
    let s = start4 b in
    room_for _ _ (out4 b) (behind-atoms s) (atoms s) (at4 b) (written4 b)

pub overflow_add-at-3 : goal.overflow_add-at-3
overflow_add-at-3 c =
    let b = back5 c in
    let s = start4 b in
    let w = place-within _ _ (out4 b) (behind-atoms s) (atoms s) (at4 b) (written4 b) in
    let e = c.put_atoms-at.ensures.0 in
    omega (arith, w, e, c.well_formed)

pub slice_bounds-put_parts-count : goal.slice_bounds-put_parts-count
slice_bounds-put_parts-count c = at-within _ _ _ _ _ (written5 c)

pub slice_bounds-put_parts-start : goal.slice_bounds-put_parts-start
slice_bounds-put_parts-start c = at-within _ _ _ _ _ (written5 c)

pub put_parts-at-requires : goal.put_parts-at-requires
put_parts-at-requires c =
    let b = (goal.at.put_parts-at-requires c).After-slice_known-5-1 in
    let s = start5 b in
    record { operations_bound = c.requires.operations_bound; head_in_bounds = room_for _ _ (out5 b) (behind-parts s) (parts s) (at5 b) (written5 b) }

pub overflow_add-at-4 : goal.overflow_add-at-4
overflow_add-at-4 c =
    let b = back6 c in
    let s = start5 b in
    let w = place-within _ _ (out5 b) (behind-parts s) (parts s) (at5 b) (written5 b) in
    let e = c.put_parts-at.ensures.0 in
    omega (arith, w, e, c.well_formed)

pub slice_bounds-put_level-count : goal.slice_bounds-put_level-count
slice_bounds-put_level-count c = at-within _ _ _ _ _ (written6 c)

pub slice_bounds-put_level-start : goal.slice_bounds-put_level-start
slice_bounds-put_level-start c = at-within _ _ _ _ _ (written6 c)

pub put_level-at-requires : goal.put_level-at-requires
put_level-at-requires c =
    let b = (goal.at.put_level-at-requires c).After-slice_known-6-1 in
    let s = start6 b in
    (omega (arith, c.requires.operations_bound.1.room, c.requires.operations_bound.2), room_for _ _ (out6 b) [] (levels s) (at6 b) (written6 b))

pub overflow_add-at-5 : goal.overflow_add-at-5
overflow_add-at-5 c =
    let b = back7 c in
    let s = start6 b in
    let w = place-within _ _ (out6 b) [] (levels s) (at6 b) (written6 b) in
    let e = c.put_level-at.ensures.0 in
    omega (arith, w, e, c.well_formed)

pub shape_of-out : goal.shape_of-out
shape_of-out c = (written7 c).long

pub returns : goal.returns
returns c = let s = start7 c in all-written (whole s) s.args.out.now (out7 c) (at7 c) (written7 c)
