use mathlib.Core.Path.{ap, ◌∙◌}
use native.Mathlib.Omega.{arith}
use Rattle.sets.specs.declared.Ascending.{Ascending}
use Rattle.write_sizes.specs.RuleSizeLaws.{part_count, adding_room, adding_more, adding_end, parts-begin, counts_most}
use Rattle.write_sizes.proofs.count_parts.Goals as goal

pub loop-role-init : goal.loop-role-init
loop-role-init c =
    let a = c.args in
    let r = ap (λ (s : Ascending). s.rest) c.into_iter-role-iterator.ensures.into_iter_gives ∙ c.members-role-items.ensures in
    parts-begin a.permissions.now a.operations a.starts.now a.scratch.now a.head _ (omega (arith, r, c.ranges.roles.fits)) c.requires.1 (r ∙ c.requires.3)

pub count_classes-n-requires : goal.count_classes-n-requires
count_classes-n-requires c = (c.requires.0, c.requires.1, c.requires.2, c.loop-role.invariant.low _ c.in-Some.ensures.steps.member)

pub overflow_add-n : goal.overflow_add-n
overflow_add-n c =
    let l = c.loop-role in
    let a = c.args in
    let r = adding_room (part_count a.permissions.now a.operations a.starts.now a.scratch.now a.head) l.n l.role-iterator.rest c.in-Some.role c.count_classes-n.result 0 l.invariant c.in-Some.ensures.steps.member c.count_classes-n.ensures in
    let m = counts_most a.permissions.now a.operations a.starts.now a.scratch.now a.head in
    omega (arith, r, m)

pub loop-role-preserved : goal.loop-role-preserved
loop-role-preserved c =
    let l = c.loop-role in
    let a = c.args in
    let t = c.in-Some.ensures.steps in
    adding_more (part_count a.permissions.now a.operations a.starts.now a.scratch.now a.head) l.n l.role-iterator.rest c.in-Some.role _ _ l.invariant t.member c.count_classes-n.ensures (omega (arith, t.fewer, l.invariant.small)) t.others

pub returns : goal.returns
returns c =
    let end = c.loop-role in
    let a = c.args in
    adding_end (part_count a.permissions.now a.operations a.starts.now a.scratch.now a.head) end.n end.role-iterator.rest c.in-None.ensures.steps.0 end.invariant
