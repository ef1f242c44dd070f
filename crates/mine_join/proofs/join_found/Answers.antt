-- Assumes nothing.
use native.Mathlib.Omega.{arith}
use Rattle.mine_join.specs.JoinedLaws.{marks-joined, one_of, group-joined, in_order, joined_same}
use Rattle.mine_parts.specs.Layout.{users_at, resources_at}
use Rattle.mine_join.proofs.join_found.Goals as goal

pub join-requires : goal.join-requires
join-requires c =
    let o = in_order c.requires.3 c.lower-i.ensures c.higher-j.ensures in
    (o.0, omega (arith, o.1, c.requires.2), c.requires.3.low)

pub unmark-requires : goal.unmark-requires
unmark-requires c =
    let o = in_order c.requires.3 c.lower-i.ensures c.higher-j.ensures in
    omega (arith, o.1, c.requires.2)

pub mark_again-requires : goal.mark_again-requires
mark_again-requires c =
    let o = in_order c.requires.3 c.lower-i.ensures c.higher-j.ensures in
    (o.0, o.1, omega (arith, c.join.ensures.long, c.requires.2), marks-joined o.0 (omega (arith, o.1, c.requires.2)) c.join.ensures o.2 c.requires.4.marks c.unmark.ensures)

pub shape_of-scratch : goal.shape_of-scratch
shape_of-scratch c =
    c.join.ensures.long

pub returns : goal.returns
returns c =
    let a = c.args in
    let o = in_order c.requires.3 c.lower-i.ensures c.higher-j.ensures in
    let old = c.requires.4 in
    let m = c.widen.ensures (users_at a.scratch.now a.c) (resources_at a.scratch.now a.c) old.group in (
      c.lower-i.ensures,
      joined_same c.higher-j.ensures c.join.ensures,
      record {
        marks = marks-joined o.0 (omega (arith, o.1, c.requires.2)) c.join.ensures o.2 old.marks c.unmark.ensures;
        group = group-joined a.matches.now a.c a.found.head c.widen.new.met c.join.ensures c.lower-i.ensures c.higher-j.ensures c.users_at-users.ensures c.resources_at-resources.ensures m;
        reach = c.mark_again.ensures a.scratch.now a.c a.found.level c.join.ensures o.2 (one_of a.c a.found.head c.lower-i.ensures c.higher-j.ensures) c.group_at-g.ensures old.reach;
      },
    )
