-- Assumes nothing.
use native.Mathlib.Omega.{arith}
use Rattle.mine_join.specs.JoinedLaws.{meet_low, taken_in_lem}
use Rattle.mine_parts.specs.LayoutLaws.{atoms-low}
use Rattle.mine_join.proofs.take_in.Goals as goal

pub pack-rest-requires : goal.pack-rest-requires
pack-rest-requires c =
    (meet_low _ (atoms-low c.args.scratch.now c.args.i c.group_at-g.ensures) c.meet.ensures, c.requires.2, omega (arith, c.name_at-name.ensures), omega (arith, c.requires.0))

pub returns : goal.returns
returns c =
    taken_in_lem c.args.scratch.now c.args.i c.args.j c.args.level c.requires.0 c.requires.2 c.group_at-g.ensures c.group_at-h.ensures c.meet.ensures c.name_at-name.ensures
    c.pack-rest.ensures c.union.ensures c.union-2.ensures c.union-3.ensures c.store.ensures
