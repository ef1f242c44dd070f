-- Assumes nothing.
use Rattle.mine_parts.specs.LayoutLaws.{room-2, room-3, room-4}
use Rattle.mine_parts.proofs.store.Goals as goal

pub bounds-scratch-i-2 : goal.bounds-scratch-i-2
bounds-scratch-i-2 c =
    let s = c.args.s in
    room-2 c.args.scratch.now c.args.i s.users s.resources s.operations s.rest c.requires

pub bounds-scratch-i-3 : goal.bounds-scratch-i-3
bounds-scratch-i-3 c =
    let s = c.args.s in
    room-3 c.args.scratch.now c.args.i s.users s.resources s.operations s.rest c.requires

pub bounds-scratch-i-4 : goal.bounds-scratch-i-4
bounds-scratch-i-4 c =
    let s = c.args.s in
    room-4 c.args.scratch.now c.args.i s.users s.resources s.operations s.rest c.requires
