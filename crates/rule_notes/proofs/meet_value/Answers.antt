-- Assumes nothing.
use Prim.Native.Nat.{◌<◌}
use native.Mathlib.Omega.{arith}
use Rattle.rule_notes.specs.KeptLaws.{place-within, met-stored}
use Rattle.rule_notes.specs.LineSteps.{met_with}
use Rattle.rule_notes.proofs.meet_value.Goals as goal
use Rattle.rule_notes.proofs.meet_value.Goals.{After-place-at}

-- the place is one of the 14
low : (c : After-place-at) → c.place-at.result < 14
low c = let e = c.place-at.ensures in let l = place-within c.args.v.side c.args.v.attribute c.requires.0 in omega (arith, e, l)

pub offset_bounds-met-at : goal.offset_bounds-met-at
offset_bounds-met-at c = omega (arith, low (goal.at.offset_bounds-met-at c).After-place-at)

pub bounds-met-at : goal.bounds-met-at
bounds-met-at c = low (goal.at.bounds-met-at c).After-place-at

pub offset_bounds-met-at-2 : goal.offset_bounds-met-at-2
offset_bounds-met-at-2 c = omega (arith, low (goal.at.offset_bounds-met-at-2 c).After-place-at)

pub bounds-met-at-2 : goal.bounds-met-at-2
bounds-met-at-2 c = low (goal.at.bounds-met-at-2 c).After-place-at

pub returns : goal.returns
unfolding met_with
returns c =
    let a = c.args in
    met-stored a.met.now _ _ _ _ _ c.place-at.ensures c.meeting-who.ensures c.union.ensures
