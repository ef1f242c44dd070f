-- Assumes nothing.
use Prim.Native.Nat.{◌<◌}
use mathlib.Core.Path.{sym, ap, ◌∙◌, subst}
use native.Mathlib.Omega.{arith}
use Rattle.rule_notes.specs.KeptLaws.{listed-other}
use Rattle.rule_notes.specs.LineSteps.{PartWithin, listed_after}
use Rattle.rule_steps.proofs.join_part.Goals as goal
use Rattle.rule_steps.proofs.join_part.Goals.{In-Part}

-- the part's role has a place in the tables
within : (c : In-Part) → c.in-Part.role < 32
unfolding PartWithin
within c = subst PartWithin c.in-Part.is c.requires.0

pub offset_bounds-f-role : goal.offset_bounds-f-role
offset_bounds-f-role c = omega (arith, within c)

pub bounds-f-role : goal.bounds-f-role
bounds-f-role c = within (goal.at.bounds-f-role c).In-Part

pub add_part-requires : goal.add_part-requires
add_part-requires c = (within (goal.at.add_part-requires c).In-Part, c.requires.1, c.requires.2)

pub returns-in-Part : goal.returns-in-Part
unfolding listed_after
returns-in-Part c =
    let a = c.args in
    c.add_part.ensures ∙ ap (listed_after a.f.now.operations a.f.now.holders a.f.now.permissions a.listed.now) (sym c.in-Part.is)

pub returns-in_default : goal.returns-in_default
returns-in_default c = let a = c.args in listed-other a.f.now.operations a.f.now.holders a.f.now.permissions a.listed.now a.c c.in_default.not-Part
