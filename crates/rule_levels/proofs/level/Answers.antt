-- Four cases. Assumes nothing.
use mathlib.Core.Path.{sym, ap₂}
use Rattle.rule_levels.specs.Levels.{level_for}
use Rattle.sets.specs.Lowest.{lowest}
use Rattle.rule_levels.proofs.level.Goals as goal

pub returns-then-numbers : goal.returns-then-numbers
unfolding level_for lowest
returns-then-numbers c = ap₂ level_for (sym c.if-roles.true) (sym c.if-numbers.true)

pub returns-then-roles : goal.returns-then-roles
unfolding level_for lowest
returns-then-roles c = ap₂ level_for (sym c.if-roles.true) (sym c.if-numbers.false)

pub returns-then-numbers-2 : goal.returns-then-numbers-2
unfolding level_for lowest
returns-then-numbers-2 c = ap₂ level_for (sym c.if-roles.false) (sym c.if-numbers-2.true)

pub returns : goal.returns
unfolding level_for lowest
returns c = ap₂ level_for (sym c.if-roles.false) (sym c.if-numbers-2.false)
