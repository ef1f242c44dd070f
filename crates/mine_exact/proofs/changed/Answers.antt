-- Assumes nothing.
use mathlib.Core.Path.{refl, sym, ◌∙◌}
use Rattle.mine_corners.specs.Pairing.{changed_users}
use Rattle.mine_exact.proofs.changed.Goals as goal

pub returns-then-within : goal.returns-then-within
unfolding changed_users
returns-then-within c = rw (sym c.within.ensures ∙ c.if-within.true) refl

pub returns-then-within-2 : goal.returns-then-within-2
unfolding changed_users
returns-then-within-2 c = rw (sym c.within.ensures ∙ c.if-within.false, sym c.within-2.ensures ∙ c.if-within-2.true) refl

pub returns : goal.returns
unfolding changed_users
returns c =
    rw (sym c.within.ensures ∙ c.if-within.false, sym c.within-2.ensures ∙ c.if-within-2.false) c.union.ensures
