-- Assumes nothing.
use borrow.Author.Tests.{eq-eqb, ne_eqb}
use mathlib.Core.Path.{refl}
use Rattle.mine_rows.specs.KeptPlaces.{allowed_at}
use Rattle.mine_present.proofs.allowed_at.Goals as goal

pub returns-then-attribute-eq-ATTRIBUTES : goal.returns-then-attribute-eq-ATTRIBUTES
unfolding allowed_at
returns-then-attribute-eq-ATTRIBUTES c = rw (eq-eqb _ _ c.if-attribute-eq-ATTRIBUTES.true) c.own_at.ensures

pub returns : goal.returns
unfolding allowed_at
returns c = rw (ne_eqb _ _ c.if-attribute-eq-ATTRIBUTES.false) refl
