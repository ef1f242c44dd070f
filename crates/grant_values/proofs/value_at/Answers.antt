-- Assumes nothing.
use borrow.Author.Tests.{lt-ltb, le-ltb}
use mathlib.Core.Path.{refl}
use Rattle.grant_values.specs.PlaceValues.{value_for}
use Rattle.grant_values.proofs.value_at.Goals as goal

pub returns-then-attribute-lt-ATTRIBUTES : goal.returns-then-attribute-lt-ATTRIBUTES
unfolding value_for
returns-then-attribute-lt-ATTRIBUTES c = rw (lt-ltb _ _ c.if-attribute-lt-ATTRIBUTES.true) refl

pub returns-then-place-lt-CONJUNCTS : goal.returns-then-place-lt-CONJUNCTS
unfolding value_for
returns-then-place-lt-CONJUNCTS c = rw (le-ltb _ _ c.if-attribute-lt-ATTRIBUTES.false, lt-ltb _ _ c.if-place-lt-CONJUNCTS.true) c.roles_of.ensures

pub returns : goal.returns
unfolding value_for
returns c = rw (le-ltb _ _ c.if-attribute-lt-ATTRIBUTES.false, le-ltb _ _ c.if-place-lt-CONJUNCTS.false) refl
