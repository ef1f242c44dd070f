-- Assumes nothing.
use borrow.Author.Tests.{lt-ltb, le-ltb}
use mathlib.Core.Path.{refl, ap, ◌∙◌}
use Prim.Native.Nat.{ℕ}
use Rattle.grant_values.specs.PlaceValues.{knowing}
use Rattle.sets.specs.Sets.{mask_of}
use lib.Dec.{ltb}
use Rattle.grant_values.proofs.knowing.Goals as goal

pub returns-then-attribute-lt-ATTRIBUTES : goal.returns-then-attribute-lt-ATTRIBUTES
unfolding knowing
returns-then-attribute-lt-ATTRIBUTES c = rw (lt-ltb _ _ c.if-attribute-lt-ATTRIBUTES.true) refl

pub returns : goal.returns
unfolding knowing
returns c = rw (le-ltb _ _ c.if-attribute-lt-ATTRIBUTES.false) (c.below.ensures ∙ ap (λ (n : ℕ). mask_of 64 (λ x. ltb x n)) c.count_at.ensures)
