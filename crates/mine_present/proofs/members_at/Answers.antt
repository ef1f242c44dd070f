-- Assumes nothing.
use borrow.Author.Tests.{lt-ltb, le-ltb}
use mathlib.Core.Path.{refl}
use Rattle.mine_present.proofs.members_at.Goals as goal

pub returns-then-place-lt-CONJUNCTS : goal.returns-then-place-lt-CONJUNCTS
returns-then-place-lt-CONJUNCTS c = rw (lt-ltb _ _ c.if-place-lt-CONJUNCTS.true) refl

pub returns : goal.returns
returns c = rw (le-ltb _ _ c.if-place-lt-CONJUNCTS.false) refl
