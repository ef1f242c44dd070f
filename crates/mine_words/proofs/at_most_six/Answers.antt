-- Assumes nothing.
use borrow.Author.Tests.{lt-ltb, le-ltb}
use mathlib.Core.Path.{refl}
use Rattle.mine_words.specs.PartWords.{at_most_six}
use Rattle.mine_words.proofs.at_most_six.Goals as goal

pub returns-then-n-lt-ATTRIBUTES : goal.returns-then-n-lt-ATTRIBUTES
unfolding at_most_six
returns-then-n-lt-ATTRIBUTES c = rw (lt-ltb _ _ c.if-n-lt-ATTRIBUTES.true) refl

pub returns-else-n-lt-ATTRIBUTES : goal.returns-else-n-lt-ATTRIBUTES
unfolding at_most_six
returns-else-n-lt-ATTRIBUTES c = rw (le-ltb _ _ c.if-n-lt-ATTRIBUTES.false) refl
