use borrow.Author.Tests.{lt-ltb, le-ltb}
use mathlib.Core.Path.{refl}
use Rattle.rule_legal.proofs.operations_legal.Goals as goal

pub returns-then-m-gt0 : goal.returns-then-m-gt0
returns-then-m-gt0 c = rw (lt-ltb _ _ c.if-m-gt0.true) c.all_below.ensures

pub returns : goal.returns
returns c = rw (le-ltb _ _ c.if-m-gt0.false) refl
