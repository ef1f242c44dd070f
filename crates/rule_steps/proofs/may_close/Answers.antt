-- Assumes nothing.
use borrow.Author.Tests.{not-true, not-false}
use Rattle.rule_notes.specs.KeptLaws.{close_outside, close_bare, close_untold, close_inside}
use Rattle.rule_steps.proofs.may_close.Goals as goal

pub returns-then-k-eq0 : goal.returns-then-k-eq0
returns-then-k-eq0 c = close_bare c.args.k c.if-k.true c.if-k-eq0.true

pub returns-then-not-k : goal.returns-then-not-k
returns-then-not-k c = close_untold c.args.k c.if-k.true (not-true _ c.if-not-k.true)

pub returns-then-k : goal.returns-then-k
returns-then-k c = close_inside c.args.k c.if-k.true c.if-k-eq0.false (not-false _ c.if-not-k.false)

pub returns : goal.returns
returns c = close_outside c.args.k c.if-k.false
