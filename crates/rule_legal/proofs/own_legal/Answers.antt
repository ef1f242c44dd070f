use borrow.Author.Tests.{eq-eqb, ne_eqb}
use mathlib.Core.Path.{refl}
use Rattle.rule_legal.specs.Operands.{own_legal}
use Rattle.rule_legal.proofs.own_legal.Goals as goal

pub returns-then-set : goal.returns-then-set
unfolding own_legal
returns-then-set c = rw (eq-eqb _ _ c.if-side-eq0.true, c.if-set.true) c.all_below.ensures

pub returns-then-side-eq0 : goal.returns-then-side-eq0
unfolding own_legal
returns-then-side-eq0 c = rw (eq-eqb _ _ c.if-side-eq0.true, c.if-set.false) refl

pub returns-then-set-2 : goal.returns-then-set-2
unfolding own_legal
returns-then-set-2 c = rw (ne_eqb _ _ c.if-side-eq0.false, c.if-set-2.true) refl

pub returns : goal.returns
unfolding own_legal
returns c = rw (ne_eqb _ _ c.if-side-eq0.false, c.if-set-2.false) refl
