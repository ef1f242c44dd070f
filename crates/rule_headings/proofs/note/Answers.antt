-- A 26, a 29, or another line. Assumes nothing.
use Rattle.std.proofs.Common.{eq-eqb, ne_eqb, refl}
use Rattle.rule_headings.specs.Headings.{noted}
use Rattle.rule_headings.proofs.note.Goals as goal

pub returns-then-line-eq-OPERATIONS : goal.returns-then-line-eq-OPERATIONS
unfolding noted
returns-then-line-eq-OPERATIONS c = rw (eq-eqb _ _ c.if-line-eq-OPERATIONS.true) refl

pub returns-then-line-eq-LEVEL : goal.returns-then-line-eq-LEVEL
unfolding noted
returns-then-line-eq-LEVEL c = rw (ne_eqb _ 0x26 c.if-line-eq-OPERATIONS.false, eq-eqb _ _ c.if-line-eq-LEVEL.true) refl

pub returns : goal.returns
unfolding noted
returns c = rw (ne_eqb _ 0x26 c.if-line-eq-OPERATIONS.false, ne_eqb _ 0x29 c.if-line-eq-LEVEL.false) refl
