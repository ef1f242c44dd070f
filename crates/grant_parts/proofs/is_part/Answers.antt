-- Assumes nothing.
use borrow.Author.Tests.{eq-eqb, ne_eqb, lt-ltb, le-ltb}
use mathlib.Core.Bool.{true, false}
use mathlib.Core.Path.{refl, sym, ◌∙◌}
use Rattle.grant_parts.specs.PartTableLaws.{part_by_tests}
use Rattle.grant_parts.proofs.is_part.Goals as goal

pub returns-then-operations-o : goal.returns-then-operations-o
returns-then-operations-o c = sym (part_by_tests _ _ _ _ _ false _ _ (le-ltb _ _ c.if-operations-o.true) refl refl)

pub returns-then-holders-role-eq0 : goal.returns-then-holders-role-eq0
returns-then-holders-role-eq0 c = sym (part_by_tests _ _ _ _ _ true true _ (lt-ltb _ _ c.if-operations-o.false) (eq-eqb _ _ c.if-holders-role-eq0.true) refl)

pub returns-then-permissions-o-eq0 : goal.returns-then-permissions-o-eq0
returns-then-permissions-o-eq0 c =
    sym (part_by_tests _ _ _ _ _ true false true (lt-ltb _ _ c.if-operations-o.false) (ne_eqb _ _ c.if-holders-role-eq0.false) (eq-eqb _ _ c.if-permissions-o-eq0.true))

pub returns : goal.returns
returns c =
    c.is_first.ensures ∙ sym (part_by_tests _ _ _ _ _ true false false (lt-ltb _ _ c.if-operations-o.false) (ne_eqb _ _ c.if-holders-role-eq0.false) (ne_eqb _ _ c.if-permissions-o-eq0.false))
