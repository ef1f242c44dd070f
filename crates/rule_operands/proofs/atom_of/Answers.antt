use mathlib.Core.Path.{refl, sym, ◌∙◌}
use Rattle.rule_operands.specs.Checked.{atom_of}
use Rattle.rule_operands.proofs.atom_of.Goals as goal

pub returns-then-has-2 : goal.returns-then-has-2
unfolding atom_of
returns-then-has-2 c = rw (sym c.has.ensures ∙ c.if-has.true, sym c.has-then-has.ensures ∙ c.if-has-2.true) refl

pub returns-then-has : goal.returns-then-has
unfolding atom_of
returns-then-has c = rw (sym c.has.ensures ∙ c.if-has.true, sym c.has-then-has.ensures ∙ c.if-has-2.false) refl

pub returns : goal.returns
unfolding atom_of
returns c = rw (sym c.has.ensures ∙ c.if-has.false) refl
