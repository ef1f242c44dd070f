use borrow.Author.Tests.{eq-eqb, ne_eqb, lt-ltb, le-ltb}
use mathlib.Core.Bool.{Bool}
use mathlib.Core.Path.{refl, ap, ◌∙◌}
use Rattle.rule_legal.specs.Operands.{value_legal}
use Rattle.sets.specs.Tests.{iff}
use Rattle.sets.specs.TestLaws.{beq_iff}
use Rattle.rule_legal.proofs.value_legal.Goals as goal

pub returns-then-v-eq-OWN : goal.returns-then-v-eq-OWN
unfolding value_legal
returns-then-v-eq-OWN c = rw (eq-eqb _ _ c.if-v-eq-OWN.true) c.own_legal.ensures

pub returns-then-v-f : goal.returns-then-v-f
unfolding value_legal
returns-then-v-f c =
    rw (ne_eqb _ _ c.if-v-eq-OWN.false, lt-ltb _ _ c.if-v-f.true) (beq_iff c.has.result c.args.v.set ∙ ap (λ (b : Bool). iff b c.args.v.set) c.has.ensures)

pub returns-else-v-f : goal.returns-else-v-f
unfolding value_legal
returns-else-v-f c = rw (ne_eqb _ _ c.if-v-eq-OWN.false, le-ltb _ _ c.if-v-f.false) refl
