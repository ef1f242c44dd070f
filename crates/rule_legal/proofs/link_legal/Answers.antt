-- Assumes nothing.
use mathlib.Core.Path.{sym, ◌∙◌}
use Rattle.rule_legal.specs.OperandLaws.{link_user_unknown, link_resource_unknown, link_across, link_of_set, link_of_single}
use Rattle.rule_legal.proofs.link_legal.Goals as goal

pub returns-then-f-a : goal.returns-then-f-a
returns-then-f-a c =
    let a = c.args in
    link_user_unknown a.a a.b a.f.now.attributes a.f.now.kinds a.f.now.domains c.if-f-a.true

pub returns-then-f-b : goal.returns-then-f-b
returns-then-f-b c =
    let a = c.args in
    link_resource_unknown a.a a.b a.f.now.attributes a.f.now.kinds a.f.now.domains c.if-f-a.false c.if-f-b.true

pub returns-then-not-same_domain : goal.returns-then-not-same_domain
returns-then-not-same_domain c =
    let a = c.args in
    link_across a.a a.b a.f.now.attributes a.f.now.kinds a.f.now.domains c.if-f-a.false c.if-f-b.false (sym c.same_domain.ensures ∙ c.if-not-same_domain.true)

pub returns-then-has : goal.returns-then-has
returns-then-has c =
    let a = c.args in
    link_of_set a.a a.b a.f.now.attributes a.f.now.kinds a.f.now.domains c.if-f-a.false c.if-f-b.false (sym c.same_domain.ensures ∙ c.if-not-same_domain.false) (sym c.has.ensures ∙ c.if-has.true)

pub returns : goal.returns
returns c =
    let a = c.args in
    link_of_single a.a a.b a.f.now.attributes a.f.now.kinds a.f.now.domains c.if-f-a.false c.if-f-b.false (sym c.same_domain.ensures ∙ c.if-not-same_domain.false) (sym c.has.ensures ∙ c.if-has.false) c.has-2.ensures
