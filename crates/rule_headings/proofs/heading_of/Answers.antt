-- Each turn reads on, and the heading read has the rule's level. Assumes nothing.
use Rattle.std.proofs.Common.{ℕ, ◌≤◌, ◌<◌, List, length, drop, sym, ◌∙◌, subst, arith}
use Rattle.role_file.specs.RoleStateLaws.{tail}
use Rattle.rule_headings.specs.HeadingLaws.{Reading, begun, ended, left, one_more, line-inside}
use Rattle.rule_headings.specs.declared.Heading.{Heading}
use Rattle.rule_headings.specs.RuleLevelLaws.{heading_level}
use Rattle.rule_headings.proofs.heading_of.Goals as goal
use Rattle.rule_headings.proofs.heading_of.Goals.{In-Ok}

inside : (c : In-Ok) → (0 < c.in-Ok.w) × (c.in-Ok.w ≤ length c.loop-line.rest.now)
inside c = line-inside _ _ _ (sym c.in-Ok.ensures)

pub loop-line-init : goal.loop-line-init
loop-line-init c = begun _

pub slice_bounds-rest-count : goal.slice_bounds-rest-count
slice_bounds-rest-count c = (inside (goal.at.slice_bounds-rest-count c).In-Ok).1

pub slice_bounds-rest-start : goal.slice_bounds-rest-start
slice_bounds-rest-start c = omega (arith, (inside (goal.at.slice_bounds-rest-start c).In-Ok).1)

pub loop-line-smaller : goal.loop-line-smaller
loop-line-smaller c = let i = inside (goal.at.loop-line-smaller c).In-Ok in omega (arith, i.0, i.1)

pub loop-line-preserved : goal.loop-line-preserved
loop-line-preserved c =
    let l = c.loop-line in
    let source : List ℕ = c.args.s.now in
    subst (Reading source c.note-h.result) (sym (tail c.in-Ok.w l.rest.now))
    (subst (λ (h : Heading). Reading source h (drop c.in-Ok.w l.rest.now)) (sym c.note-h.ensures)
    (one_more _ _ _ l.invariant _ _ (sym c.in-Ok.ensures) (sym c.in_rule.ensures ∙ c.if-not-in_rule.false)))

pub returns-then-not-in_rule : goal.returns-then-not-in_rule
returns-then-not-in_rule c =
    let e = left _ _ _ c.loop-line.invariant _ _ (sym c.in-Ok.ensures) (sym c.in_rule.ensures ∙ c.if-not-in_rule.true) in
    (e, heading_level _ _ e)

pub returns-in_default : goal.returns-in_default
returns-in_default c =
    let e = ended _ _ _ c.loop-line.invariant _ (sym c.next.ensures ∙ c.in_default.is) in
    (e, heading_level _ _ e)
