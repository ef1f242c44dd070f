-- Each line in front is one of a legal file, and takes bytes. Assumes nothing.
use Rattle.std.proofs.Common.{ℕ, ◌+◌, ◌≤◌, ◌<◌, List, length, drop, length-drop, sym, subst, arith}
use Rattle.files.specs.RuleFile.{Lines}
use Rattle.policy.specs.Policy.{Policy}
use Rattle.role_file.specs.RoleStateLaws.{tail}
use Rattle.rule_headings.specs.HeadingLaws.{line-inside}
use Rattle.rule_headings.specs.Headings.{RuleAt}
use Rattle.rule_words.specs.TellingLaws.{Telling, telling-begun, heads, headed_on, told-on}
use Rattle.rule_words.proofs.tell_rules.Goals as goal
use Rattle.rule_words.proofs.tell_rules.Goals.{In-Ok}

inside : (g : _) (c : In-Ok g) → (0 < c.in-Ok.w) × (c.in-Ok.w ≤ length c.loop-line.rest.now)
inside g c = line-inside _ _ _ (sym c.in-Ok.ensures)

pub loop-line-init : goal.loop-line-init
loop-line-init g c = (omega arith, telling-begun _ c.requires.2)

pub slice_bounds-rest-count : goal.slice_bounds-rest-count
slice_bounds-rest-count g c = (inside g (goal.at.slice_bounds-rest-count g c).In-Ok).1

pub slice_bounds-rest-start : goal.slice_bounds-rest-start
slice_bounds-rest-start g c = omega (arith, (inside g (goal.at.slice_bounds-rest-start g c).In-Ok).1)

pub tell_heading-requires : goal.tell_heading-requires
tell_heading-requires g c =
    let rest : List ℕ = c.loop-line.rest.now in
    subst (λ (s : List ℕ). (F : Policy) × (rules : List Lines) × RuleAt F rules c.loop-line.number s) (sym (tail c.in-Ok.w rest)) (heads _ rest c.loop-line.invariant.1 _ _ (sym c.in-Ok.ensures) c.if-line-eq-OPENS.true)

pub loop-line-smaller-in_ok-tell_heading : goal.loop-line-smaller-in_ok-tell_heading
loop-line-smaller-in_ok-tell_heading g c = let i = inside g (goal.at.loop-line-smaller-in_ok-tell_heading g c).In-Ok in omega (arith, i.0, i.1)

pub loop-line-preserved-in_ok-tell_heading : goal.loop-line-preserved-in_ok-tell_heading
loop-line-preserved-in_ok-tell_heading g c =
    let l = c.loop-line in
    let i = inside g (goal.at.loop-line-preserved-in_ok-tell_heading g c).In-Ok in
    (omega (arith, i.0, i.1, l.invariant.0), subst (Telling (l.number + 1)) (sym (tail c.in-Ok.w l.rest.now)) (headed_on _ l.rest.now l.invariant.1 _ _ (sym c.in-Ok.ensures) c.if-line-eq-OPENS.true))

pub loop-line-smaller : goal.loop-line-smaller
loop-line-smaller g c = let i = inside g (goal.at.loop-line-smaller g c).In-Ok in omega (arith, i.0, i.1)

pub loop-line-preserved : goal.loop-line-preserved
loop-line-preserved g c =
    let l = c.loop-line in
    let i = inside g (goal.at.loop-line-preserved g c).In-Ok in
    (omega (arith, i.0, i.1, l.invariant.0), subst (Telling l.number) (sym (tail c.in-Ok.w l.rest.now)) (told-on _ l.rest.now l.invariant.1 _ _ (sym c.in-Ok.ensures) c.if-line-eq-OPENS.false))
