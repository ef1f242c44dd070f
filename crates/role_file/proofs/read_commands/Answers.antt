use borrow.Author.Tests.{eqb-true}
use lib.ListN.{length, length-drop}
use mathlib.Core.List.{List}
use mathlib.Core.Path.{◌≡◌, sym, ap, ◌∙◌, subst}
use Rattle.std.proofs.lemmas.Bool.{true≢false}
use native.Mathlib.Omega.{arith}
use Prim.Native.Nat.{ℕ, ◌≤◌, ◌<◌}
use Rattle.std.proofs.lemmas.Result.{err_from_is_err_and}
use Rattle.files.specs.Answer.{map_answer}
use Rattle.files.specs.RoleFile.{read_roles}
use Rattle.role_record.specs.Record.{record_of}
use Rattle.role_record.specs.declared.RoleFile.{RoleFile}
use Rattle.role_admit.specs.declared.phase.Phase.TheVariants.{Nothing}
use Rattle.role_file.specs.Reading.{settled_of}
use Rattle.role_file.specs.SettleLaws.{settled}
use Rattle.role_file.specs.RoleStateLaws.{State, begin, tail, few-attributes, few-roles, next-stops, next-some, next-inside, next-bounded, next-reached}
use Rattle.role_file.proofs.read_commands.Goals as goal
use Rattle.role_file.proofs.read_commands.Goals.{In_ok-c, After-settle}

pub loop-phase-init : goal.loop-phase-init
loop-phase-init c =
    let source : List ℕ = c.args.s.now in
    (λ z. absurd (true≢false (sym z)), λ z. subst (λ (f : RoleFile). State source source f Nothing) (sym c.empty-f.ensures) (begin source c.requires))

pub next-requires : goal.next-requires
next-requires c = few-attributes _ _ _ _ (c.loop-phase.invariant.1 (sym c.is_over.ensures ∙ c.loop-phase-test.true))

pub returns-in_err-c : goal.returns-in_err-c
returns-in_err-c c =
    let p = err_from_is_err_and c.from_residual.result c.from_residual.ensures.1 in
    let state = c.loop-phase.invariant.1 (sym c.is_over.ensures ∙ c.loop-phase-test.true) in
    rw (p.1, p.2) (ap (map_answer record_of) (next-stops _ _ _ _ state _ (sym c.in_err-c.ensures)))

pub store-phase-requires : goal.store-phase-requires
store-phase-requires c =
    next-bounded _ _ _ _ (c.loop-phase.invariant.1 (sym c.is_over.ensures ∙ c.loop-phase-test.true)) _ _ (sym c.in_ok-c.ensures)

-- a command takes some bytes, and not more than are left
inside : (c : In_ok-c) → c.in_ok-c.w ≤ length c.loop-phase.rest.now
inside c = next-inside _ _ _ _ (c.loop-phase.invariant.1 (sym c.is_over.ensures ∙ c.loop-phase-test.true)) _ _ (sym c.in_ok-c.ensures)

some : (c : In_ok-c) → 0 < c.in_ok-c.w
some c = next-some _ _ _ _ (c.loop-phase.invariant.1 (sym c.is_over.ensures ∙ c.loop-phase-test.true)) _ _ (sym c.in_ok-c.ensures)

pub slice_bounds-rest-count : goal.slice_bounds-rest-count
slice_bounds-rest-count c = inside (goal.at.slice_bounds-rest-count c).In_ok-c

pub slice_bounds-rest-start : goal.slice_bounds-rest-start
slice_bounds-rest-start c = let h = inside (goal.at.slice_bounds-rest-start c).In_ok-c in omega arith

pub loop-phase-smaller : goal.loop-phase-smaller
loop-phase-smaller c =
    let a = some (goal.at.loop-phase-smaller c).In_ok-c in
    let b = inside (goal.at.loop-phase-smaller c).In_ok-c in
    let d = length-drop c.in_ok-c.w c.loop-phase.rest.now in
    let e = ap length (tail c.in_ok-c.w c.loop-phase.rest.now) in
    omega arith

pub loop-phase-preserved : goal.loop-phase-preserved
loop-phase-preserved c =
    let state = c.loop-phase.invariant.1 (sym c.is_over.ensures ∙ c.loop-phase-test.true) in
    next-reached _ _ _ _ state _ _ (sym c.in_ok-c.ensures) _ _ c.store-phase.ensures.1 c.store-phase.ensures.0

pub settle-requires : goal.settle-requires
settle-requires c = few-roles _ _ _ (c.loop-phase.invariant.0 (sym c.is_over.ensures ∙ c.loop-phase-test.false))

-- what settling comes to is what reading does, once nothing is left
whole : (c : After-settle) → settled_of c.loop-phase.f ≡ map_answer record_of (read_roles 2 c.args.s.now)
whole c =
    let e = c.loop-phase.invariant.0 (sym c.is_over.ensures ∙ c.loop-phase-test.false) in
    let none = eqb-true _ _ (sym c.is_empty.ensures ∙ c.if-not-is_empty.false) in
    ap settled_of e.shows ∙ settled e.policy e.sized ∙ ap (map_answer record_of) (e.at-end none)

pub returns-in_err-settle : goal.returns-in_err-settle
returns-in_err-settle c =
    let p = err_from_is_err_and c.from_residual-in_err-settle.result c.from_residual-in_err-settle.ensures.1 in
    rw (p.1, p.2) (c.in_err-settle.ensures ∙ whole (goal.at.returns-in_err-settle c).After-settle)

pub returns : goal.returns
returns c = c.in_ok-settle.ensures ∙ whole (goal.at.returns c).After-settle
