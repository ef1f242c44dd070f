-- Assumes nothing.
use lib.ListN.{length}
use mathlib.Core.Path.{◌≡◌, refl, ap, ◌∙◌}
use native.Mathlib.Omega.{arith}
use Prim.Native.Nat.{◌≤◌}
use Rattle.std.specs.Prelude.{Err}
use Rattle.std.proofs.lemmas.Result.{err_from_is_err_and}
use Rattle.role_file.specs.RoleStateLaws.{tail}
use Rattle.role_file.specs.SizedLaws.{read_policy}
use Rattle.files.specs.Answer.{accepted, map_answer}
use Rattle.files.specs.Calls.{read_both}
use Rattle.files.specs.Cause.{answer_of}
use Rattle.files.specs.RoleFile.{read_roles}
use Rattle.policy.specs.Policy.{Policy}
use Rattle.role_record.specs.Record.{Sized, record_of}
use Rattle.rule_reading.specs.BothFiles.{both_of}
use Rattle.rule_reading.specs.Turns.{read_beside}
use Rattle.rule_file.specs.OpenedLaws.{roles-refused, nothing-made, record-bounds, roles-tabled, rules_unopened, rules-opened, first-long, grid_left}
use Rattle.rule_file.proofs.read_into.Goals as goal
use Rattle.rule_file.proofs.read_into.Goals.{In_ok-f, In_ok-opening}

-- the policy that the role file states
stated : (c : In_ok-f) → (F : Policy) × Sized F × (read_roles 2 c.args.file.now ≡ accepted F) × (c.in_ok-f.f ≡ record_of F)
stated c = read_policy c.args.file.now c.in_ok-f.f c.in_ok-f.ensures

bounds : (c : In_ok-f) → (c.in_ok-f.f.resources ≤ 64) × (c.in_ok-f.f.operations ≤ 16) × (c.in_ok-f.f.roles ≤ 32)
bounds c = let p = stated c in record-bounds p.0 p.1 c.in_ok-f.f p.3

-- seven bytes stand in front of what is read
seven : (c : In_ok-opening) → 7 ≤ length c.args.rules.now
seven c =
    let p = read_policy c.args.file.now c.in_ok-f.f c.in_ok-f.ensures in
    (rules-opened c.args.file.now c.args.rules.now p.0 p.2 c.in_ok-f.f p.3 (accepted tt) c.in_ok-opening.ensures refl).0

pub returns-in_err-f : goal.returns-in_err-f
returns-in_err-f c =
    let p = err_from_is_err_and c.from_residual.result c.from_residual.ensures.1 in
    let q = nothing-made c.args.file.now c.args.rules.now _ _ (roles-refused c.args.file.now c.args.rules.now _ c.in_err-f.ensures) in
    (ap answer_of (p.1 ∙ ap Err p.2) ∙ q.0, q.1)

pub returns-in_err-opening : goal.returns-in_err-opening
returns-in_err-opening c =
    let p = err_from_is_err_and c.from_residual-in_err-opening.result c.from_residual-in_err-opening.ensures.1 in
    let s = stated (goal.at.returns-in_err-opening c).In_ok-f in
    let q = nothing-made c.args.file.now c.args.rules.now _ _ (rules_unopened c.args.file.now c.args.rules.now s.0 s.2 c.in_ok-f.f s.3 _ c.in_err-opening.ensures _ refl) in
    (ap answer_of (p.1 ∙ ap Err p.2) ∙ q.0, q.1)

pub links_of_values-requires : goal.links_of_values-requires
links_of_values-requires c = let b = bounds (goal.at.links_of_values-requires c).In_ok-f in (b.0, b.2)

pub slice_bounds-read_rules-count : goal.slice_bounds-read_rules-count
slice_bounds-read_rules-count c = omega (arith, seven (goal.at.slice_bounds-read_rules-count c).In_ok-opening)

pub slice_bounds-read_rules-start : goal.slice_bounds-read_rules-start
slice_bounds-read_rules-start c = omega (arith, seven (goal.at.slice_bounds-read_rules-start c).In_ok-opening)

pub overflow_mul-words : goal.overflow_mul-words
overflow_mul-words c = omega (arith, bounds (goal.at.overflow_mul-words c).In_ok-f)

pub slice_bounds-read_rules-end-2 : goal.slice_bounds-read_rules-end-2
slice_bounds-read_rules-end-2 c = omega (arith, bounds (goal.at.slice_bounds-read_rules-end-2 c).In_ok-f, c.requires.0)

pub slice_bounds-read_rules-end-3 : goal.slice_bounds-read_rules-end-3
slice_bounds-read_rules-end-3 c = omega (arith, bounds (goal.at.slice_bounds-read_rules-end-3 c).In_ok-f, c.requires.1)

pub read_rules-requires : goal.read_rules-requires
read_rules-requires c =
    let at = (goal.at.read_rules-requires c).In_ok-f in
    let p = stated at in
    let b = bounds at in
    ((p.0, roles-tabled p.0 p.1 c.in_ok-f.f p.3 _ c.links_of_values.ensures), first-long _ _ (omega (arith, b, c.requires.0)), first-long _ _ (omega (arith, b, c.requires.1)))

pub returns : goal.returns
returns c =
    let a = c.args in
    let p = stated (goal.at.returns c).In_ok-f in
    let s : read_beside p.0 _ ≡ read_both 2 a.file.now a.rules.now =
    ap (read_beside p.0) (tail 7 a.rules.now) ∙ (rules-opened a.file.now a.rules.now p.0 p.2 c.in_ok-f.f p.3 (accepted tt) c.in_ok-opening.ensures refl).1 in
    let g = c.read_rules.ensures p.0 (roles-tabled p.0 p.1 c.in_ok-f.f p.3 _ c.links_of_values.ensures) in
    (g.0 ∙ ap (map_answer both_of) s, grid_left _ _ _ _ s g.1)
