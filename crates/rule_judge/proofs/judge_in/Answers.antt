-- Assumes nothing.
use Prim.Native.Nat.{◌*◌}
use mathlib.Core.Path.{◌≡◌, refl, sym}
use native.Mathlib.Omega.{arith}
use Rattle.std.proofs.lemmas.Result.{err_from_is_err_and}
use Rattle.files.specs.Answer.{map_answer, accepted}
use Rattle.files.specs.Calls.{judge}
use Rattle.rule_file.specs.LegalLaws.{both-accepted}
use Rattle.rule_file.specs.OpenedLaws.{first-long}
use Rattle.rule_judge.specs.Judgement.{verdict_of}
use Rattle.rule_judge.proofs.JudgeLaws.{by_outcomes, stray_in, unjudged, judged-so, outcome, roles_lent, roles-long}
use Rattle.rule_judge.proofs.judge_in.Goals as goal
use Rattle.rule_judge.proofs.judge_in.Goals.{After-first_difference}

-- the verdict, by the outcomes of the comparisons
judged : (c : After-first_difference) → accepted (by_outcomes c.first_difference.result c.in_ok-b.b.stray (stray_in c.in_ok-b.b)) ≡ map_answer verdict_of (judge 2 c.args.file.now c.args.rules.now)
judged c = judged-so _ _ c.in_ok-b.b _ _ c.first_difference.result c.in_ok-b.ensures.0 c.in_ok-b.ensures.1 (roles_lent _ _ _ _ c.roles_grid.ensures) c.first_difference.ensures

pub returns-in_err-b : goal.returns-in_err-b
returns-in_err-b c =
    let p = err_from_is_err_and c.from_residual.result c.from_residual.ensures.1 in
    rw (p.1, p.2) (unjudged _ _ _ c.in_err-b.ensures.0)

pub overflow_mul-words : goal.overflow_mul-words
overflow_mul-words c =
    let sizes = (both-accepted c.args.file.now c.args.rules.now c.in_ok-b.b c.in_ok-b.ensures.0).sizes in
    omega (arith, sizes.2)

pub slice_bounds-roles_grid-end : goal.slice_bounds-roles_grid-end
slice_bounds-roles_grid-end c =
    let sizes = (both-accepted c.args.file.now c.args.rules.now c.in_ok-b.b c.in_ok-b.ensures.0).sizes in
    omega (arith, sizes.2, c.requires.0, c.read_into.auto.listed)

pub roles_grid-requires : goal.roles_grid-requires
roles_grid-requires c =
    let sizes = (both-accepted c.args.file.now c.args.rules.now c.in_ok-b.b c.in_ok-b.ensures.0).sizes in
    (sizes.3, sizes.2, first-long (64 * c.in_ok-b.b.file.operations) c.read_into.new.listed (omega (arith, sizes.2, c.requires.0, c.read_into.auto.listed)))

pub slice_bounds-first_difference-end-2 : goal.slice_bounds-first_difference-end-2
slice_bounds-first_difference-end-2 c =
    let sizes = (both-accepted c.args.file.now c.args.rules.now c.in_ok-b.b c.in_ok-b.ensures.0).sizes in
    omega (arith, sizes.2, c.requires.1, c.read_into.auto.grid)

pub first_difference-requires : goal.first_difference-requires
first_difference-requires c =
    let sizes = (both-accepted c.args.file.now c.args.rules.now c.in_ok-b.b c.in_ok-b.ensures.0).sizes in
    (sizes.0, omega (arith, sizes.2), roles-long _ _ _ _ c.roles_grid.ensures, first-long (64 * c.in_ok-b.b.file.operations) c.read_into.new.grid (omega (arith, sizes.2, c.requires.1, c.read_into.auto.grid)))

pub returns-in-Some : goal.returns-in-Some
returns-in-Some c = outcome c.in-Some.is refl refl (judged (goal.at.returns-in-Some c).After-first_difference)

pub returns-in-Some-stray : goal.returns-in-Some-stray
returns-in-Some-stray c = outcome c.in_default.is c.in-Some-stray.is refl (judged (goal.at.returns-in-Some-stray c).After-first_difference)

pub first_stray-requires : goal.first_stray-requires
first_stray-requires c =
    let sizes = (both-accepted c.args.file.now c.args.rules.now c.in_ok-b.b c.in_ok-b.ensures.0).sizes in
    (sizes.3, sizes.2)

pub returns-in-Some-first_stray : goal.returns-in-Some-first_stray
returns-in-Some-first_stray c = outcome c.in_default.is c.in_default-stray.is (sym c.in-Some-first_stray.ensures) (judged (goal.at.returns-in-Some-first_stray c).After-first_difference)

pub returns-in-None : goal.returns-in-None
returns-in-None c = outcome c.in_default.is c.in_default-stray.is (sym c.in-None.ensures) (judged (goal.at.returns-in-None c).After-first_difference)
