-- Assumes nothing.
use Prim.Native.Nat.{◌*◌}
use mathlib.Core.Path.{◌≡◌, sym, ap, ◌∙◌}
use native.Mathlib.Omega.{arith}
use Rattle.std.proofs.lemmas.Result.{err_from_is_err_and}
use Rattle.role_record.specs.Record.{sizes_of, in_sizes}
use Rattle.role_record.specs.declared.Sizes.{Sizes}
use Rattle.rule_file.specs.LegalLaws.{both-accepted}
use Rattle.rule_file.specs.OpenedLaws.{first-long}
use Rattle.rule_question.specs.RuleQuestionLaws.{cell-inside, unanswered, answered-beyond, answered-grid}
use Rattle.rule_question.proofs.ask_in.Goals as goal
use Rattle.rule_question.proofs.ask_in.Goals.{After-has}

-- the test of the numbers, by the sizes of what was read
tested : (c : After-has) → in_sizes (sizes_of c.in_ok-b.b.file) c.args.user c.args.resource c.args.operation ≡ c.has.result
tested c = sym (c.has.ensures ∙ ap (λ (s : Sizes). in_sizes s c.args.user c.args.resource c.args.operation) c.sizes.ensures)

pub returns-in_err-b : goal.returns-in_err-b
returns-in_err-b c =
    let a = c.args in
    let p = err_from_is_err_and c.from_residual.result c.from_residual.ensures.1 in
    rw (p.1, p.2) (unanswered a.user a.resource a.operation _ _ _ c.in_err-b.ensures.0)

pub returns-then-not-has : goal.returns-then-not-has
returns-then-not-has c =
    let a = c.args in
    answered-beyond a.user a.resource a.operation _ _ c.in_ok-b.b c.in_ok-b.ensures.0 (tested (goal.at.returns-then-not-has c).After-has ∙ c.if-not-has.true)

pub overflow_mul-words : goal.overflow_mul-words
overflow_mul-words c =
    let sizes = (both-accepted c.args.file.now c.args.rules.now c.in_ok-b.b c.in_ok-b.ensures.0).sizes in
    omega (arith, sizes.2)

pub slice_bounds-has-end : goal.slice_bounds-has-end
slice_bounds-has-end c =
    let sizes = (both-accepted c.args.file.now c.args.rules.now c.in_ok-b.b c.in_ok-b.ensures.0).sizes in
    omega (arith, sizes.2, c.requires.1, c.read_into.auto.grid)

pub has-requires-2 : goal.has-requires-2
has-requires-2 c =
    let sizes = (both-accepted c.args.file.now c.args.rules.now c.in_ok-b.b c.in_ok-b.ensures.0).sizes in
    let l = first-long (64 * c.in_ok-b.b.file.operations) c.read_into.new.grid (omega (arith, sizes.2, c.requires.1, c.read_into.auto.grid)) in
    let cell = cell-inside c.args.user c.args.resource c.args.operation (sizes_of c.in_ok-b.b.file) (tested (goal.at.has-requires-2 c).After-has ∙ c.if-not-has.false) in
    omega (arith, sizes.0, cell.0, cell.1, l)

pub returns : goal.returns
returns c =
    let a = c.args in
    answered-grid a.user a.resource a.operation _ _ c.in_ok-b.b c.in_ok-b.ensures.0 c.read_into.new.grid c.has-2.result c.in_ok-b.ensures.1 (tested (goal.at.returns c).After-has ∙ c.if-not-has.false) c.has-2.ensures
