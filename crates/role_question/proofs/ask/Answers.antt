use Rattle.std.proofs.Common.{◌≡◌, true, sym, ap, ◌∙◌}
use Rattle.std.proofs.lemmas.Result.{err_from_is_err_and}
use Rattle.files.specs.Answer.{accepted}
use Rattle.role_record.specs.Record.{sizes_of, in_sizes}
use Rattle.role_record.specs.declared.Sizes.{Sizes}
use Rattle.role_question.proofs.RoleQuestionLaws.{file-refused, question-beyond, tables-long, question-answered}
use Rattle.role_question.proofs.ask.Goals as goal
use Rattle.role_question.proofs.ask.Goals.{Else-not-has}

-- the numbers are within the sizes of what was read
within : (c : Else-not-has) → in_sizes (sizes_of c.in_ok-f.f) c.args.user c.args.resource c.args.operation ≡ true
within c = let a = c.args in ap (λ (s : Sizes). in_sizes s a.user a.resource a.operation) (sym c.sizes.ensures) ∙ sym c.has.ensures ∙ c.if-not-has.false

pub returns-in_err-f : goal.returns-in_err-f
returns-in_err-f c =
    let p = err_from_is_err_and c.from_residual.result c.from_residual.ensures.1 in
    let a = c.args in
    rw (p.1, p.2) (file-refused a.file.now a.user a.resource a.operation _ c.in_err-f.ensures)

pub returns-then-not-has : goal.returns-then-not-has
returns-then-not-has c =
    let a = c.args in
    question-beyond a.file.now a.user a.resource a.operation c.in_ok-f.f c.in_ok-f.ensures (ap (λ (s : Sizes). in_sizes s a.user a.resource a.operation) (sym c.sizes.ensures) ∙ sym c.has.ensures ∙ c.if-not-has.true)

pub granted-requires : goal.granted-requires
granted-requires c =
    let a = c.args in
    tables-long a.file.now a.user a.resource a.operation c.in_ok-f.f c.in_ok-f.ensures (within (goal.at.granted-requires c).Else-not-has)

pub returns : goal.returns
returns c =
    let a = c.args in
    ap accepted c.granted.ensures ∙ question-answered a.file.now a.user a.resource a.operation c.in_ok-f.f c.in_ok-f.ensures (within (goal.at.returns c).Else-not-has)
