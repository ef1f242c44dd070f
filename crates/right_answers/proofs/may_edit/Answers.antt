-- Assumes nothing.
use Rattle.std.specs.Prelude.{Result}
use Rattle.std.specs.Result.{result_and}
use Rattle.std.proofs.Common.{sym, ap, ◌∙◌}
use Rattle.std.proofs.lemmas.Result.{err_from_is_err_and}
use Rattle.files.specs.Cause.{cause}
use Rattle.files.specs.declared.refusal.Refusal.{Refusal}
use Rattle.files.proofs.BytesLaws.{number_positive}
use Rattle.right_answers.specs.CodeLaws.{edit_first, edit_then}
use Rattle.role_admit.specs.Admit.{below_of}
use Rattle.right_answers.proofs.may_edit.Goals as goal

pub returns-in_err-may_fill : goal.returns-in_err-may_fill
returns-in_err-may_fill c =
    let p = err_from_is_err_and c.from_residual.result c.from_residual.ensures.1 in
    let a = c.args in
    let h = c.in_err-may_fill.ensures in
    rw (p.1, p.2) (h ∙ edit_first a.sizes a.words a.role a.user (λ z. number_positive (cause c.in_err-may_fill.field-0.0) (h ∙ z)))

pub returns-in_err-below : goal.returns-in_err-below
returns-in_err-below c =
    let p = err_from_is_err_and c.from_residual-in_err-below.result c.from_residual-in_err-below.ensures.1 in
    let a = c.args in
    rw (p.1, p.2)
    (edit_then a.sizes a.words a.role a.user _ (sym c.in_ok-may_fill.ensures) (ap (λ (v : Result (Unit {0}) Refusal). result_and v (below_of a.user a.sizes.users)) c.in_err-below.ensures))

pub returns : goal.returns
returns c =
    let a = c.args in
    edit_then a.sizes a.words a.role a.user c.below-2.result (sym c.in_ok-may_fill.ensures)
    (c.below-2.ensures ∙ ap (λ (v : Result (Unit {0}) Refusal). result_and v (below_of a.user a.sizes.users)) c.in_ok-below.ensures)
