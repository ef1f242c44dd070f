-- Assumes nothing.
use Rattle.std.proofs.Common.{◌≡◌, length, sym, ap, ◌∙◌, subst, arith}
use Rattle.std.proofs.lemmas.Result.{err_from_is_err_and}
use Rattle.files.proofs.BytesLaws.{number_positive}
use Rattle.files.specs.Cause.{cause}
use Rattle.right_answers.specs.Codes.{edit_code}
use Rattle.right_edits.specs.StandingLaws.{edit_refused, edit_same, edit_done, edit_room}
use Rattle.right_record.specs.Reassigned.{an_edit}
use Rattle.right_words.specs.Rights.{refreshed}
use Rattle.role_record.specs.Record.{WithinLimits, sizes_of}
use Rattle.role_record.specs.declared.Sizes.{Sizes}
use Rattle.right_edits.proofs.edit.Goals as goal
use Rattle.right_edits.proofs.edit.Goals.{In_ok-may_edit}

-- the edit is not refused
passed : (c : In_ok-may_edit) → edit_code (sizes_of c.args.f.now) (length c.args.table.now) c.args.role c.args.user ≡ 0
passed c = let a = c.args in ap (λ (n : Sizes). edit_code n (length a.table.now) a.role a.user) (sym c.sizes-sizes.ensures) ∙ sym c.in_ok-may_edit.ensures

pub returns-in_err-may_edit : goal.returns-in_err-may_edit
returns-in_err-may_edit c =
    let p = err_from_is_err_and c.from_residual.result c.from_residual.ensures.1 in
    let a = c.args in
    rw (p.1, p.2)
    (edit_refused a.f.now a.table.now (an_edit a.gives a.role a.user) _ (c.in_err-may_edit.ensures ∙ ap (λ (n : Sizes). edit_code n (length a.table.now) a.role a.user) c.sizes-sizes.ensures)
    (number_positive (cause c.in_err-may_edit.field-0.0)))

pub offset_bounds-f-role : goal.offset_bounds-f-role
offset_bounds-f-role c =
    let a = c.args in
    let low = (edit_room a.f.now a.table.now (an_edit a.gives a.role a.user) (passed c)).2 in
    omega (arith, low)

pub bounds-f-role : goal.bounds-f-role
bounds-f-role c = let a = c.args in (edit_room a.f.now a.table.now (an_edit a.gives a.role a.user) (passed (goal.at.bounds-f-role c).In_ok-may_edit)).2

pub returns-then-has-gives : goal.returns-then-has-gives
returns-then-has-gives c =
    let a = c.args in
    edit_same a.f.now a.table.now (an_edit a.gives a.role a.user) c.has.result (passed (goal.at.returns-then-has-gives c).In_ok-may_edit) c.has.ensures c.if-has-gives.true

pub reassign-requires : goal.reassign-requires
reassign-requires c =
    let a = c.args in
    let r = edit_room a.f.now a.table.now (an_edit a.gives a.role a.user) (passed (goal.at.reassign-requires c).In_ok-may_edit) in
    (r.1.3, r.2)

pub refresh-requires : goal.refresh-requires
refresh-requires c =
    let a = c.args in
    let r = edit_room a.f.now a.table.now (an_edit a.gives a.role a.user) (passed (goal.at.refresh-requires c).In_ok-may_edit) in
    (subst WithinLimits (sym c.sizes-sizes.ensures) r.1, r.3, r.0)

pub returns : goal.returns
returns c =
    let a = c.args in
    let g = c.reassign.new.f in
    edit_done a.f.now a.table.now (an_edit a.gives a.role a.user) c.has.result g _ (passed (goal.at.returns c).In_ok-may_edit)
    c.has.ensures c.if-has-gives.false c.reassign.ensures (c.refresh.ensures ∙ ap (λ (n : Sizes). refreshed n g.holders g.permissions a.user a.table.now) c.sizes-sizes.ensures)
