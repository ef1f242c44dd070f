-- Assumes nothing.
use Rattle.std.proofs.Common.{◌≡◌, length, sym, ap, ◌∙◌, subst}
use Rattle.std.proofs.lemmas.Result.{err_from_is_err_and}
use Rattle.files.proofs.BytesLaws.{number_positive}
use Rattle.files.specs.Answer.{number_of}
use Rattle.files.specs.Cause.{cause}
use Rattle.right_answers.specs.Codes.{fill_code}
use Rattle.right_answers.specs.CodeLaws.{fill_passed}
use Rattle.right_edits.specs.EveryListLaws.{every_list}
use Rattle.right_edits.specs.StandingLaws.{fill_refused, fill_done}
use Rattle.right_words.specs.Rights.{rights_table}
use Rattle.role_record.specs.Record.{WithinLimits, sizes_of}
use Rattle.role_record.specs.declared.Sizes.{Sizes}
use Rattle.right_edits.proofs.fill.Goals as goal
use Rattle.right_edits.proofs.fill.Goals.{In_ok-may_fill}

-- filling is not refused
passed : (c : In_ok-may_fill) → fill_code (sizes_of c.args.f.now) (length c.args.table.now) ≡ 0
passed c = ap (λ (n : Sizes). fill_code n (length c.args.table.now)) (sym c.sizes-sizes.ensures) ∙ sym c.in_ok-may_fill.ensures

pub returns-in_err-may_fill : goal.returns-in_err-may_fill
returns-in_err-may_fill c =
    let p = err_from_is_err_and c.from_residual.result c.from_residual.ensures.1 in
    let f = c.args.f.now in
    let t = c.args.table.now in
    let e = cause c.in_err-may_fill.field-0.0 in
    let q = fill_refused f t (number_of e) (c.in_err-may_fill.ensures ∙ ap (λ (n : Sizes). fill_code n (length t)) c.sizes-sizes.ensures) (number_positive e) in
    rw (p.1, p.2) (q.0, q.1, every_list f t t (number_of e) q.0 q.1)

pub holders-requires : goal.holders-requires
holders-requires c = (fill_passed (sizes_of c.args.f.now) (length c.args.table.now) (passed (goal.at.holders-requires c).In_ok-may_fill)).1.3

pub fill-requires : goal.fill-requires
fill-requires c =
    let room = fill_passed (sizes_of c.args.f.now) (length c.args.table.now) (passed (goal.at.fill-requires c).In_ok-may_fill) in
    (subst WithinLimits (sym c.sizes-sizes.ensures) room.1, room.0)

pub returns : goal.returns
returns c =
    let f = c.args.f.now in
    let t = c.args.table.now in
    let after = c.fill.new.table in
    let p = fill_done f t c.holders.new.out after (passed (goal.at.returns c).In_ok-may_fill) c.holders.ensures (c.fill.ensures ∙ ap (λ (n : Sizes). rights_table n c.holders.new.out f.permissions) c.sizes-sizes.ensures) in
    (p.0, p.1, every_list f t after 0 p.0 p.1)
