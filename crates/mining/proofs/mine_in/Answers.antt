-- Assumes nothing.
use mathlib.Core.Bool.{true, false}
use mathlib.Core.Path.{sym, subst, ◌∙◌}
use Rattle.files.proofs.AnswerLaws.{map-refused}
use Rattle.files.specs.Calls.{cuts_ok}
use Rattle.files.specs.Cause.{cause}
use Rattle.files.specs.RoleFile.{read_roles}
use Rattle.role_file.specs.SizedLaws.{read_policy}
use Rattle.role_record.specs.Record.{record_of}
use Rattle.role_record.specs.declared.Sizes.{Sizes}
use Rattle.sets.specs.Tests.{Is}
use Rattle.write_answer.proofs.AssemblyLaws.{record-sizes, stored, cuts_so}
use Rattle.write_answer.proofs.MineLaws.{unread, bad-cuts, told-so, unread-bytes, uncut_bytes, cut-bytes}
use Rattle.mining.proofs.mine_in.Goals as goal

pub returns-in-Err : goal.returns-in-Err
returns-in-Err c =
    let a = c.args in
    let q = map-refused record_of (cause c.in-Err.refusal) (read_roles 2 a.file.now) c.in-Err.ensures in
    let e = c.nothing.ensures in
    (λ n h. told-so a.file.now a.cuts.now n a.out.now e.0 (unread a.file.now a.cuts.now n a.out.now h c.in-Err.refusal q), e.1 ∙ unread-bytes a.file.now a.cuts.now c.in-Err.refusal q)

-- `p` is the policy that the file states, and `k` what the test of the cuts says of this policy's roles
pub returns-then-not-legal : goal.returns-then-not-legal
returns-then-not-legal c =
    let a = c.args in
    let p = read_policy a.file.now c.in-Ok.f c.in-Ok.ensures in
    let k = cuts_so p.0 c.in-Ok.f p.3 a.cuts.now false (sym c.legal.ensures ∙ c.if-not-legal.true) in
    let e = c.nothing-then-not-legal.ensures in
    (λ n h. told-so a.file.now a.cuts.now n a.out.now e.0 (bad-cuts a.file.now a.cuts.now n a.out.now h p.0 p.2 k), e.1 ∙ uncut_bytes a.file.now a.cuts.now p.0 p.2 k)

pub mine_record-requires : goal.mine_record-requires
mine_record-requires c =
    let p = read_policy c.args.file.now c.in-Ok.f c.in-Ok.ensures in
    let z = record-sizes p.0 p.1 c.in-Ok.f p.3 c.sizes.result c.sizes.ensures in
    (z.0, z.1.0, z.1.1, c.requires, subst (λ (s : Sizes). Is (cuts_ok c.args.cuts.now s.roles)) (sym c.sizes.ensures) (sym c.legal.ensures ∙ c.if-not-legal.false))

pub returns : goal.returns
returns c =
    let a = c.args in
    let p = read_policy a.file.now c.in-Ok.f c.in-Ok.ensures in
    let k = cuts_so p.0 c.in-Ok.f p.3 a.cuts.now true (sym c.legal.ensures ∙ c.if-not-legal.false) in
    let s = c.mine_record.ensures p.0 p.1 (stored p.0 c.in-Ok.f p.3 c.sizes.result c.sizes.ensures) in
    (λ n h. s.0 a.file.now n h p.2 k, s.1 ∙ cut-bytes a.file.now a.cuts.now p.0 p.2 k)
