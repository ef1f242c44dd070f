-- Assumes nothing.
use Rattle.std.proofs.Common.{rules, ◌≡◌, ℕ, List, get_or, Fits, w8, subst, arith}
use Rattle.files.specs.Answer.{refused, map_answer}
use Rattle.files.specs.Cause.{cause}
use Rattle.files.specs.RoleFile.{read_roles}
use Rattle.files.specs.declared.refusal.Refusal.{Refusal}
use Rattle.files.proofs.BytesLaws.{Bytes, bytes-all}
use Rattle.role_record.specs.Record.{record_of}
use Rattle.role_circle.specs.CircledLaws.{Faulty, circle_none, circle_other, faulty, circle_more, circle_low, circle_leads, circle_lacks, circle_fits}
use Rattle.role_circle.proofs.circle.Goals as goal
use Rattle.role_circle.proofs.circle.Goals.{After-lines-roles}

-- what is read is bytes
bytes-of : (s : List ℕ) → ((i : ℕ) → Fits w8 (get_or s i 0)) → Bytes s
bytes-of s h = bytes-all s (λ i. let b = (h i).fits in omega (arith, b))

-- the lines collected are those of the file, whose one fault is 7
fault : (c : After-lines-roles) → Faulty c.args.file.now c.lines-roles.new.lines c.lines-roles.result
fault c =
    let file : List ℕ = c.args.file.now in
    faulty file (bytes-of file c.type_inv.file)
    (subst (λ (e : Refusal). refused (cause e) ≡ map_answer record_of (read_roles 2 file)) c.in-Err-OwnSenior.field-0-is c.in-Err-OwnSenior.ensures)
    c.lines-roles.new.lines c.lines-roles.result c.lines-roles.ensures

pub returns-in-Ok : goal.returns-in-Ok
returns-in-Ok c = circle_none c.args.file.now c.args.out.now (bytes-of c.args.file.now c.type_inv.file) c.in-Ok.field-0 c.in-Ok.ensures

pub shortest-c-requires : goal.shortest-c-requires
shortest-c-requires c = (fault (goal.at.shortest-c-requires c).After-lines-roles).few

pub returns-then-out-c : goal.returns-then-out-c
returns-then-out-c c =
    let s = c.shortest-c.result in
    let file : List ℕ = c.args.file.now in
    circle_lacks file c.lines-roles.new.lines c.lines-roles.result s.low s.more (fault (goal.at.returns-then-out-c c).After-lines-roles) c.shortest-c.ensures c.args.out.now (bytes-of file c.type_inv.file) c.if-out-c.true

pub write-requires : goal.write-requires
write-requires c =
    let s = c.shortest-c.result in
    let lines : List ℕ = c.lines-roles.new.lines in
    let file : List ℕ = c.args.file.now in
    let faults : Faulty file lines c.lines-roles.result = fault (goal.at.write-requires c).After-lines-roles in (
      faults.few,
      circle_low file lines c.lines-roles.result s.low s.more faults c.shortest-c.ensures,
      circle_more file lines c.lines-roles.result s.low s.more faults c.shortest-c.ensures,
      c.if-out-c.false,
      circle_leads file lines c.lines-roles.result s.low s.more faults c.shortest-c.ensures,
    )

pub returns-else-out-c : goal.returns-else-out-c
returns-else-out-c c =
    let s = c.shortest-c.result in
    let file : List ℕ = c.args.file.now in
    circle_fits file c.lines-roles.new.lines c.lines-roles.result s.low s.more (fault (goal.at.returns-else-out-c c).After-lines-roles) c.shortest-c.ensures c.args.out.now _ (bytes-of file c.type_inv.file) c.if-out-c.false c.write.ensures

pub returns-in-Err : goal.returns-in-Err
returns-in-Err c = circle_other c.args.file.now c.args.out.now (bytes-of c.args.file.now c.type_inv.file) c.in-Err.refusal c.in-Err.ensures (λ e. search rules)
