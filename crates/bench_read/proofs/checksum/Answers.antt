use Rattle.std.proofs.Common.{◌≡◌, ap, ◌∙◌, ap₂, add-one, arith, rules}
use Rattle.files.specs.Answer.{map_answer}
use Rattle.files.specs.RoleFile.{read_roles}
use Rattle.role_record.specs.Record.{record_of}
use Rattle.bench_read.specs.ReadChecksum.{plus, sample_of, total}
use Rattle.bench_read.proofs.checksum.Goals as goal

pub loop-turn-preserved : goal.loop-turn-preserved
loop-turn-preserved c =
    let turn = c.loop-turn in
    (search rules, rw add-one (ap₂ plus turn.invariant.1 c.sample-sum.ensures))

pub returns : goal.returns
returns c =
    let a = c.args in
    let e : c.loop-turn.turn ≡ a.turns = omega arith in
    c.loop-turn.invariant.1 ∙ ap (total (sample_of (map_answer record_of (read_roles 2 a.s.now)))) e
