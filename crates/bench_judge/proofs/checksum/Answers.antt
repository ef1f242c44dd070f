use Rattle.std.proofs.Common.{◌≡◌, ap, ◌∙◌, ap₂, add-one, arith, rules}
use Rattle.files.specs.Answer.{told}
use Rattle.files.specs.Calls.{judge, verdict_told}
use Rattle.bench_judge.specs.JudgeChecksum.{plus, sample_of, total}
use Rattle.bench_judge.proofs.checksum.Goals as goal

pub loop-turn-preserved : goal.loop-turn-preserved
loop-turn-preserved c =
    let turn = c.loop-turn in
    (search rules, rw add-one (ap₂ plus turn.invariant.1 c.sample-sum.ensures))

pub returns : goal.returns
returns c =
    let a = c.args in
    let e : c.loop-turn.turn ≡ a.turns = omega arith in
    c.loop-turn.invariant.1 ∙ ap (total (sample_of (told verdict_told (judge 2 a.file.now a.rules.now)))) e
