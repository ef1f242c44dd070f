use Rattle.std.proofs.Common.{◌≡◌, ap, ◌∙◌, ap₂, add-one, arith, rules}
use Rattle.files.specs.Answer.{told}
use Rattle.files.specs.Denials.{denial_answer}
use Rattle.files.specs.Windows.{worst_values}
use Rattle.bench_denials.specs.DenialChecksum.{plus, sample_of, total}
use Rattle.bench_denials.proofs.checksum.Goals as goal

pub loop-turn-preserved : goal.loop-turn-preserved
loop-turn-preserved c =
    let turn = c.loop-turn in
    (search rules, rw add-one (ap₂ plus turn.invariant.1 c.sample-sum.ensures))

pub returns : goal.returns
returns c =
    let a = c.args in
    let e : c.loop-turn.turn ≡ a.turns = omega arith in
    c.loop-turn.invariant.1 ∙ ap (total (sample_of (told worst_values (denial_answer 2 a.file.now a.rules.now a.log.now a.window)))) e
