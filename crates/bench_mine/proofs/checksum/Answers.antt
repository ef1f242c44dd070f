use Rattle.std.proofs.Common.{◌≡◌, ℕ, List, length, ap, ◌∙◌, ap₂, add-one, arith, rules}
use Rattle.files.specs.Answer.{told}
use Rattle.files.specs.Calls.{count_values, mine_answer, mine_output}
use Rattle.policy.specs.Cost.{four_ones}
use Rattle.bench_mine.specs.MineChecksum.{plus, sample_of, total}
use Rattle.bench_mine.proofs.checksum.Invariants.{turned}
use Rattle.bench_mine.proofs.checksum.Goals as goal

pub loop-turn-preserved : goal.loop-turn-preserved
loop-turn-preserved c =
    let a = c.args in
    let file = a.file.now in
    let cuts = a.cuts.now in
    let words = length a.scratch.now in
    let l = c.loop-turn in
    let sampled = c.sample-sum in
    let written = sampled.ensures.1 ∙ ap₂ (mine_output 2 file cuts) l.invariant.1 l.invariant.3 in
    let answered = ap₂ (λ (s o : ℕ). sample_of (told count_values (mine_answer 2 file cuts four_ones s o)) sampled.new.out l.turn) l.invariant.1 l.invariant.2 in
    let looked = ap (λ (m : List ℕ). sample_of (told count_values (mine_answer 2 file cuts four_ones words (length a.out.now))) m l.turn) written in
    (search rules, search rules, search rules, rw add-one written, rw add-one (ap₂ plus l.invariant.4 (sampled.ensures.0 ∙ (answered ∙ looked))))

pub returns : goal.returns
returns c =
    let a = c.args in
    let e : c.loop-turn.turn ≡ a.turns = omega arith in
    c.loop-turn.invariant.4 ∙ ap (total (turned a.file.now a.cuts.now (length a.scratch.now) a.out.now)) e
