-- The invariant: the sum is that of the turns passed. Assumes nothing.
use Rattle.std.proofs.Common.{◌≡◌, ◌≤◌, rules}
use Rattle.files.specs.Answer.{told}
use Rattle.files.specs.Calls.{judge, verdict_told}
use Rattle.bench_judge.specs.JudgeChecksum.{sample_of, total}
use Rattle.bench_judge.proofs.checksum.Given as goal

abbrev pub invariant-loop-turn : goal.invariant-loop-turn
invariant-loop-turn l = (l.turn ≤ l.turns) × (l.sum ≡ total (sample_of (told verdict_told (judge 2 l.file l.rules))) l.turn)
