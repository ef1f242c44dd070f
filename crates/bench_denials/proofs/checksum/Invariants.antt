-- The invariant: the sum is that of the turns passed. Assumes nothing.
use Rattle.std.proofs.Common.{◌≡◌, ◌≤◌, rules}
use Rattle.files.specs.Answer.{told}
use Rattle.files.specs.Denials.{denial_answer}
use Rattle.files.specs.Windows.{worst_values}
use Rattle.bench_denials.specs.DenialChecksum.{sample_of, total}
use Rattle.bench_denials.proofs.checksum.Given as goal

abbrev pub invariant-loop-turn : goal.invariant-loop-turn
invariant-loop-turn l = (l.turn ≤ l.turns) × (l.sum ≡ total (sample_of (told worst_values (denial_answer 2 l.file l.rules l.log l.window))) l.turn)
