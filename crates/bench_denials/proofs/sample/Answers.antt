-- The weight of the answer, and the turn. Assumes nothing.
use Rattle.std.proofs.Common.{refl}
use Rattle.files.proofs.AnswerLaws.{map-told}
use Rattle.log_windows.specs.Counting.{worst_of, worst_numbers}
use Rattle.bench_denials.proofs.sample.Goals as goal

pub returns : goal.returns
returns c = rw (c.weight.ensures, c.denials.ensures, map-told worst_of worst_numbers) refl
