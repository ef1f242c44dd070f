-- The weight of what mining answers, the turn, and the byte. Assumes nothing.
use Rattle.std.proofs.Common.{refl}
use Rattle.files.proofs.AnswerLaws.{map-told}
use Rattle.write_answer.specs.MinedNumbers.{mined_of, mined_numbers}
use Rattle.bench_mine.proofs.sample.Goals as goal

pub returns : goal.returns
returns c = (rw (c.weight.ensures, c.mine-answer.ensures.0, c.ones.ensures, map-told mined_of mined_numbers, c.byte_at.ensures.0) refl, c.mine-answer.ensures.1)
