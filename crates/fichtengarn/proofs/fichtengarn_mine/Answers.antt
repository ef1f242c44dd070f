-- Assumes nothing.
use Rattle.std.proofs.Common.{length}
use Rattle.fichtengarn.specs.NumberLaws.{made-told, handed-on, mined-told}
use Rattle.files.specs.Calls.{count_values, mine_answer}
use Rattle.write_answer.specs.MinedNumbers.{mined_of, mined_numbers}
use Rattle.fichtengarn.proofs.fichtengarn_mine.Goals as goal

pub returns : goal.returns
returns c =
    let a = c.args in
    let h = handed-on (made-told mined_of mined_numbers count_values mined-told _ (mine_answer 2 a.file.now a.cuts.now a.weights (length a.scratch.now) (length a.out.now)) c.mine.ensures.0) a.counts.now _ _ c.store.ensures in
    (h.0, h.1, c.mine.ensures.1, c.mine.ensures.2)
