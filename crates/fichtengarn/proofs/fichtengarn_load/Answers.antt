-- Assumes nothing.
use Rattle.std.proofs.Common.{ap}
use Rattle.fichtengarn.specs.NumberLaws.{handed-on}
use Rattle.files.specs.Answer.{told}
use Rattle.load_file.specs.GeneratedNumbers.{bytes_written}
use Rattle.fichtengarn.proofs.fichtengarn_load.Goals as goal

pub returns : goal.returns
returns c =
    let h = handed-on (ap (told bytes_written) c.generate.ensures.0) c.args.count.now _ _ c.store.ensures in
    (h.0, h.1, c.generate.ensures.1, c.generate.ensures.2)
