-- Assumes nothing.
use Rattle.fichtengarn.specs.NumberLaws.{made-told, handed-on}
use Rattle.files.specs.Denials.{denial_answer}
use Rattle.files.specs.Windows.{worst_values}
use Rattle.log_windows.specs.Counting.{worst_of, worst_numbers}
use Rattle.log_windows.specs.CountingLaws.{worst_told}
use Rattle.fichtengarn.proofs.fichtengarn_denials.Goals as goal

pub returns : goal.returns
returns c =
    let a = c.args in
    handed-on (made-told worst_of worst_numbers worst_values worst_told _ (denial_answer 2 a.file.now a.rules.now a.log.now a.window) c.denials.ensures) a.denials.now _ _ c.store.ensures
