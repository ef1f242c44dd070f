-- Assumes nothing.
use Rattle.std.proofs.Common.{[], ◌∷◌}
use Rattle.answers.specs.Numbers.{rules_told}
use Rattle.fichtengarn.specs.NumberLaws.{rules-counted, made-told, handed-on}
use Rattle.files.specs.Calls.{read_both}
use Rattle.rule_reading.specs.BothFiles.{both_of}
use Rattle.rule_reading.specs.declared.BothFiles.{BothFiles}
use Rattle.fichtengarn.proofs.fichtengarn_read_rules.Goals as goal

pub returns : goal.returns
returns c =
    let a = c.args in
    handed-on (made-told both_of (λ (b : BothFiles). b.rules ∷ []) rules_told rules-counted _ (read_both 2 a.file.now a.rules.now) c.read.ensures) a.count.now _ _ c.store.ensures
