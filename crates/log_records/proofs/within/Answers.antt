-- Assumes nothing.
use mathlib.Core.Path.{◌∙◌}
use Rattle.log_records.specs.RecordLaws.{said}
use Rattle.role_record.specs.Record.{in_sizes}
use Rattle.log_records.proofs.within.Goals as goal

pub returns : goal.returns
returns c =
    let a = c.args in
    c.has.ensures ∙ said a.log.now a.i _ _ _ c.number-user.ensures c.number-resource.ensures c.number-operation.ensures (in_sizes a.sizes)
