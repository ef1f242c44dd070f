-- The weight of the record that is read, or the number of the refusal. Assumes nothing.
use Rattle.std.proofs.Common.{ap, ◌∙◌}
use Rattle.files.specs.Answer.{Answer}
use Rattle.role_record.specs.declared.RoleFile.{RoleFile}
use Rattle.bench_read.specs.ReadChecksum.{sample_of}
use Rattle.bench_read.proofs.sample.Goals as goal

pub returns-in-Ok : goal.returns-in-Ok
returns-in-Ok c = c.weight.ensures ∙ ap (λ (read : Answer RoleFile). sample_of read c.args.turn) c.in-Ok.ensures

pub returns-in-Err : goal.returns-in-Err
returns-in-Err c = c.number.ensures ∙ ap (λ (read : Answer RoleFile). sample_of read c.args.turn) c.in-Err.ensures
