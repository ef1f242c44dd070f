-- Assumes nothing.
use Rattle.fichtengarn.specs.NumberLaws.{loaded-so, refused-so}
use Rattle.files.specs.Cause.{cause}
use Rattle.files.specs.RoleFile.{read_roles}
use Rattle.fichtengarn.proofs.fichtengarn_read_record.Goals as goal

pub returns-in-Ok : goal.returns-in-Ok
returns-in-Ok c = loaded-so c.in-Ok.file (read_roles 2 c.args.file.now) c.in-Ok.ensures

pub returns-in-Err : goal.returns-in-Err
returns-in-Err c = refused-so (cause c.in-Err.refusal) (read_roles 2 c.args.file.now) c.in-Err.ensures _ _ c.number.ensures c.empty.ensures
