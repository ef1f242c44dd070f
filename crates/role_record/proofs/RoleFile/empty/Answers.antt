use mathlib.Core.Path.{refl}
use Rattle.role_record.specs.Record.{empty_record}
use Rattle.role_record.proofs.RoleFile.empty.Goals as goal

pub returns : goal.returns
unfolding empty_record
returns c = refl
