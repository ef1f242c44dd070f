-- Assumes nothing.
use Rattle.std.proofs.Common.{◌∙◌}
use Rattle.fichtengarn.specs.NumberLaws.{roles-code}
use Rattle.files.specs.Cause.{answer_of}
use Rattle.files.specs.RoleFile.{read_roles}
use Rattle.fichtengarn.proofs.fichtengarn_read_roles.Goals as goal

pub returns : goal.returns
returns c = c.code.ensures ∙ roles-code (answer_of c.read.result) (read_roles 2 c.args.file.now) c.read.ensures
