use mathlib.Core.Path.{ap}
use Rattle.files.specs.Answer.{map_answer}
use Rattle.role_record.specs.Record.{record_of}
use Rattle.role_file.specs.RoleStateLaws.{too_long_lem}
use Rattle.role_file.proofs.read.Goals as goal

pub returns-then-s-gt-BYTES : goal.returns-then-s-gt-BYTES
returns-then-s-gt-BYTES c = ap (map_answer record_of) (too_long_lem _ c.if-s-gt-BYTES.true)
