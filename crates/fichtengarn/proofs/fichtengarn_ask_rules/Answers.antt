-- Assumes nothing.
use Rattle.std.proofs.Common.{ap}
use Rattle.fichtengarn.specs.NumberLaws.{handed-on}
use Rattle.files.specs.Answer.{told}
use Rattle.files.specs.Calls.{yes_no}
use Rattle.fichtengarn.proofs.fichtengarn_ask_rules.Goals as goal

pub returns : goal.returns
returns c = handed-on (ap (told yes_no) c.ask.ensures) c.args.answer.now _ _ c.store.ensures
