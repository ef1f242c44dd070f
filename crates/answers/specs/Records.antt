-- The records that are handed over to C behind a number.
-- Assumes nothing.
use Rattle.std.specs.Prelude.{ℕ}
use Rattle.answers.specs.declared.Loaded.{Loaded}
use Rattle.files.specs.Answer.{number_of, Answer, refused, accepted}
use Rattle.policy.specs.Policy.{Policy}
use Rattle.role_record.specs.Record.{empty_record, record_of}

-- a refusal returns only its number
unfoldable pub refusal : ℕ → Loaded
refusal n = record { code = n; file = empty_record }

-- what reading comes to, as it is handed over
unfoldable pub loaded_of : Answer Policy → Loaded
loaded_of (refused e) = refusal (number_of e)
loaded_of (accepted F) = record { code = 0; file = record_of F }
