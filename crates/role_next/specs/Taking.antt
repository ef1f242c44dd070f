-- The command that comes next, if it may stand there.
-- Assumes nothing.
use Rattle.std.specs.Prelude.{ℕ, List, Result, Ok, Err}
use Rattle.std.specs.Result.{result_and}
use Rattle.files.specs.declared.refusal.Refusal.{Refusal}
use Rattle.role_record.specs.declared.RoleFile.{RoleFile}
use Rattle.role_commands.specs.declared.Command.{Command}
use Rattle.role_commands.specs.Decode.{decoded_of}
use Rattle.role_admit.specs.declared.phase.Phase.{Phase}
use Rattle.role_admit.specs.Admit.{admit_of}

-- a command that was decoded, where it is admitted
abbrev pub if_admitted : Phase → RoleFile → Result (Command × ℕ) Refusal → Result (Command × ℕ) Refusal
if_admitted p f (Ok t) = result_and (admit_of t.0 p f) (Ok t)
if_admitted p f (Err e) = Err e

-- the first command of the bytes with its width, where it is admitted
unfoldable pub next_of : List ℕ → Phase → RoleFile → Result (Command × ℕ) Refusal
next_of bytes p f = if_admitted p f (decoded_of bytes)
