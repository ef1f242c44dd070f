-- What the second pass over a role file collects.
-- Assumes nothing.
use Rattle.std.specs.Prelude.{ℕ, ltb, cond, List, ◌≡◌}
use Rattle.files.specs.Answer.{accepted}
use Rattle.files.specs.RoleFile.{read_commands}
use Rattle.policy.specs.Policy.{Policy}
use Rattle.role_commands.specs.declared.Command.{Command}
use Rattle.role_commands.specs.declared.Command.TheVariants.{Sizes, Declare, Give, Assign, Permit, Line, End}
use Rattle.role_record.specs.Record.{line_table}
use Rattle.role_store.specs.Storing.{added}

-- the number of roles after a command, and the table of lines
abbrev pub roles_after : Command → ℕ → ℕ
roles_after (Sizes u r o k) n = k
roles_after (Declare side kind domain) n = n
roles_after (Give s side a x v) n = n
roles_after (Assign k u) n = n
roles_after (Permit k r o) n = n
roles_after (Line j s) n = n
roles_after End n = n

abbrev pub lines_after : Command → List ℕ → List ℕ
lines_after (Sizes u r o k) t = t
lines_after (Declare side kind domain) t = t
lines_after (Give s side a x v) t = t
lines_after (Assign k u) t = t
lines_after (Permit k r o) t = t
lines_after (Line j s) t = cond (ltb j 32) (added t j s) t
lines_after End t = t

-- of a file whose commands are all obeyed: its roles, and the roles that are each one's seniors by a line 07
abbrev pub Collected : List ℕ → ℕ → List ℕ → Type 0
Collected file roles lines = (F : Policy) → read_commands 2 file ≡ accepted F → (roles ≡ F.roles) × (lines ≡ line_table F)
