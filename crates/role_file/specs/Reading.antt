-- The record at the end of reading: the form in which code works it out.
-- Assumes nothing.
use Rattle.std.specs.Prelude.{get_or, not}
use Rattle.files.specs.Answer.{Answer, unless, own_senior, accepted}
use Rattle.role_record.specs.Record.{set_derived}
use Rattle.role_seniority.specs.Closure.{closed, held_table}
use Rattle.sets.specs.Sets.{bit}
use Rattle.sets.specs.Tests.{any, up_to}
use Rattle.role_record.specs.declared.RoleFile.{RoleFile}

-- the end of reading: seniors and holders worked out, or refusal 7
unfoldable pub settled_of : RoleFile → Answer RoleFile
settled_of f =
    let above = closed f.lines f.roles in
    unless (not (any (λ k. bit (get_or above k 0) k) (up_to f.roles))) own_senior (accepted (set_derived f above (held_table f.assigned above f.roles)))
