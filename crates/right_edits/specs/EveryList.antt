-- What holds of every list of edits. 02, request 8.
-- Assumes nothing.
use Rattle.std.specs.Prelude.{ℕ, List, ◌≡◌}
use Rattle.files.specs.Answer.{code_of, accepted, map_answer}
use Rattle.files.specs.Edits.{Edit, edit_answer, summary, edited_by}
use Rattle.files.specs.RoleFile.{read_roles}
use Rattle.policy.specs.Policy.{Policy}
use Rattle.right_edits.specs.Standing.{Standing, fill_answer, standing_answer, after_all}
use Rattle.role_record.specs.Record.{record_of}
use Rattle.role_record.specs.declared.RoleFile.{RoleFile}

-- "a loaded file": a record is what reading hands back of a role file that says F
abbrev pub LoadedFrom : List ℕ → Policy → RoleFile → Type 0
LoadedFrom file F f = (read_roles 2 file ≡ accepted F) × (accepted f ≡ map_answer record_of (read_roles 2 file))

-- "After every list of such edits that starts from a loaded file and its filled table, refused edits among them": s is
-- the record and the table that the list starts from, and what it leaves of both is what the calls' own answers come to,
-- one after the other
pub record EveryList (F : Policy) (s : Standing) (es : List Edit) : Type 0 where
  -- "the table is the one worked out afresh from the assignments that the list leaves"
  pub afresh : (after_all s es).table ≡ summary (edited_by F es)
  -- and so it is the one that filling would make
  pub refilled : fill_answer (after_all s es).file 1024 ≡ accepted (after_all s es).table
  -- the record is that of these assignments
  pub recorded : (after_all s es).file ≡ record_of (edited_by F es)
  -- one more edit answers what it does beside these assignments
  pub answered : (e : Edit) → code_of (standing_answer (after_all s es) e) ≡ code_of (edit_answer (edited_by F es) 1024 e)
