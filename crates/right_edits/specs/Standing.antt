-- A record and the table of rights that stands beside it: what filling and edits come to, for any record and any table.
-- 02, request 8.
-- Assumes nothing.
use Rattle.std.specs.Prelude.{ℕ, length, get_or, Bool, cond, List, [], ◌∷◌}
use Rattle.files.specs.Answer.{Answer, left_by, accepted}
use Rattle.files.specs.Edits.{Edit, may_fill, may_edit}
use Rattle.right_record.specs.Reassigned.{record_as}
use Rattle.right_words.specs.Rights.{rights_table, refreshed}
use Rattle.role_record.specs.Record.{sizes_of}
use Rattle.role_record.specs.declared.RoleFile.{RoleFile}
use Rattle.role_seniority.specs.Closure.{held_table}
use Rattle.sets.specs.Sets.{bit}
use Rattle.sets.specs.Tests.{iff}

-- "Keep beside the loaded record a lent table"
pub record Standing : Type 0 where
  pub file : RoleFile
  pub table : List ℕ

abbrev pub standing : RoleFile → List ℕ → Standing
standing f t = record { file = f; table = t }

-- "Its holders are the users assigned to it or to a senior", worked out from the record's assignments and seniors,
-- whatever holders it names
abbrev pub holders_of : RoleFile → List ℕ
holders_of f = held_table f.assigned f.seniors f.roles

-- "One call fills it from the record."
unfoldable pub filled : RoleFile → List ℕ
filled f = rights_table (sizes_of f) (holders_of f) f.permissions

-- what filling a table of so many words comes to: 17, then 5, else the table
unfoldable pub fill_answer : RoleFile → ℕ → Answer (List ℕ)
fill_answer f words = may_fill words f.users f.resources f.operations f.roles (accepted (filled f))

-- the assignment is already as the edit wants it
unfoldable pub is_so : RoleFile → Edit → Bool
is_so f e = iff (bit (get_or f.assigned e.role 0) e.user) e.gives

-- "An edit that changes an assignment works out the 16 words of its user afresh, whatever they held, and writes no
-- others."
unfoldable pub changed : Standing → Edit → Standing
changed s e =
    let f = record_as s.file e in
    standing f (refreshed (sizes_of f) f.holders f.permissions e.user s.table)

-- "repeating one, or taking away what isn't there, changes nothing"
unfoldable pub edited : Standing → Edit → Standing
edited s e = cond (is_so s.file e) s (changed s e)

-- what an edit comes to: 17, then 5, else the record and the table after it
unfoldable pub standing_answer : Standing → Edit → Answer Standing
standing_answer s e =
    let f = s.file in
    may_edit (length s.table) f.users f.resources f.operations f.roles e (accepted (edited s e))

-- after every edit of a list: a refusal "leaves record and table untouched"
abbrev pub after_all : Standing → List Edit → Standing
after_all s [] = s
after_all s (e ∷ es) = after_all (left_by s (standing_answer s e)) es
