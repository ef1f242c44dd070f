-- A record with one assignment given or taken away. 02, request 8.
-- Assumes nothing.
use Rattle.std.specs.Prelude.{ℕ, eqb, get_or, Bool, cond, ◌&&◌, List}
use Rattle.files.specs.Edits.{Edit}
use Rattle.role_record.specs.Record.{table_of, set_assigned, set_derived}
use Rattle.role_record.specs.declared.RoleFile.{RoleFile}
use Rattle.role_seniority.specs.Closure.{held_table}
use Rattle.sets.specs.Sets.{bit, mask_of}

-- an edit as the code is handed it
abbrev pub an_edit : Bool → ℕ → ℕ → Edit
an_edit gives role user = record { gives = gives; role = role; user = user }

-- the assignments with one of them as an edit wants it
unfoldable pub assigned_as : List ℕ → Edit → List ℕ
assigned_as assigned e =
    table_of 32 (λ k. mask_of 64 (λ u. cond (eqb k e.role && eqb u e.user) e.gives (bit (get_or assigned k 0) u)))

-- the record with these, and with the holders worked out from them
unfoldable pub record_as : RoleFile → Edit → RoleFile
record_as f e = let assigned = assigned_as f.assigned e in set_derived (set_assigned f assigned) f.seniors (held_table assigned f.seniors f.roles)
