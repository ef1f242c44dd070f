-- What the calls of the standing summary answer, from numbers alone.
-- Assumes nothing.
use Rattle.std.specs.Prelude.{ℕ, true}
use Rattle.files.specs.Answer.{code_of, accepted}
use Rattle.files.specs.Edits.{may_fill, may_edit}
use Rattle.role_record.specs.declared.Sizes.{Sizes}

-- of a table of so many words beside a record of these sizes, whatever it is filled with
unfoldable pub fill_code : Sizes → ℕ → ℕ
fill_code n words = code_of (may_fill words n.users n.resources n.operations n.roles (accepted n))

-- and of the numbers of an edit, whichever edit it is
unfoldable pub edit_code : Sizes → ℕ → ℕ → ℕ → ℕ
edit_code n words role user =
    code_of
    (may_edit words n.users n.resources n.operations n.roles
    (record { gives = true; role = role; user = user }) (accepted n))
