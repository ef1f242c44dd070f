-- The shape of a loaded role file, and what the first command of a rule file comes to: the form in which code works it out.
-- Assumes nothing.
use Rattle.std.specs.Prelude.{ℕ, get_or, List, [], ◌∷◌}
use Rattle.files.specs.Answer.{Answer, map_answer}
use Rattle.files.specs.RuleFile.{opened}
use Rattle.role_record.specs.declared.Sizes.{Sizes}

-- the operands that a 20 has to have, from the record's sizes and its numbers of attributes
abbrev pub shape_in : Sizes → List ℕ → List ℕ
shape_in sizes attributes =
    sizes.users ∷ sizes.resources ∷ sizes.operations ∷ sizes.roles ∷ get_or attributes 0 0 ∷ get_or attributes 1 0 ∷ []

-- whether a rule file opens for a shape: what stands behind its first command is not handed on
abbrev pub opening_of : List ℕ → List ℕ → Answer (Unit {0})
opening_of shape rules = map_answer (λ rest. tt) (opened 2 shape rules)
