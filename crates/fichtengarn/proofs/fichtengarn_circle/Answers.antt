-- Assumes nothing.
use Rattle.std.proofs.Common.{ℕ, List, [], ◌∷◌, length, refl}
use Rattle.fichtengarn.specs.NumberLaws.{made-told, handed-on}
use Rattle.files.specs.Calls.{circle_answer}
use Rattle.role_circle.specs.CircledNumbers.{roles_listed}
use Rattle.fichtengarn.proofs.fichtengarn_circle.Goals as goal

pub returns : goal.returns
returns c =
    let a = c.args in
    let h = handed-on (made-told length (λ (n : ℕ). n ∷ []) roles_listed (λ l. refl) _ (circle_answer 2 a.file.now (length a.roles.now)) c.circle.ensures.0) a.count.now _ _ c.store.ensures in
    (h.0, h.1, c.circle.ensures.1, c.circle.ensures.2)
