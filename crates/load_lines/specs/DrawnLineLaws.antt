-- A line that is written where a draw says so.
-- Assumes nothing.
use Rattle.std.specs.Prelude.{ℕ, eqb, Bool, List, ◌≡◌, refl}
use Rattle.std.proofs.Common.{eq-eqb, ne_eqb, sym, subst, add-zero}
use Rattle.files.specs.Load.{line_if}
use Rattle.load_bytes.specs.Putting.{Put}

-- the draw says so, and the line is put
pub put_drawn : (n : ℕ) (l out out' : List ℕ) (at r : ℕ) → n ≡ 0 → Put l out at out' r → Put (line_if (eqb n 0) l) out at out' r
put_drawn n l out out' at r h p = subst (λ (b : Bool). Put (line_if b l) out at out' r) (sym (eq-eqb n 0 h)) p

-- it does not, and nothing is
pub put_not_drawn : (n : ℕ) (l out : List ℕ) (at : ℕ) → (n ≡ 0 → ⊥) → Put (line_if (eqb n 0) l) out at out at
put_not_drawn n l out at h = subst (λ (b : Bool). Put (line_if b l) out at out at) (sym (ne_eqb n 0 h)) (refl, sym (add-zero at))
