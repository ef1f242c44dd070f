-- Values stored one after the other are those that go with an answer.
-- Assumes nothing.
use Rattle.std.specs.Prelude.{ℕ, zero, suc, ◌≤◌, length, drop, set, List, [], ◌∷◌, ◌++◌, ◌≡◌, refl}
use Rattle.std.proofs.Common.{length-set, ap, ◌∙◌, not-suc-le-zero, le_of_suc-le-suc}
use Rattle.answers.specs.Numbers.{returned, stored}

abbrev pub put_from : ℕ → List ℕ → List ℕ → List ℕ
put_from n [] former = former
put_from n (v ∷ vs) former = put_from (suc n) vs (set former n v)

pub put_long : (n : ℕ) (vs former : List ℕ) → length (put_from n vs former) ≡ length former
put_long n [] former = refl
put_long n (v ∷ vs) former = put_long (suc n) vs (set former n v) ∙ length-set former n v

put_behind : (n : ℕ) (vs : List ℕ) (x : ℕ) (former : List ℕ) → put_from (suc n) vs (x ∷ former) ≡ x ∷ put_from n vs former
put_behind n [] x former = refl
put_behind n (v ∷ vs) x former = put_behind (suc n) vs x (set former n v)

put_front : (vs former : List ℕ) → length vs ≤ length former → put_from zero vs former ≡ vs ++ drop (length vs) former
put_front [] former h = refl
put_front (v ∷ vs) [] h = absurd (not-suc-le-zero h)
put_front (v ∷ vs) (x ∷ former) h = put_behind zero vs v former ∙ ap (λ (r : List ℕ). v ∷ r) (put_front vs former (le_of_suc-le-suc h))

-- what is returned and put into lent memory is what goes with the numbers of the answer
pub handed : {ns ms : List ℕ} → ns ≡ ms → (former : List ℕ) → length (drop 1 ns) ≤ length former → (returned ns ≡ returned ms) × (put_from zero (drop 1 ns) former ≡ stored ms former)
handed {ns} e former h = (ap returned e, put_front (drop 1 ns) former h ∙ ap (λ (xs : List ℕ). stored xs former) e)
