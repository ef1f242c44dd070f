-- One pass over a list of conditions, each struck where the test still passes without it. Over any type of conditions.
-- Assumes nothing.
use Rattle.std.specs.Prelude.{ℕ, zero, suc, ◌<◌, length, Bool, true, false, cond, List, [], ◌∷◌, ◌++◌, ◌⊎◌, ◌≡◌, refl}
use mathlib.Core.List.Memᴰ
use Rattle.std.proofs.Common.{append_assoc, inl, inr, arith}
use Rattle.policy.specs.Thinning.{strike}
use Rattle.sets.specs.Tests.{Is, ◌is_in◌, without}
use Rattle.sets.specs.TestLaws.{never, fails}

-- all members of one list stand in the other
abbrev pub ◌⊑◌ {ℓ} : {A : Type ℓ} → List A → List A → Type ℓ
◌⊑◌ {A = A} s t = (c : A) → c is_in s → c is_in t

infix 50 ◌⊑◌
pub sub_append {ℓ} : {A : Type ℓ} (p : List A) {s t : List A} → s ⊑ t → p ++ s ⊑ p ++ t
sub_append p {s} {t} h c m = go (Memᴰ.append_cases p m)
  where
    go : (c is_in p) ⊎ (c is_in s) → c is_in p ++ t
    go (inl k) = Memᴰ.append_left t k
    go (inr k) = Memᴰ.append_right p (h c k)

module _ {C : Type 0} (ok : List C → Bool) where
  pub strike-within : (pre t : List C) → strike ok pre t ⊑ t
  strike-within pre [] c m = m
  strike-within pre (c ∷ t) k m = go (ok (pre ++ t)) (strike-within pre t) (strike-within (pre ++ (c ∷ [])) t) m
    where
      go : (b : Bool) → strike ok pre t ⊑ t → strike ok (pre ++ (c ∷ [])) t ⊑ t → k is_in cond b (strike ok pre t) (c ∷ (strike ok) (pre ++ (c ∷ [])) t) → k is_in (c ∷ t)
      go true f g m = Memᴰ.tail (f k m)
      go false f g (Memᴰ.head e) = Memᴰ.head e
      go false f g (Memᴰ.tail n) = Memᴰ.tail (g k n)

  -- what is left passes
  pub strike-passes : (pre t : List C) → Is (ok (pre ++ t)) → Is (ok (pre ++ strike ok pre t))
  strike-passes pre [] h = h
  strike-passes pre (c ∷ t) h = go (ok (pre ++ t)) refl (strike-passes pre t) (strike-passes (pre ++ (c ∷ [])) t)
    where
      go : (b : Bool) → ok (pre ++ t) ≡ b → (Is (ok (pre ++ t)) → Is (ok (pre ++ strike ok pre t)))
          → (Is (ok (pre ++ (c ∷ []) ++ t)) → Is (ok (pre ++ (c ∷ []) ++ strike ok (pre ++ (c ∷ [])) t)))
          → Is (ok (pre ++ cond b (strike ok pre t) (c ∷ (strike ok) (pre ++ (c ∷ [])) t)))
      go true e f g = f e
      go false e f g = rw append_assoc at (g (rw append_assoc h))

  -- if a list passes, and a shorter one of its lists passes, then so does what lies between
  module _ (between : (s t v : List C) → s ⊑ t → t ⊑ v → Is (ok s) → Is (ok v) → Is (ok t)) where
    -- and nothing more can be struck
    pub strike_final : (pre t : List C) → Is (ok (pre ++ t)) → (i : ℕ) → i < length (strike ok pre t) → ok (pre ++ without i (strike ok pre t)) ≡ false
    strike_final pre [] h i l = absurd (omega arith)
    strike_final pre (c ∷ t) h i l = go (ok (pre ++ t)) refl (strike_final pre t) (strike_final (pre ++ (c ∷ [])) t) i l
      where
        after : pre ++ strike ok (pre ++ (c ∷ [])) t ⊑ pre ++ t
        after = sub_append pre (strike-within (pre ++ (c ∷ [])) t)

        more : pre ++ t ⊑ pre ++ (c ∷ t)
        more = sub_append pre (λ k m. Memᴰ.tail m)

        go : (b : Bool) → ok (pre ++ t) ≡ b
            → (Is (ok (pre ++ t)) → (i : ℕ) → i < length (strike ok pre t) → ok (pre ++ without i (strike ok pre t)) ≡ false)
            → (Is (ok (pre ++ (c ∷ []) ++ t)) → (i : ℕ) → i < length (strike ok (pre ++ (c ∷ [])) t) → ok (pre ++ (c ∷ []) ++ without i (strike ok (pre ++ (c ∷ [])) t)) ≡ false)
            → (i : ℕ) → i < length (cond b (strike ok pre t) (c ∷ (strike ok) (pre ++ (c ∷ [])) t))
            → ok (pre ++ without i (cond b (strike ok pre t) (c ∷ (strike ok) (pre ++ (c ∷ [])) t))) ≡ false
        go true e f g i l = f e i l
        go false e f g zero l = fails _ (λ p. never (between _ _ _ after more p h) e)
        go false e f g (suc i) l = rw append_assoc at (g (rw append_assoc h) i (omega arith))
