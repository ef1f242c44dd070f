-- Of a list of values, those that lie strictly above no other; over any order that is reflexive and transitive.
-- Assumes nothing.
use Rattle.std.specs.Prelude.{ℕ, Bool, false, List, [], ◌∷◌, ◌⊎◌, ◌≡◌, refl}
use Rattle.std.proofs.lemmas.Bool.{not-true}
use Rattle.std.proofs.Math.Bool.{not}
use mathlib.Core.List.Memᴰ
use Rattle.std.proofs.Common.{inl, inr}
use Rattle.policy.specs.Thinning.{strictly, trim}
use Rattle.sets.specs.Tests.{Is, ◌is_in◌, any}
use Rattle.sets.specs.TestLaws.{and_l, and_r, never, test, fails, any_out, keep_in, keep_out}

module _ (le : ℕ → ℕ → Bool) where
  pub trim-out : (vs : List ℕ) {v : ℕ} → v is_in trim le vs → v is_in vs
  unfolding trim
  trim-out vs m = (keep_out (λ v. not (any (λ w. strictly le w v) vs)) vs m).0

  module _ (self : (x : ℕ) → Is (le x x)) (chain : (x y z : ℕ) → Is (le x y) → Is (le y z) → Is (le x z)) where
    not_strictly : (w m : ℕ) → Is (le m w) → strictly le w m ≡ false
    not_strictly w m h = fails (strictly le w m) λ p. never h (not-true (le m w) (and_r (le w m) _ p))

    -- below each value lies one that no member of the list lies strictly below
    record Bottom (s : List ℕ) (x : ℕ) : Type 0 where
      low : ℕ
      place : (low ≡ x) ⊎ (low is_in s)
      under : Is (le low x)
      least : (w : ℕ) → w is_in s → strictly le w low ≡ false

    bottom : (s : List ℕ) (x : ℕ) → Bottom s x
    bottom [] x = record { low = x; place = inl refl; under = self x; least = λ w m. absurd (Memᴰ.not-nil m) }
    bottom (w ∷ s) x = test (strictly le w (bottom s x).low) (lower (bottom s x) (bottom s w)) (stay (bottom s x))
      where
        up : {y : ℕ} → (y ≡ x) ⊎ (y is_in s) → (y ≡ x) ⊎ (y is_in (w ∷ s))
        up (inl e) = inl e
        up (inr m) = inr (Memᴰ.tail m)

        down : {y : ℕ} → (y ≡ w) ⊎ (y is_in s) → y is_in (w ∷ s)
        down (inl e) = Memᴰ.head e
        down (inr m) = Memᴰ.tail m

        grow : (y : ℕ) → strictly le w y ≡ false → ((k : ℕ) → k is_in s → strictly le k y ≡ false) → (k : ℕ) → k is_in (w ∷ s) → strictly le k y ≡ false
        grow y e f k (Memᴰ.head q) = rw q e
        grow y e f k (Memᴰ.tail m) = f k m

        stay : (b : Bottom s x) → strictly le w b.low ≡ false → Bottom (w ∷ s) x
        stay b e = record { low = b.low; place = up b.place; under = b.under; least = grow b.low e b.least }

        lower : (b : Bottom s x) (d : Bottom s w) → Is (strictly le w b.low) → Bottom (w ∷ s) x
        lower b d h = record {
          low = d.low;
          place = inr (down d.place);
          under = chain d.low w x d.under (chain w b.low x (and_l (le w b.low) _ h) b.under);
          least = grow d.low (not_strictly w d.low d.under) d.least;
        }

    pub trim_in : (vs : List ℕ) {v : ℕ} → v is_in vs → (m : ℕ) × (m is_in trim le vs) × Is (le m v)
    unfolding trim
    trim_in vs {v} k =
        let b = bottom vs v in
        (b.low, keep_in (λ v. not (any (λ w. strictly le w v) vs)) (place_in b.place) (passes b), b.under)
      where
        place_in : {y : ℕ} → (y ≡ v) ⊎ (y is_in vs) → y is_in vs
        place_in (inl e) = rw e k
        place_in (inr m) = m

        passes : (b : Bottom vs v) → Is (not (any (λ w. strictly le w b.low) vs))
        passes b =
            let e : any (λ w. strictly le w b.low) vs ≡ false = fails (any (λ w. strictly le w b.low) vs) λ p.
            let t = any_out (λ w. strictly le w b.low) vs p in never t.2 (b.least t.0 t.1) in
            rw e
