-- Reading digit by digit gives the number.
-- Assumes nothing.
use Rattle.std.specs.Prelude.{ℕ, ◌+◌, ◌-◌, ◌*◌, ◌≤◌, ◌<◌, min, leb, length, get_or, drop, Bool, true, false, ◌&&◌, ◌≡◌, Some, None}
use Rattle.std.proofs.Common.{leb-true, drop_of_length-le, drop-cons, add-one, arith}
use mathlib.Core.List.{List, [], ◌∷◌}
use Rattle.std.proofs.Math.Path.{refl}
use Rattle.digits.specs.Digits.{is_within, read_digits, number_in}

pub digit-least : (c : ℕ) → is_within c 48 57 ≡ true → 48 ≤ c
digit-least c h = go (leb 48 c) refl h
  where
    go : (b : Bool) → leb 48 c ≡ b → b && leb c 57 ≡ true → 48 ≤ c
    go true e k = leb-true 48 c e
    go false e k = let z : ◌≡◌ {A = ℕ} 0 1 = cc in absurd (omega arith)

module _ (last : ℕ) where
  pub nothing-given : (s : List ℕ) → length s ≡ 0 → None ≡ number_in last s
  unfolding number_in
  nothing-given [] h = refl
  nothing-given (c ∷ s) h = absurd (omega arith)

  pub reading_begins : (s : List ℕ) → (length s ≡ 0 → ⊥) → read_digits last 0 s ≡ number_in last s
  unfolding number_in
  reading_begins [] h = absurd (h refl)
  reading_begins (c ∷ s) h = refl

  module _ (s : List ℕ) (n at : ℕ) where
    pub digit-read : at < length s → is_within (get_or s at 0) 48 57 ≡ true → read_digits last n (drop at s) ≡ read_digits last (min (10 * n + (get_or s at 0 - 48)) (last + 1)) (drop (at + 1) s)
    digit-read h d = rw (add-one at, drop-cons s at 0, d)

    pub other-read : at < length s → is_within (get_or s at 0) 48 57 ≡ false → read_digits last n (drop at s) ≡ None
    other-read h d = rw (drop-cons s at 0, d)

  pub reading-ends : (s : List ℕ) (n at : ℕ) → length s ≤ at → read_digits last n (drop at s) ≡ Some n
  reading-ends s n at h = rw (drop_of_length-le s h)
