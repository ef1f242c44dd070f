-- The laws of a loop over the members of a set, least first: each turn takes the least out.
-- Assumes nothing.
use Rattle.std.specs.Prelude.{ℕ, zero, suc, ◌/◌, ◌%◌, ◌^◌, ◌-◌, ◌<◌, eqb, ltb, Bool, true, false, ◌&&◌, ◌||◌, ◌≡◌, refl}
use borrow.Author.Tests.{eqb-true, eqb-false, eq-eqb, ne_eqb, ltb-false}
use Rattle.std.specs.Int.Bits.{bit_and, and_le_r, and_lt}
use Rattle.std.specs.Int.Count.{count_trailing_zeros, under}
use Rattle.std.proofs.Math.Dec.{eqb-suc-zero, eqb-suc-suc}
use Rattle.std.proofs.Math.Bool.{not, and-false, and_self, and-true, or-false}
use Rattle.std.proofs.Common.{⊎_elim, ap₂, ◌∙◌, pow-suc, arith}
use Rattle.std.proofs.Math.Path.{sym, ap}
use Rattle.sets.specs.LoopLaws.{all_found}
use Rattle.sets.specs.Sets.{less_one, joining, bit, subset, mask_of}
use Rattle.sets.specs.Lowest.{lowest_from}
use Rattle.sets.specs.LowestLaws.{lowest_from-some}
use Rattle.sets.specs.MaskLaws.{bit-out, bit-mask_of, mask_unique, mask_same, least_law, least-most, empty_law}
use Rattle.sets.specs.SetLaws.{bit_zero, bit_suc, bit-and, bit-none, subset_in, bit_mask}
use Rattle.sets.specs.Tests.{Is, imp, all, any, up_to}
use Rattle.sets.specs.TestLaws.{and_in, and_l, and_r, or_l, or_r, or_out, never, test, fails, same, imp_in, imp-out, all-out, all_in, any_in, any_out, up_to_in, up_to-out, not_in}

-- ---- `m & (m - 1)`

clear_bits : (n m k : ℕ) → m < 2 ^ n → 0 < m → bit (bit_and m (m - 1)) k ≡ (bit m k && not (eqb k (count_trailing_zeros n m)))
unfolding count_trailing_zeros
clear_bits zero m k h p = absurd (omega arith)
clear_bits (suc n) m k h p = bit-and k m (m - 1) ∙ go (m % 2) k refl (λ q j. clear_bits n (m / 2) j (omega (arith, pow-suc 2 n)) q)
  where
    go : (d k : ℕ) → m % 2 ≡ d → (0 < m / 2 → (j : ℕ) → bit (bit_and (m / 2) (m / 2 - 1)) j ≡ (bit (m / 2) j && not (eqb j (count_trailing_zeros n (m / 2)))))
        → (bit m k && bit (m - 1) k) ≡ (bit m k && not (eqb k (under d (count_trailing_zeros n (m / 2)))))
    go zero zero e r = let z = bit_zero m ∙ ne_eqb (m % 2) 1 (omega arith) in rw z refl
    go zero (suc k) e r =
        let d : (m - 1) / 2 ≡ m / 2 - 1 = omega arith in
        ap₂ ◌&&◌ (bit_suc m k) (bit_suc (m - 1) k ∙ ap (λ (x : ℕ). bit x k) d)
        ∙ sym (bit-and k (m / 2) (m / 2 - 1)) ∙ r (omega arith) k
        ∙ sym (ap₂ (λ (a b : Bool). a && not b) (bit_suc m k) (eqb-suc-suc k (count_trailing_zeros n (m / 2))))
    go (suc zero) zero e r = ap (λ (b : Bool). bit m 0 && b) (bit_zero (m - 1) ∙ ne_eqb ((m - 1) % 2) 1 (omega arith))
    go (suc zero) (suc k) e r =
        let d : (m - 1) / 2 ≡ m / 2 = omega arith in
        ap (λ (b : Bool). bit m (suc k) && b) (bit_suc (m - 1) k ∙ ap (λ (x : ℕ). bit x k) d ∙ sym (bit_suc m k)) ∙ and_self (bit m (suc k))
        ∙ sym (ap (λ (b : Bool). bit m (suc k) && not b) (eqb-suc-zero k) ∙ and-true (bit m (suc k)))
    go (suc (suc d)) k e r = absurd (omega arith)

-- it takes out the least
pub clear_least : (m : ℕ) → m < 2 ^ 64 → 0 < m → bit_and m (m - 1) ≡ less_one m (lowest_from (bit m) 0 64)
unfolding less_one
clear_least m h p =
    mask_unique 64 (bit_and m (m - 1)) (λ k. bit m k && not (eqb k (lowest_from (bit m) 0 64))) (and_lt 64 m (m - 1) h (omega arith))
    (λ k l. clear_bits 64 m k h p ∙ ap (λ (y : ℕ). bit m k && not (eqb k y)) (least_law m))

-- ---- turns

module _ (m : ℕ) (h : m < 2 ^ 64) where
  -- a set that is not empty has its least
  pub least_in : (y : ℕ) → y ≡ lowest_from (bit m) 0 64 → 0 < m → (y < 64) × Is (bit m y)
  least_in y q z = test (any (bit m) (up_to 64))
      (λ e. let t = any_out (bit m) (up_to 64) e in
      let l = up_to-out 64 t.1 in
      let k = least-most (bit m) 64 t.0 t.2 in
      (omega arith, ap (bit m) q ∙ lowest_from-some (bit m) 0 64 t.0 (omega arith) (omega arith) t.2))
      (λ e. let d = eqb-true m 0 (empty_law 64 m h ∙ not_in (any (bit m) (up_to 64)) e) in absurd (omega arith))

  -- the members but one
  pub bit-less : (y k : ℕ) → bit (less_one m y) k ≡ (bit m k && not (eqb k y))
  unfolding less_one
  bit-less y k = bit-mask_of 64 (λ k. bit m k && not (eqb k y)) k ∙ test (ltb k 64)
      (λ e. ap (λ (b : Bool). b && (bit m k && not (eqb k y))) e)
      (λ e. ap (λ (b : Bool). b && (bit m k && not (eqb k y))) e ∙ sym (ap (λ (b : Bool). b && not (eqb k y)) (bit-out 64 m k h (ltb-false k 64 e))))

  -- taking a member out makes a set less
  pub less-less : (y : ℕ) → Is (bit m y) → less_one m y < m
  unfolding subset
  less-less y b =
      let s = eqb-true (bit_and (less_one m y) m) (less_one m y) (subset_in (less_one m y) m (λ k p. and_l (bit m k) (not (eqb k y)) (sym (bit-less y k) ∙ p))) in
      let l = and_le_r (less_one m y) m in
      test (eqb (less_one m y) m)
      (λ e. never b (ap (λ (x : ℕ). bit x y) (sym (eqb-true (less_one m y) m e)) ∙ bit-less y y ∙ ap (λ (c : Bool). bit m y && not c) (eq-eqb y y refl) ∙ and-false (bit m y)))
      (λ e. let d = eqb-false (less_one m y) m e in omega arith)

  -- a turn of a loop that joins a set for each member, `a = union(a, g)`
  pub join-turn : (g : ℕ → ℕ) (y a a' : ℕ) → y < 64 → Is (bit m y) → a' ≡ mask_of 64 (λ k. bit a k || bit (g y) k)
      → mask_of 64 (joining a' (bit (less_one m y)) g 64) ≡ mask_of 64 (joining a (bit m) g 64)
  join-turn g y a a' l b q = mask_same 64 (joining a' (bit (less_one m y)) g 64) (joining a (bit m) g 64) λ u lu. same (joining a' (bit (less_one m y)) g 64 u) (joining a (bit m) g 64 u) (there u lu) (back u lu)
    where
      added : (u : ℕ) → u < 64 → bit a' u ≡ (bit a u || bit (g y) u)
      added u lu = ap (λ (x : ℕ). bit x u) q ∙ bit_mask 64 (λ k. bit a k || bit (g y) k) u lu

      there : (u : ℕ) → u < 64 → Is (joining a' (bit (less_one m y)) g 64 u) → Is (joining a (bit m) g 64 u)
      there u lu p = ⊎_elim
          (λ k. ⊎_elim (λ i. or_l (any (λ j. bit m j && bit (g j) u) (up_to 64)) i) (λ i. or_r (bit a u) (any_in (λ j. bit m j && bit (g j) u) (up_to_in l) (and_in b i))) (or_out (bit a u) (bit (g y) u) (sym (added u lu) ∙ k)))
          (λ k. let t = any_out (λ j. bit (less_one m y) j && bit (g j) u) (up_to 64) k in
          or_r (bit a u) (any_in (λ j. bit m j && bit (g j) u) t.1 (and_in (and_l (bit m t.0) _ (sym (bit-less y t.0) ∙ and_l (bit (less_one m y) t.0) _ t.2)) (and_r (bit (less_one m y) t.0) _ t.2))))
          (or_out (bit a' u) (any (λ j. bit (less_one m y) j && bit (g j) u) (up_to 64)) p)

      back : (u : ℕ) → u < 64 → Is (joining a (bit m) g 64 u) → Is (joining a' (bit (less_one m y)) g 64 u)
      back u lu p = ⊎_elim
          (λ k. or_l (any (λ j. bit (less_one m y) j && bit (g j) u) (up_to 64)) (added u lu ∙ or_l (bit (g y) u) k))
          (λ k. let t = any_out (λ j. bit m j && bit (g j) u) (up_to 64) k in
          let i = and_r (bit m t.0) (bit (g t.0) u) t.2 in
          test (eqb t.0 y)
          (λ e. or_l (any (λ j. bit (less_one m y) j && bit (g j) u) (up_to 64)) (added u lu ∙ or_r (bit a u) (ap (λ (x : ℕ). bit (g x) u) (sym (eqb-true t.0 y e)) ∙ i)))
          (λ e. or_r (bit a' u) (any_in (λ j. bit (less_one m y) j && bit (g j) u) t.1 (and_in (bit-less y t.0 ∙ and_in (and_l (bit m t.0) _ t.2) (not_in (eqb t.0 y) e)) i))))
          (or_out (bit a u) (any (λ j. bit m j && bit (g j) u) (up_to 64)) p)

  -- a turn of a loop that tests each member, past one that passes
  pub all-turn : (f : ℕ → Bool) (y : ℕ) → Is (f y) → all (λ u. imp (bit (less_one m y) u) (f u)) (up_to 64) ≡ all (λ u. imp (bit m u) (f u)) (up_to 64)
  all-turn f y p =
      same (all (λ u. imp (bit (less_one m y) u) (f u)) (up_to 64)) (all (λ u. imp (bit m u) (f u)) (up_to 64))
      (λ q. all_in (λ u. imp (bit m u) (f u)) (up_to 64) λ u i. imp_in (bit m u) (f u) λ b. test (eqb u y)
      (λ e. ap f (eqb-true u y e) ∙ p)
      (λ e. imp-out (f u) (all-out (λ u. imp (bit (less_one m y) u) (f u)) q i) (bit-less y u ∙ and_in b (not_in (eqb u y) e))))
      (λ q. all_in (λ u. imp (bit (less_one m y) u) (f u)) (up_to 64) λ u i. imp_in (bit (less_one m y) u) (f u) λ b.
      imp-out (f u) (all-out (λ u. imp (bit m u) (f u)) q i) (and_l (bit m u) _ (sym (bit-less y u) ∙ b)))

  -- and at one that fails
  pub all_left : (f : ℕ → Bool) (y : ℕ) → y < 64 → Is (bit m y) → f y ≡ false → all (λ u. imp (bit m u) (f u)) (up_to 64) ≡ false
  all_left f y l b e = all_found (λ u. imp (bit m u) (f u)) y 64 l (ap₂ imp b e)

-- the joining loop begins with the empty set
pub join-begin : (m : ℕ) (g : ℕ → ℕ) → mask_of 64 (joining 0 (bit m) g 64) ≡ mask_of 64 (λ x. any (λ y. bit m y && bit (g y) x) (up_to 64))
join-begin m g =
    mask_same 64 (joining 0 (bit m) g 64) (λ x. any (λ y. bit m y && bit (g y) x) (up_to 64))
    (λ x l. ap (λ (b : Bool). b || any (λ y. bit m y && bit (g y) x) (up_to 64)) (bit-none x))

-- with no member left the loops have done
pub join-done : (g : ℕ → ℕ) (m a : ℕ) → a < 2 ^ 64 → m ≡ 0 → mask_of 64 (joining a (bit m) g 64) ≡ a
join-done g m a h e = sym (mask_unique 64 a (joining a (bit m) g 64) h λ u l.
    sym (ap (λ (b : Bool). bit a u || b) (fails (any (λ j. bit m j && bit (g j) u) (up_to 64)) (λ p. let t = any_out (λ j. bit m j && bit (g j) u) (up_to 64) p in
    never (and_l (bit m t.0) _ t.2) (ap (λ (x : ℕ). bit x t.0) e ∙ bit-none t.0))) ∙ or-false (bit a u)))

pub all_done : (f : ℕ → Bool) (m : ℕ) → m ≡ 0 → all (λ u. imp (bit m u) (f u)) (up_to 64) ≡ true
all_done f m e = all_in (λ u. imp (bit m u) (f u)) (up_to 64) λ u i. imp_in (bit m u) (f u) λ b. never b (ap (λ (x : ℕ). bit x u) e ∙ bit-none u)
