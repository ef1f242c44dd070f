-- The laws of Sets.
-- Assumes nothing.
use Rattle.std.specs.Prelude.{ℕ, zero, suc, ◌+◌, ◌*◌, ◌/◌, ◌%◌, ◌^◌, ◌<◌, min, eqb, Bool, true, false, cond, ◌&&◌, ◌≡◌, refl}
use Rattle.std.proofs.Common.{eqb-true, eq-eqb, ne_eqb, pow-add, sym, ap, ap₂, ◌∙◌, pow-suc, mod-lt, div-one, mul_assoc, mul-div_cancel, arith}
use Rattle.std.proofs.lemmas.Bool.{eqb-false, false≢true}
use Rattle.std.proofs.Math.Arith.{bin_ind}
use Rattle.std.specs.Int.Bits.{bit_and, and_step}
use Rattle.std.proofs.Math.Dec.{eqb-suc-zero, eqb-zero-suc, eqb-suc-suc}
use Rattle.std.proofs.lemmas.Nat.{shl-shr}
use Rattle.std.proofs.Math.Nat.{div-div-eq-div-mul, pow-succ', mul-mod_left}
use Rattle.sets.specs.Tests.{Is}
use Rattle.sets.specs.TestLaws.{and_in, and_l, and_r, test, same}
use Rattle.sets.specs.Sets.{bit, subset, mask_of}

pub bit_zero : (a : ℕ) → bit a 0 ≡ eqb (a % 2) 1
unfolding bit
bit_zero a = ap (λ (x : ℕ). eqb (x % 2) 1) (div-one a)

pub bit_suc : (a n : ℕ) → bit a (suc n) ≡ bit (a / 2) n
unfolding bit
bit_suc a n = ap (λ (x : ℕ). eqb (x % 2) 1) (ap (λ (k : ℕ). a / k) (pow-succ' 2 n) ∙ sym (div-div-eq-div-mul a 2 (2 ^ n)))

-- a digit is 0 or 1
pub digit {ℓ} : {X : Type ℓ} (a : ℕ) → (a % 2 ≡ 0 → X) → (a % 2 ≡ 1 → X) → X
digit a f g = let h = mod-lt a {m = 2} (omega arith) in test (eqb (a % 2) 0) (λ e. f (eqb-true (a % 2) 0 e)) (λ e. let d = eqb-false (a % 2) 0 e in g (omega arith))

-- the two sets' bits, one by one
digit_and : (a b : ℕ) → eqb (min (a % 2) (b % 2)) 1 ≡ (eqb (a % 2) 1 && eqb (b % 2) 1)
digit_and a b =
    digit a
    (λ p. digit b (λ q. rw (p, q)) (λ q. rw (p, q)))
    (λ p. digit b (λ q. rw (p, q)) (λ q. rw (p, q)))

and_half : (a b : ℕ) → bit_and a b / 2 ≡ bit_and (a / 2) (b / 2)
and_half a b = let e = and_step a b in digit a (λ p. omega arith) (λ p. digit b (λ q. omega arith) (λ q. omega arith))

and_odd : (a b : ℕ) → bit_and a b % 2 ≡ min (a % 2) (b % 2)
and_odd a b = let e = and_step a b in digit a (λ p. omega arith) (λ p. digit b (λ q. omega arith) (λ q. omega arith))

pub bit-and : (n a b : ℕ) → bit (bit_and a b) n ≡ (bit a n && bit b n)
bit-and zero a b = bit_zero (bit_and a b) ∙ ap (λ (x : ℕ). eqb x 1) (and_odd a b) ∙ digit_and a b ∙ sym (ap₂ ◌&&◌ (bit_zero a) (bit_zero b))
bit-and (suc n) a b = bit_suc (bit_and a b) n ∙ ap (λ (x : ℕ). bit x n) (and_half a b) ∙ bit-and n (a / 2) (b / 2) ∙ sym (ap₂ ◌&&◌ (bit_suc a n) (bit_suc b n))

-- two sets with the same members are one
digit_eq : (a b : ℕ) → eqb (a % 2) 1 ≡ eqb (b % 2) 1 → a % 2 ≡ b % 2
digit_eq a b e = digit a
    (λ p. digit b (λ q. omega arith) (λ q. absurd (false≢true (rw (p, q) at e))))
    (λ p. digit b (λ q. absurd (false≢true (sym (rw (p, q) at e)))) (λ q. omega arith))

pub bit-none : (n : ℕ) → bit 0 n ≡ false
bit-none zero = bit_zero 0
bit-none (suc n) = bit_suc 0 n ∙ bit-none n

pub mask_ext : (a b : ℕ) → ((n : ℕ) → bit a n ≡ bit b n) → a ≡ b
mask_ext = bin_ind (λ (a : ℕ). (b : ℕ) → ((n : ℕ) → bit a n ≡ bit b n) → a ≡ b) base step
  where
    halves : (a b : ℕ) → a / 2 ≡ b / 2 → a % 2 ≡ b % 2 → a ≡ b
    halves a b p q = omega arith

    down : (a b : ℕ) → ((n : ℕ) → bit a n ≡ bit b n) → (n : ℕ) → bit (a / 2) n ≡ bit (b / 2) n
    down a b h n = sym (bit_suc a n) ∙ h (suc n) ∙ bit_suc b n

    odd : (a b : ℕ) → ((n : ℕ) → bit a n ≡ bit b n) → a % 2 ≡ b % 2
    odd a b h = digit_eq a b (sym (bit_zero a) ∙ h 0 ∙ bit_zero b)

    step : (a : ℕ) → ((b : ℕ) → ((n : ℕ) → bit (a / 2) n ≡ bit b n) → a / 2 ≡ b) → (b : ℕ) → ((n : ℕ) → bit a n ≡ bit b n) → a ≡ b
    step a r b h = halves a b (r (b / 2) (down a b h)) (odd a b h)

    base : (b : ℕ) → ((n : ℕ) → bit 0 n ≡ bit b n) → 0 ≡ b
    base = bin_ind (λ (b : ℕ). ((n : ℕ) → bit 0 n ≡ bit b n) → 0 ≡ b) (λ h. refl) (λ b r h. halves 0 b (r (down 0 b h)) (odd 0 b h))

pub subset-out : (a b : ℕ) → Is (subset a b) → (n : ℕ) → Is (bit a n) → Is (bit b n)
unfolding subset
subset-out a b h n p = and_r (bit a n) (bit b n) (sym (bit-and n a b) ∙ ap (λ (x : ℕ). bit x n) (eqb-true (bit_and a b) a h) ∙ p)

pub subset_in : (a b : ℕ) → ((n : ℕ) → Is (bit a n) → Is (bit b n)) → Is (subset a b)
unfolding subset
subset_in a b h = eq-eqb (bit_and a b) a (mask_ext (bit_and a b) a λ n. bit-and n a b ∙ same (bit a n && bit b n) (bit a n) (λ p. and_l (bit a n) (bit b n) p) (λ p. and_in p (h n p)))

pub subset-self : (a : ℕ) → Is (subset a a)
subset-self a = subset_in a a (λ n p. p)

pub subset-chain : (a b c : ℕ) → Is (subset a b) → Is (subset b c) → Is (subset a c)
subset-chain a b c p q = subset_in a c (λ n h. subset-out b c q n (subset-out a b p n h))

-- the set of one number
pub bit-one : (n k : ℕ) → bit (2 ^ k) n ≡ eqb n k
bit-one zero zero = bit_zero 1
bit-one (suc n) zero = bit_suc 1 n ∙ bit-none n ∙ sym (eqb-suc-zero n)
bit-one zero (suc k) = bit_zero (2 ^ suc k) ∙ ap (λ (x : ℕ). eqb x 1) (ap (λ (x : ℕ). x % 2) (pow-suc 2 k) ∙ mul-mod_left (2 ^ k) 2) ∙ sym (eqb-zero-suc k)
bit-one (suc n) (suc k) =
    bit_suc (2 ^ suc k) n ∙ ap (λ (x : ℕ). bit x n) (ap (λ (x : ℕ). x / 2) (pow-suc 2 k) ∙ mul-div_cancel (2 ^ k) (omega arith)) ∙ bit-one n k ∙ sym (eqb-suc-suc n k)

-- a set of one number lies in a set where the number does
pub one-subset : (k a : ℕ) → subset (2 ^ k) a ≡ bit a k
one-subset k a =
    same (subset (2 ^ k) a) (bit a k)
    (λ h. subset-out (2 ^ k) a h k (bit-one k k ∙ eq-eqb k k refl))
    (λ h. subset_in (2 ^ k) a λ n p. rw (eqb-true n k (sym (bit-one n k) ∙ p)) h)

flag : (b : Bool) → (m : ℕ) → (eqb ((cond b 1 0 + 2 * m) % 2) 1 ≡ b) × ((cond b 1 0 + 2 * m) / 2 ≡ m)
flag true m = (eq-eqb ((1 + 2 * m) % 2) 1 (omega arith), omega arith)
flag false m = (ne_eqb ((0 + 2 * m) % 2) 1 (omega arith), omega arith)

pub bit_mask : (n : ℕ) (f : ℕ → Bool) (i : ℕ) → i < n → bit (mask_of n f) i ≡ f i
unfolding mask_of
bit_mask zero f i h = absurd (omega arith)
bit_mask (suc n) f zero h = bit_zero _ ∙ (flag (f 0) (mask_of n (λ i. f (suc i)))).0
bit_mask (suc n) f (suc i) h =
    bit_suc _ i ∙ ap (λ (x : ℕ). bit x i) (flag (f 0) (mask_of n (λ i. f (suc i)))).1 ∙ bit_mask n (λ i. f (suc i)) i (omega arith)

-- `m >> n`
pub bit-down : (m n j : ℕ) → bit (m / 2 ^ n) j ≡ bit m (n + j)
unfolding bit
bit-down m n j = ap (λ (x : ℕ). eqb (x % 2) 1) (div-div-eq-div-mul m (2 ^ n) (2 ^ j) ∙ ap (λ (x : ℕ). m / x) (sym (pow-add 2 n j)))

-- `m << n`, where nothing is lost
pub bit_up : (m n j : ℕ) → bit (m * 2 ^ n) (n + j) ≡ bit m j
bit_up m n j = sym (bit-down (m * 2 ^ n) n j) ∙ ap (λ (x : ℕ). bit x j) (shl-shr m n)

pub bit-under : (m n i : ℕ) → i < n → bit (m * 2 ^ n) i ≡ false
bit-under m zero i l = absurd (omega arith)
bit-under m (suc n) i l = ap (λ (x : ℕ). bit x i) (ap (λ (x : ℕ). m * x) (pow-suc 2 n) ∙ sym (mul_assoc m (2 ^ n) 2)) ∙ go i l (bit-under m n)
  where
    go : (i : ℕ) → i < suc n → ((j : ℕ) → j < n → bit (m * 2 ^ n) j ≡ false) → bit (m * 2 ^ n * 2) i ≡ false
    go zero l r = bit_zero (m * 2 ^ n * 2) ∙ ap (λ (x : ℕ). eqb x 1) (mul-mod_left (m * 2 ^ n) 2)
    go (suc j) l r = bit_suc (m * 2 ^ n * 2) j ∙ ap (λ (x : ℕ). bit x j) (mul-div_cancel (m * 2 ^ n) (omega arith)) ∙ r j (omega arith)
