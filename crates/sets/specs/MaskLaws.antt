-- The laws of sets as masks that proofs of code lean on. Where a law is about an operator of the code, it is stated on what the
-- operator computes: `1 << i` is `(1 * 2 ^ i) % 2 ^ 64`, `!b` is `(2 ^ 64 - 1) - b`.
-- Assumes nothing.
use Rattle.std.specs.Prelude.{ℕ, zero, suc, ◌+◌, ◌*◌, ◌/◌, ◌%◌, ◌^◌, ◌≤◌, ◌<◌, max, ◌-◌, eqb, ltb, length, Bool, true, false, cond, ◌&&◌, ◌||◌, not, ◌∷◌, ◌≡◌, refl}
use Rattle.std.proofs.Common.{eqb-true, eq-eqb, ltb-true, ltb-false, lt-ltb, le-ltb, pow_pos, pow_mono, shl_exact, sym, ap, ap₂, ◌∙◌, pow-suc, mod-lt, add-zero, add-suc, suc-add, zero-add, lt_of_lt_of_le, one-mul, add-one, arith}
use Rattle.std.proofs.lemmas.Bool.{eqb-false, not-true, false≢true}
use Rattle.std.specs.Int.Bits.{bit_and, bit_or, or_step, and_lt}
use Rattle.std.proofs.lemmas.Nat.{and_mask, or_lt}
use Rattle.std.specs.Int.Count.{ones, ones_step, count_trailing_zeros, under}
use Rattle.std.proofs.Math.Bool.{and_comm, and-true, or-false}
use Rattle.std.proofs.Math.Nat.{div-eq_of_lt}
use Rattle.sets.specs.ListLaws.{keep-most, keep_ext}
use Rattle.sets.specs.Lowest.{lowest_from}
use Rattle.sets.specs.LowestLaws.{lowest_from-misses}
use Rattle.sets.specs.Sets.{bit, mask_of, size}
use Rattle.sets.specs.SetLaws.{bit_zero, bit_suc, bit-and, bit-none, mask_ext, bit-one, bit_mask, digit}
use Rattle.sets.specs.Tests.{Is, any, keep, from, up_to}
use Rattle.sets.specs.TestLaws.{never, test, fails, same, any_in, any_out, up_to_in, up_to-out, not_in}

-- ---- bits

digit_or : (a b : ℕ) → eqb (max (a % 2) (b % 2)) 1 ≡ (eqb (a % 2) 1 || eqb (b % 2) 1)
digit_or a b =
    digit a
    (λ p. digit b (λ q. rw (p, q)) (λ q. rw (p, q)))
    (λ p. digit b (λ q. rw (p, q)) (λ q. rw (p, q)))

or_half : (a b : ℕ) → bit_or a b / 2 ≡ bit_or (a / 2) (b / 2)
or_half a b = let e = or_step a b in digit a (λ p. digit b (λ q. omega arith) (λ q. omega arith)) (λ p. digit b (λ q. omega arith) (λ q. omega arith))

or_odd : (a b : ℕ) → bit_or a b % 2 ≡ max (a % 2) (b % 2)
or_odd a b = let e = or_step a b in digit a (λ p. digit b (λ q. omega arith) (λ q. omega arith)) (λ p. digit b (λ q. omega arith) (λ q. omega arith))

pub bit-or : (n a b : ℕ) → bit (bit_or a b) n ≡ (bit a n || bit b n)
bit-or zero a b = bit_zero (bit_or a b) ∙ ap (λ (x : ℕ). eqb x 1) (or_odd a b) ∙ digit_or a b ∙ sym (ap₂ ◌||◌ (bit_zero a) (bit_zero b))
bit-or (suc n) a b = bit_suc (bit_or a b) n ∙ ap (λ (x : ℕ). bit x n) (or_half a b) ∙ bit-or n (a / 2) (b / 2) ∙ sym (ap₂ ◌||◌ (bit_suc a n) (bit_suc b n))

-- past the width of a number there is nothing
pub bit-out : (n m i : ℕ) → m < 2 ^ n → n ≤ i → bit m i ≡ false
unfolding bit
bit-out n m i h l = ap (λ (x : ℕ). eqb (x % 2) 1) (div-eq_of_lt (lt_of_lt_of_le h (pow_mono l)))

-- a set of n bits has members below n only
pub bit-low : (n m i : ℕ) → m < 2 ^ n → Is (bit m i) → i < n
bit-low n m i h b = test (ltb i n) (λ p. ltb-true i n p) (λ p. never b (bit-out n m i h (ltb-false i n p)))

-- ---- mask_of

pub mask_lt : (n : ℕ) (f : ℕ → Bool) → mask_of n f < 2 ^ n
unfolding mask_of
mask_lt zero f = omega arith
mask_lt (suc n) f = go (f 0) (mask_lt n (λ i. f (suc i)))
  where
    go : (b : Bool) → mask_of n (λ i. f (suc i)) < 2 ^ n → cond b 1 0 + 2 * mask_of n (λ i. f (suc i)) < 2 ^ suc n
    go true h = omega (arith, pow-suc 2 n)
    go false h = omega (arith, pow-suc 2 n)

pub bit-mask_of : (n : ℕ) (f : ℕ → Bool) (i : ℕ) → bit (mask_of n f) i ≡ (ltb i n && f i)
bit-mask_of n f i =
    test (ltb i n)
    (λ p. bit_mask n f i (ltb-true i n p) ∙ sym (ap (λ (b : Bool). b && f i) p))
    (λ p. bit-out n (mask_of n f) i (mask_lt n f) (ltb-false i n p) ∙ sym (ap (λ (b : Bool). b && f i) p))

-- two numbers of n bits that agree in them
pub bits-same : (n a b : ℕ) → a < 2 ^ n → b < 2 ^ n → ((i : ℕ) → i < n → bit a i ≡ bit b i) → a ≡ b
bits-same n a b ha hb h = mask_ext a b λ i. test (ltb i n) (λ p. h i (ltb-true i n p)) (λ p. bit-out n a i ha (ltb-false i n p) ∙ sym (bit-out n b i hb (ltb-false i n p)))

pub mask_unique : (n m : ℕ) (f : ℕ → Bool) → m < 2 ^ n → ((i : ℕ) → i < n → bit m i ≡ f i) → m ≡ mask_of n f
mask_unique n m f l h = bits-same n m (mask_of n f) l (mask_lt n f) (λ i k. h i k ∙ sym (bit_mask n f i k))

pub mask_same : (n : ℕ) (f g : ℕ → Bool) → ((i : ℕ) → i < n → f i ≡ g i) → mask_of n f ≡ mask_of n g
mask_same n f g h = mask_unique n (mask_of n f) g (mask_lt n f) (λ i k. bit_mask n f i k ∙ h i k)

-- a number is the mask of its bits
pub mask_bits : (n m : ℕ) → m < 2 ^ n → m ≡ mask_of n (bit m)
mask_bits n m l = mask_unique n m (bit m) l (λ i k. refl)

-- a mask of a smaller width as one of a larger
pub mask_wide : (n w : ℕ) (f : ℕ → Bool) → n ≤ w → mask_of n f ≡ mask_of w (λ i. ltb i n && f i)
mask_wide n w f l = mask_unique w (mask_of n f) (λ i. ltb i n && f i) (lt_of_lt_of_le (mask_lt n f) (pow_mono l)) (λ i k. bit-mask_of n f i)

-- a test that fails everywhere
pub mask_none : (n : ℕ) (f : ℕ → Bool) → ((i : ℕ) → i < n → f i ≡ false) → mask_of n f ≡ 0
mask_none n f h = sym (mask_unique n 0 f (pow_pos n) (λ i k. bit-none i ∙ sym (h i k)))

-- ---- `1 << i`

pub one_shifted : (i : ℕ) → i < 64 → (1 * 2 ^ i) % 2 ^ 64 ≡ 2 ^ i
one_shifted i h = shl_exact 1 i 64 (omega arith) (omega arith) ∙ one-mul (2 ^ i)

pub bit_shifted : (i : ℕ) → i < 64 → (k : ℕ) → bit ((1 * 2 ^ i) % 2 ^ 64) k ≡ eqb k i
bit_shifted i h k = ap (λ (x : ℕ). bit x k) (one_shifted i h) ∙ bit-one k i

shifted_lt : (i : ℕ) → (1 * 2 ^ i) % 2 ^ 64 < 2 ^ 64
shifted_lt i = mod-lt (1 * 2 ^ i) (pow_pos 64)

-- ---- the operators

-- `(m >> i) & 1 == 1`
pub has_law : (m i : ℕ) → eqb (bit_and (m / 2 ^ i) 1) 1 ≡ bit m i
unfolding bit
has_law m i = ap (λ (x : ℕ). eqb x 1) (and_mask (m / 2 ^ i) 1)

pub has-none : (m i : ℕ) → m < 2 ^ 64 → 64 ≤ i → ltb i 64 ≡ bit m i
has-none m i h l = le-ltb i 64 l ∙ sym (bit-out 64 m i h l)

-- `a | b`
pub or_law : (a b : ℕ) → a < 2 ^ 64 → b < 2 ^ 64 → bit_or a b ≡ mask_of 64 (λ k. bit a k || bit b k)
or_law a b ha hb = mask_unique 64 (bit_or a b) (λ k. bit a k || bit b k) (or_lt 64 a b ha hb) (λ k q. bit-or k a b)

-- `a & b`
pub and_law : (a b : ℕ) → a < 2 ^ 64 → b < 2 ^ 64 → bit_and a b ≡ mask_of 64 (λ k. bit a k && bit b k)
and_law a b ha hb = mask_unique 64 (bit_and a b) (λ k. bit a k && bit b k) (and_lt 64 a b ha hb) (λ k q. bit-and k a b)

-- `m | 1 << i`
pub with_law : (m i : ℕ) → m < 2 ^ 64 → i < 64 → bit_or m ((1 * 2 ^ i) % 2 ^ 64) ≡ mask_of 64 (λ k. bit m k || eqb k i)
with_law m i h l =
    mask_unique 64 (bit_or m ((1 * 2 ^ i) % 2 ^ 64)) (λ k. bit m k || eqb k i) (or_lt 64 m ((1 * 2 ^ i) % 2 ^ 64) h (shifted_lt i))
    (λ k q. bit-or k m ((1 * 2 ^ i) % 2 ^ 64) ∙ ap (λ (b : Bool). bit m k || b) (bit_shifted i l k))

-- a number that no set of 64 can hold adds nothing
pub with_none : (m i : ℕ) → m < 2 ^ 64 → 64 ≤ i → m ≡ mask_of 64 (λ k. bit m k || eqb k i)
with_none m i h l =
    mask_unique 64 m (λ k. bit m k || eqb k i) h
    (λ k q. sym (ap (λ (b : Bool). bit m k || b) (fails (eqb k i) (λ e. let d = eqb-true k i e in absurd (omega arith))) ∙ or-false (bit m k)))

-- `!b`
flips : (n : ℕ) (f : ℕ → Bool) → mask_of n (λ i. not (f i)) + mask_of n f ≡ 2 ^ n - 1
unfolding mask_of
flips zero f = refl
flips (suc n) f = go (f 0) (flips n (λ i. f (suc i)))
  where
    go : (b : Bool) → mask_of n (λ i. not (f (suc i))) + mask_of n (λ i. f (suc i)) ≡ 2 ^ n - 1
        → (cond (not b) 1 0 + 2 * mask_of n (λ i. not (f (suc i)))) + (cond b 1 0 + 2 * mask_of n (λ i. f (suc i))) ≡ 2 ^ suc n - 1
    go true h = omega (arith, pow-suc 2 n, pow_pos n)
    go false h = omega (arith, pow-suc 2 n, pow_pos n)

pub not_law : (n m : ℕ) → m < 2 ^ n → (2 ^ n - 1) - m ≡ mask_of n (λ i. not (bit m i))
not_law n m l = omega (arith, flips n (bit m), mask_bits n m l)

-- `a & !b`
pub without_law : (a b : ℕ) → a < 2 ^ 64 → b < 2 ^ 64 → bit_and a ((2 ^ 64 - 1) - b) ≡ mask_of 64 (λ k. bit a k && not (bit b k))
without_law a b ha hb = ap (bit_and a) (not_law 64 b hb) ∙ and_law a (mask_of 64 (λ i. not (bit b i))) ha (mask_lt 64 (λ i. not (bit b i)))
    ∙ mask_same 64 (λ k. bit a k && bit (mask_of 64 (λ i. not (bit b i))) k) (λ k. bit a k && not (bit b k))
    (λ k q. ap (λ (b : Bool). bit a k && b) (bit_mask 64 (λ i. not (bit b i)) k q))

-- `(1 << n) - 1`
pub mask_all : (n : ℕ) → mask_of n (λ i. true) ≡ 2 ^ n - 1
unfolding mask_of
mask_all zero = refl
mask_all (suc n) = omega (arith, mask_all n, pow-suc 2 n, pow_pos n)

below-ones : (n : ℕ) → n ≤ 64 → 2 ^ n - 1 ≡ mask_of 64 (λ k. ltb k n)
below-ones n l = sym (mask_all n) ∙ mask_wide n 64 (λ i. true) l ∙ mask_same 64 (λ i. ltb i n && true) (λ i. ltb i n) (λ i k. and-true (ltb i n))

pub shifted-some : (n : ℕ) → n < 64 → 1 ≤ (1 * 2 ^ n) % 2 ^ 64
shifted-some n l = omega (arith, one_shifted n l, pow_pos n)

pub below_law : (n : ℕ) → n < 64 → (1 * 2 ^ n) % 2 ^ 64 - 1 ≡ mask_of 64 (λ k. ltb k n)
below_law n l = ap (λ (x : ℕ). x - 1) (one_shifted n l) ∙ below-ones n (omega arith)

-- `!0`
pub below_all : (n : ℕ) → 64 ≤ n → 2 ^ 64 - 1 ≡ mask_of 64 (λ k. ltb k n)
below_all n l = sym (mask_all 64) ∙ mask_same 64 (λ i. true) (λ k. ltb k n) (λ k q. sym (lt-ltb k n (omega arith)))

-- `meet(m, below(n))`: what a set has below n
pub cut_law : (n m b s : ℕ) → n ≤ 64 → b ≡ mask_of 64 (λ k. ltb k n) → s ≡ mask_of 64 (λ k. bit m k && bit b k) → s ≡ mask_of n (bit m)
cut_law n m b s h e q =
    q
    ∙ mask_same 64 (λ k. bit m k && bit b k) (λ k. ltb k n && bit m k) (λ k l. ap (λ (x : Bool). bit m k && x) (ap (λ (x : ℕ). bit x k) e ∙ bit_mask 64 (λ k. ltb k n) k l) ∙ and_comm (bit m k) (ltb k n))
    ∙ sym (mask_wide n 64 (bit m) h)

-- ---- a loop that fills a mask of the numbers below n that pass a test

pub fill_none : (f : ℕ → Bool) → mask_of 0 f ≡ 0
unfolding mask_of
fill_none f = refl

-- the number n is the last below n + 1
last {ℓ} : {X : Type ℓ} (i n : ℕ) → i < n + 1 → (i < n → X) → (i ≡ n → X) → X
last i n h f g = test (ltb i n) (λ p. f (ltb-true i n p)) (λ p. let q = ltb-false i n p in g (omega arith))

-- a turn that takes n in by `m |= 1 << n`
pub fill_in : (n m m' : ℕ) (f : ℕ → Bool) → n < 64 → m ≡ mask_of n f → f n ≡ true → m' ≡ bit_or m ((1 * 2 ^ n) % 2 ^ 64) → m' ≡ mask_of (n + 1) f
fill_in n m m' f l h e q = q ∙ mask_unique (n + 1) (bit_or m ((1 * 2 ^ n) % 2 ^ 64)) f small at
  where
    wide : 2 ^ (n + 1) ≡ 2 ^ n * 2
    wide = ap (λ (x : ℕ). 2 ^ x) (add-one n) ∙ pow-suc 2 n

    small : bit_or m ((1 * 2 ^ n) % 2 ^ 64) < 2 ^ (n + 1)
    small = or_lt (n + 1) m ((1 * 2 ^ n) % 2 ^ 64) (omega (arith, h, wide, mask_lt n f)) (omega (arith, wide, one_shifted n l, pow_pos n))

    bits : (i : ℕ) → bit (bit_or m ((1 * 2 ^ n) % 2 ^ 64)) i ≡ (bit (mask_of n f) i || eqb i n)
    bits i = bit-or i m ((1 * 2 ^ n) % 2 ^ 64) ∙ ap₂ ◌||◌ (ap (λ (x : ℕ). bit x i) h) (bit_shifted n l i)

    at : (i : ℕ) → i < n + 1 → bit (bit_or m ((1 * 2 ^ n) % 2 ^ 64)) i ≡ f i
    at i k = bits i ∙ last i n k
        (λ p. ap₂ ◌||◌ (bit_mask n f i p) (fails (eqb i n) (λ d. let x = eqb-true i n d in absurd (omega arith))) ∙ or-false (f i))
        (λ p. ap₂ ◌||◌ (bit-out n (mask_of n f) i (mask_lt n f) (omega arith)) (eq-eqb i n p) ∙ sym (ap f p ∙ e))

-- a turn that passes n by
pub fill_out : (n m m' : ℕ) (f : ℕ → Bool) → m ≡ mask_of n f → f n ≡ false → m' ≡ m → m' ≡ mask_of (n + 1) f
fill_out n m m' f h e q = q ∙ h ∙ mask_unique (n + 1) (mask_of n f) f (lt_of_lt_of_le (mask_lt n f) (pow_mono (omega arith))) at
  where
    at : (i : ℕ) → i < n + 1 → bit (mask_of n f) i ≡ f i
    at i k = last i n k (λ p. bit_mask n f i p) (λ p. bit-out n (mask_of n f) i (mask_lt n f) (omega arith) ∙ sym (ap f p ∙ e))

-- a turn that takes n in by a call, `m = with(m, n)`
pub fill_with : (n m m' : ℕ) (f : ℕ → Bool) → n < 64 → m ≡ mask_of n f → f n ≡ true → m' ≡ mask_of 64 (λ k. bit m k || eqb k n) → m' ≡ mask_of (n + 1) f
fill_with n m m' f l h e q = fill_in n m m' f l h e (q ∙ sym (with_law m n (omega (arith, h, mask_lt n f, pow_mono {i = n} {j = 64} (omega arith))) l))

-- the loop's end
pub fill_end : (i n m : ℕ) (f : ℕ → Bool) → m ≡ mask_of i f → i ≡ n → m ≡ mask_of n f
fill_end i n m f h e = h ∙ ap (λ (x : ℕ). mask_of x f) e

-- ---- how many, and the least

-- a test from k on that says the bits of m: at k it says the lowest bit, and from k + 1 on the bits of m / 2
bits-first : (k m : ℕ) (g : ℕ → Bool) → ((i : ℕ) → g (k + i) ≡ bit m i) → g k ≡ eqb (m % 2) 1
bits-first k m g e = rw add-zero at (e 0) ∙ bit_zero m

bits-rest : (k m : ℕ) (g : ℕ → Bool) → ((i : ℕ) → g (k + i) ≡ bit m i) → (i : ℕ) → g (suc k + i) ≡ bit (m / 2) i
bits-rest k m g e i = rw (suc-add, ← add-suc) (e (suc i)) ∙ bit_suc m i

-- `count_ones`
count-from : (n k m : ℕ) (g : ℕ → Bool) → m < 2 ^ n → ((i : ℕ) → g (k + i) ≡ bit m i) → ones m ≡ length (keep g (from k n))
unfolding ones
count-from zero k m g h e = let z : m ≡ 0 = omega arith in rw z
count-from (suc n) k m g h e = ones_step m ∙ go (g k) (sym (bits-first k m g e)) (count-from n (suc k) (m / 2) g (omega (arith, pow-suc 2 n)) (bits-rest k m g e))
  where
    go : (b : Bool) → eqb (m % 2) 1 ≡ b → ones (m / 2) ≡ length (keep g (from (suc k) n)) → m % 2 + ones (m / 2) ≡ length (cond b (k ∷ keep g (from (suc k) n)) (keep g (from (suc k) n)))
    go true p r = omega (arith, eqb-true (m % 2) 1 p)
    go false p r = let d = eqb-false (m % 2) 1 p in omega (arith, mod-lt m {m = 2} (omega arith))

pub count_law : (m : ℕ) → m < 2 ^ 64 → ones m ≡ size m
unfolding size
count_law m h = count-from 64 0 m (bit m) h (λ i. ap (bit m) (zero-add i))

-- a set has at most 64
pub size-most : (m : ℕ) → size m ≤ 64
unfolding size
size-most m = keep-most (bit m) (up_to 64)

-- how many pass the test that a mask was made of
pub size_mask : (n : ℕ) (f : ℕ → Bool) → n ≤ 64 → size (mask_of n f) ≡ length (keep f (up_to n))
size_mask n f l =
    sym (count_law (mask_of n f) (lt_of_lt_of_le (mask_lt n f) (pow_mono l)))
    ∙ count-from n 0 (mask_of n f) (bit (mask_of n f)) (mask_lt n f) (λ i. ap (bit (mask_of n f)) (zero-add i))
    ∙ ap length (keep_ext (bit (mask_of n f)) f (up_to n) (λ i m. bit_mask n f i (up_to-out n m)))

-- `trailing_zeros`
least-from : (n k m : ℕ) (g : ℕ → Bool) → ((i : ℕ) → g (k + i) ≡ bit m i) → k + count_trailing_zeros n m ≡ lowest_from g k n
unfolding count_trailing_zeros
least-from zero k m g e = add-zero k
least-from (suc n) k m g e = go (g k) (m % 2) (bits-first k m g e) (mod-lt m {m = 2} (omega arith)) (least-from n (suc k) (m / 2) g (bits-rest k m g e))
  where
    go : (b : Bool) (d : ℕ) → b ≡ eqb d 1 → d < 2 → suc k + count_trailing_zeros n (m / 2) ≡ lowest_from g (suc k) n → k + under d (count_trailing_zeros n (m / 2)) ≡ cond b k (lowest_from g (suc k) n)
    go true zero p h r = absurd (false≢true (sym p))
    go true (suc d) p h r = add-zero k
    go false zero p h r = add-suc k (count_trailing_zeros n (m / 2)) ∙ sym (suc-add k (count_trailing_zeros n (m / 2))) ∙ r
    go false (suc d) p h r = let z : d ≡ 0 = omega arith in absurd (false≢true (rw z at p))

pub least_law : (m : ℕ) → count_trailing_zeros 64 m ≡ lowest_from (bit m) 0 64
least_law m = sym (zero-add (count_trailing_zeros 64 m)) ∙ least-from 64 0 m (bit m) (λ i. ap (bit m) (zero-add i))

-- none that passes is less (that it passes, if any does, is `lowestFrom-some`)
pub least-most : (f : ℕ → Bool) (n l : ℕ) → Is (f l) → lowest_from f 0 n ≤ l
least-most f n l h = test (ltb l (lowest_from f 0 n)) (λ p. never h (lowest_from-misses f 0 n l (omega arith) (ltb-true l (lowest_from f 0 n) p))) (λ p. ltb-false l (lowest_from f 0 n) p)

-- ---- `m == 0`

pub empty_law : (n m : ℕ) → m < 2 ^ n → eqb m 0 ≡ not (any (bit m) (up_to n))
empty_law n m l = same (eqb m 0) (not (any (bit m) (up_to n))) there back
  where
    there : Is (eqb m 0) → Is (not (any (bit m) (up_to n)))
    there e = not_in (any (bit m) (up_to n)) (fails (any (bit m) (up_to n)) (λ h. let t = any_out (bit m) (up_to n) h in never t.2 (ap (λ (x : ℕ). bit x t.0) (eqb-true m 0 e) ∙ bit-none t.0)))

    back : Is (not (any (bit m) (up_to n))) → Is (eqb m 0)
    back h = eq-eqb m 0 (bits-same n m 0 l (pow_pos n) (λ i k. fails (bit m i) (λ b. never (any_in (bit m) (up_to_in k) b) (not-true (any (bit m) (up_to n)) h)) ∙ sym (bit-none i)))
