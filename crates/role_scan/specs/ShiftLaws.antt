-- The laws of a loop that fills a set of 64 from the last to the first: each turn shifts the set up by one, `m << 1`, and takes in the
-- number 0, `m | 1`, if a test passes.
-- Assumes nothing.
use Rattle.std.specs.Prelude.{ℕ, suc, ◌+◌, ◌*◌, ◌/◌, ◌%◌, ◌^◌, ◌-◌, ◌<◌, max, Bool, true, false, cond, ◌≡◌}
use Rattle.std.specs.Int.Bits.{bit_or, or_step, or_zero_r}
use Rattle.std.proofs.Common.{shl_exact, sym, ap, ap₂, ◌∙◌, zero-add, add-one, arith}
use Rattle.sets.specs.MaskLaws.{mask_lt, mask_same, fill_none}
use Rattle.sets.specs.Sets.{mask_of}

-- those of the last n numbers below 64 that pass a test, each counted from the first of them
abbrev pub last_of : (ℕ → Bool) → ℕ → ℕ
last_of f n = mask_of n (λ k. f ((64 - n) + k))

-- a loop begins with none
pub shift_none : (f : ℕ → Bool) → 0 ≡ last_of f 0
shift_none f = sym (fill_none (λ k. f ((64 - 0) + k)))

shifted : (f : ℕ → Bool) (n m : ℕ) → n < 64 → m ≡ last_of f n → (m * 2 ^ 1) % 2 ^ 64 ≡ 2 * m
shifted f n m l h = shl_exact n 1 64 (omega (arith, h, mask_lt n (λ k. f ((64 - n) + k)))) (omega arith) ∙ omega arith

one_more_lem : (f : ℕ → Bool) (n : ℕ) → n < 64 → last_of f (n + 1) ≡ cond (f (63 - n)) 1 0 + 2 * last_of f n
unfolding mask_of
one_more_lem f n l =
    ap (λ (k : ℕ). mask_of k (λ i. f ((64 - (n + 1)) + i))) (add-one n)
    ∙ ap₂ (λ (b : Bool) (m : ℕ). cond b 1 0 + 2 * m) (ap f (let e : (64 - (n + 1)) + 0 ≡ 63 - n = omega arith in e))
    (mask_same n (λ i. f ((64 - (n + 1)) + suc i)) (λ i. f ((64 - n) + i)) (λ i k. ap f (let e : (64 - (n + 1)) + suc i ≡ (64 - n) + i = omega arith in e)))

or_one : (m : ℕ) → bit_or (2 * m) 1 ≡ 1 + 2 * m
or_one m =
    let a : (2 * m) / 2 ≡ m = omega arith in
    let b : (2 * m) % 2 ≡ 0 = omega arith in
    or_step (2 * m) 1 ∙ ap₂ (λ (x y : ℕ). bit_or x 0 * 2 + max y 1) a b ∙ ap (λ (x : ℕ). x * 2 + 1) (or_zero_r m) ∙ omega arith

-- a turn that takes one in
pub shift_in : (f : ℕ → Bool) (n m m' : ℕ) → n < 64 → m ≡ last_of f n → f (63 - n) ≡ true → m' ≡ bit_or ((m * 2 ^ 1) % 2 ^ 64) 1 → m' ≡ last_of f (n + 1)
shift_in f n m m' l h e q =
    q ∙ ap (λ (x : ℕ). bit_or x 1) (shifted f n m l h) ∙ or_one m ∙ ap₂ (λ (b : Bool) (x : ℕ). cond b 1 0 + 2 * x) (sym e) h ∙ sym (one_more_lem f n l)

-- a turn that passes one by
pub shift_out : (f : ℕ → Bool) (n m m' : ℕ) → n < 64 → m ≡ last_of f n → f (63 - n) ≡ false → m' ≡ (m * 2 ^ 1) % 2 ^ 64 → m' ≡ last_of f (n + 1)
shift_out f n m m' l h e q =
    q ∙ shifted f n m l h ∙ sym (zero-add (2 * m)) ∙ ap₂ (λ (b : Bool) (x : ℕ). cond b 1 0 + 2 * x) (sym e) h ∙ sym (one_more_lem f n l)

-- the loop's end
pub shift_end : (f : ℕ → Bool) (n m : ℕ) → m ≡ last_of f n → n ≡ 64 → m ≡ mask_of 64 f
shift_end f n m h e = h ∙ ap (last_of f) e ∙ mask_same 64 (λ k. f ((64 - 64) + k)) f (λ k l. ap f (let q : (64 - 64) + k ≡ k = omega arith in q))
