-- The laws of Lowest.
-- Assumes nothing.
use Rattle.std.specs.Prelude.{ℕ, zero, suc, ◌+◌, ◌≤◌, ◌<◌, eqb, Bool, true, false, cond, ◌≡◌, refl}
use Rattle.std.proofs.Common.{eqb-true, add-zero, add-suc, suc-add, arith}
use Rattle.std.proofs.lemmas.Bool.{eqb-false}
use Rattle.std.proofs.Math.Decide.{dec_lt}
use Rattle.sets.specs.Tests.{Is}
use Rattle.sets.specs.TestLaws.{never, test}
use Rattle.sets.specs.Lowest.{lowest_from, lowest}

pub lowest_from-misses : (f : ℕ → Bool) (k n l : ℕ) → k ≤ l → l < lowest_from f k n → f l ≡ false
lowest_from-misses f k zero l h p = absurd (omega arith)
lowest_from-misses f k (suc n) l h p = go (f k) refl (lowest_from-misses f (suc k) n l) p
  where
    go : (b : Bool) → f k ≡ b → (suc k ≤ l → l < lowest_from f (suc k) n → f l ≡ false) → l < cond b k (lowest_from f (suc k) n) → f l ≡ false
    go true e r p = absurd (omega arith)
    go false e r p = test (eqb l k) (λ q. rw (eqb-true l k q) e) (λ q. let d = eqb-false l k q in r (omega arith) p)

pub lowest_from-passes : (f : ℕ → Bool) (k n : ℕ) → Is (f (k + n)) → Is (f (lowest_from f k n))
lowest_from-passes f k zero h = rw add-zero at h
lowest_from-passes f k (suc n) h = go (f k) refl (lowest_from-passes f (suc k) n (rw (suc-add, ← add-suc) h))
  where
    go : (b : Bool) → f k ≡ b → Is (f (lowest_from f (suc k) n)) → Is (f (cond b k (lowest_from f (suc k) n)))
    go true e r = e
    go false e r = r

-- one that is below the end passes
pub lowest_from-hits : (f : ℕ → Bool) (k n : ℕ) → lowest_from f k n < k + n → Is (f (lowest_from f k n))
lowest_from-hits f k zero h = absurd (omega arith)
lowest_from-hits f k (suc n) h = go (f k) refl (lowest_from-hits f (suc k) n) h
  where
    go : (b : Bool) → f k ≡ b → (lowest_from f (suc k) n < suc k + n → Is (f (lowest_from f (suc k) n))) → cond b k (lowest_from f (suc k) n) < k + suc n → Is (f (cond b k (lowest_from f (suc k) n)))
    go true e r l = e
    go false e r l = r (omega arith)

pub lowest_from-most : (f : ℕ → Bool) (k n : ℕ) → lowest_from f k n ≤ k + n
lowest_from-most f k zero = omega arith
lowest_from-most f k (suc n) = go (f k) (lowest_from-most f (suc k) n)
  where
    go : (b : Bool) → lowest_from f (suc k) n ≤ suc k + n → cond b k (lowest_from f (suc k) n) ≤ k + suc n
    go true r = omega arith
    go false r = omega arith

-- it is at most 3; it passes, if 3 does; none below passes; it is no higher than one that passes
pub lowest-most : (f : ℕ → Bool) → lowest f ≤ 3
unfolding lowest
lowest-most f = lowest_from-most f 0 3

pub lowest-passes : (f : ℕ → Bool) → Is (f 3) → Is (f (lowest f))
unfolding lowest
lowest-passes f h = lowest_from-passes f 0 3 h

pub lowest-misses : (f : ℕ → Bool) (l : ℕ) → l < lowest f → f l ≡ false
unfolding lowest
lowest-misses f l h = lowest_from-misses f 0 3 l (omega arith) h

pub lowest-least : (f : ℕ → Bool) (l : ℕ) → Is (f l) → lowest f ≤ l
lowest-least f l h = elim (dec_lt l (lowest f)) [ yes p ↦ never h (lowest-misses f l p) | no q ↦ omega arith ]

pub lowest_from-some : (f : ℕ → Bool) (k n l : ℕ) → k ≤ l → l ≤ k + n → Is (f l) → Is (f (lowest_from f k n))
lowest_from-some f k zero l h p q = let e : l ≡ k = omega arith in rw e at q
lowest_from-some f k (suc n) l h p q = go (f k) refl (lowest_from-some f (suc k) n l)
  where
    go : (b : Bool) → f k ≡ b → (suc k ≤ l → l ≤ suc k + n → Is (f l) → Is (f (lowest_from f (suc k) n))) → Is (f (cond b k (lowest_from f (suc k) n)))
    go true e r = e
    go false e r = test (eqb l k) (λ d. never q (rw (eqb-true l k d) e)) (λ d. let x = eqb-false l k d in r (omega arith) (omega arith) q)

-- it passes, if any of the four does
pub lowest-some : (f : ℕ → Bool) (l : ℕ) → l ≤ 3 → Is (f l) → Is (f (lowest f))
unfolding lowest
lowest-some f l h q = lowest_from-some f 0 3 l (omega arith) (omega arith) q
