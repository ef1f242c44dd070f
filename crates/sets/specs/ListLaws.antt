-- The laws of lists: tests of their members, runs of numbers, a list or a number for each member, and what sorting gives;
-- over any type.
-- Assumes nothing.
use Rattle.std.specs.Prelude.{ℕ, suc, ◌+◌, ◌*◌, ◌≤◌, zero, ◌-◌, ◌<◌, length, Bool, true, false, cond, ◌&&◌, ◌||◌, List, [], ◌∷◌, ◌++◌, map, ◌≡◌, refl}
use Rattle.std.proofs.Common.{length-append, append_assoc, append-nil, sym, ap, ap₂, ◌∙◌, add-zero, zero-add, add-suc, suc-add, add_comm, mul-zero, mul-suc, arith}
use Rattle.std.proofs.Math.Bool.{and-true, or-false, and_assoc, or_assoc}
use mathlib.Core.List.Memᴰ
use Rattle.sets.specs.Sorted.{Rising, insert, sort, none_left, and-then}
use Rattle.sets.specs.SortedLaws.{Before, Strict, sort_in, sort-out, sort-rising, rising_ext}
use Rattle.sets.specs.Tests.{Is, ◌is_in◌, keep, each, only, up_to, sum, all, any, from}
use Rattle.sets.specs.TestLaws.{map_in, map-out, from_out}

-- ---- one member more behind

module _ {ℓ} {A : Type ℓ} where
  pub length_last : (l : List A) (x : A) → length (l ++ (x ∷ [])) ≡ suc (length l)
  length_last [] x = refl
  length_last (y ∷ l) x = ap suc (length_last l x)

  -- a list of no length
  pub length_none : (l : List A) → length l ≡ 0 → l ≡ []
  length_none [] h = refl
  length_none (x ∷ l) h = absurd (omega arith)

-- ---- tests of the members

module _ {ℓ} {A : Type ℓ} where
  -- tests that agree at each member
  pub all_ext : (f g : A → Bool) (l : List A) → ((a : A) → a is_in l → f a ≡ g a) → all f l ≡ all g l
  all_ext f g [] h = refl
  all_ext f g (x ∷ xs) h = ap₂ ◌&&◌ (h x (Memᴰ.head refl)) (all_ext f g xs (λ a m. h a (Memᴰ.tail m)))

  pub keep_ext : (f g : A → Bool) (l : List A) → ((a : A) → a is_in l → f a ≡ g a) → keep f l ≡ keep g l
  keep_ext f g [] h = refl
  keep_ext f g (x ∷ xs) h = ap₂ (λ (b : Bool) (k : List A). cond b (x ∷ k) k) (h x (Memᴰ.head refl)) (keep_ext f g xs (λ a m. h a (Memᴰ.tail m)))

  -- of one list and then another
  pub all_append : (f : A → Bool) (s t : List A) → all f (s ++ t) ≡ (all f s && all f t)
  all_append f [] t = refl
  all_append f (x ∷ s) t = ap (λ (b : Bool). f x && b) (all_append f s t) ∙ sym (and_assoc (f x) (all f s) (all f t))

  pub any_append : (f : A → Bool) (s t : List A) → any f (s ++ t) ≡ (any f s || any f t)
  any_append f [] t = refl
  any_append f (x ∷ s) t = ap (λ (b : Bool). f x || b) (any_append f s t) ∙ sym (or_assoc (f x) (any f s) (any f t))

  -- of one member more behind
  pub all-last : (f : A → Bool) (l : List A) (x : A) → all f (l ++ (x ∷ [])) ≡ (all f l && f x)
  all-last f l x = all_append f l (x ∷ []) ∙ ap (λ (b : Bool). all f l && b) (and-true (f x))

  pub any_last : (f : A → Bool) (l : List A) (x : A) → any f (l ++ (x ∷ [])) ≡ (any f l || f x)
  any_last f l x = any_append f l (x ∷ []) ∙ ap (λ (b : Bool). any f l || b) (or-false (f x))

-- of the images of a list's members
pub any-map : {A B : Type 0} (f : A → B) (g : B → Bool) (l : List A) → any g (map f l) ≡ any (λ x. g (f x)) l
any-map f g [] = refl
any-map f g (x ∷ xs) = ap (λ (b : Bool). g (f x) || b) (any-map f g xs)

-- ---- the numbers from k on

pub from-length : (k n : ℕ) → length (from k n) ≡ n
from-length k zero = refl
from-length k (suc n) = ap suc (from-length (suc k) n)

-- in two runs
pub from_split : (k m n : ℕ) → from k (m + n) ≡ from k m ++ from (k + m) n
from_split k zero n = rw (zero-add, add-zero)
from_split k (suc m) n = ap (from k) (suc-add m n) ∙ ap (λ (l : List ℕ). k ∷ l) (from_split (suc k) m n ∙ ap (λ (x : ℕ). from (suc k) m ++ from x n) (suc-add k m ∙ sym (add-suc k m)))

-- the first, and those behind it
pub from_next : (k n : ℕ) → k < n → from k (n - k) ≡ k ∷ from (k + 1) (n - (k + 1))
from_next k n h = let e : n - k ≡ suc (n - (k + 1)) = omega arith in let d : suc k ≡ k + 1 = omega arith in ap (from k) e ∙ ap (λ (x : ℕ). k ∷ from x (n - (k + 1))) d

-- the numbers below n + 1 are those below n, and n
pub up_to-more : (n : ℕ) → up_to (n + 1) ≡ up_to n ++ (n ∷ [])
up_to-more n = from_split 0 n 1 ∙ ap (λ (x : ℕ). up_to n ++ (x ∷ [])) (zero-add n)

-- ---- a list for each member

module _ {A C : Type 0} where
  -- lists that agree at each member
  pub each_ext : (f g : A → List C) (l : List A) → ((a : A) → a is_in l → f a ≡ g a) → each f l ≡ each g l
  each_ext f g [] h = refl
  each_ext f g (x ∷ xs) h = ap₂ ◌++◌ (h x (Memᴰ.head refl)) (each_ext f g xs (λ a m. h a (Memᴰ.tail m)))

  -- lists with no member
  pub each_none : (f : A → List C) (l : List A) → ((a : A) → a is_in l → f a ≡ []) → each f l ≡ []
  each_none f [] h = refl
  each_none f (x ∷ xs) h = ap₂ ◌++◌ (h x (Memᴰ.head refl)) (each_none f xs (λ a m. h a (Memᴰ.tail m)))

  -- of one list and then another
  pub each_append : (f : A → List C) (s t : List A) → each f (s ++ t) ≡ each f s ++ each f t
  each_append f [] t = refl
  each_append f (x ∷ s) t = ap (λ (l : List C). f x ++ l) (each_append f s t) ∙ sym (append_assoc (f x) (each f s) (each f t))

  -- of one member more behind
  pub each_last : (f : A → List C) (l : List A) (x : A) → each f (l ++ (x ∷ [])) ≡ each f l ++ f x
  each_last f l x = each_append f l (x ∷ []) ∙ ap (λ (k : List C). each f l ++ k) (append-nil (f x))

  -- of one member where a test passes
  pub each-only : (f : A → List C) (b : Bool) (a : A) → each f (only b a) ≡ cond b (f a) []
  each-only f true a = append-nil (f a)
  each-only f false a = refl

  -- of a list that stands there where a test passes
  pub each-cond : (f : A → List C) (b : Bool) (l : List A) → each f (cond b l []) ≡ cond b (each f l) []
  each-cond f true l = refl
  each-cond f false l = refl

  -- the number of members in all
  pub length-each : (f : A → List C) (l : List A) → length (each f l) ≡ sum (λ a. length (f a)) l
  length-each f [] = refl
  length-each f (x ∷ xs) = length-append (f x) (each f xs) ∙ ap (λ (n : ℕ). length (f x) + n) (length-each f xs)

module _ {A B C : Type 0} where
  -- of lists for each member of another
  pub each-each : (f : B → List C) (g : A → List B) (l : List A) → each f (each g l) ≡ each (λ a. each f (g a)) l
  each-each f g [] = refl
  each-each f g (x ∷ xs) = each_append f (g x) (each g xs) ∙ ap (λ (l : List C). each f (g x) ++ l) (each-each f g xs)

  -- of the images of a list's members
  pub each_map : (f : B → List C) (g : A → B) (l : List A) → each f (map g l) ≡ each (λ a. f (g a)) l
  each_map f g [] = refl
  each_map f g (x ∷ xs) = ap (λ (l : List C). f (g x) ++ l) (each_map f g xs)

module _ {C : Type 0} (f : ℕ → List C) where
  -- a loop over the numbers below a bound: one number more
  pub each_more : (n : ℕ) → each f (up_to (n + 1)) ≡ each f (up_to n) ++ f n
  each_more n = ap (each f) (up_to-more n) ∙ each_last f (up_to n) n

  -- numbers that give nothing may be left out at the end
  pub each_fewer : (m n : ℕ) → m ≤ n → ((i : ℕ) → m ≤ i → i < n → f i ≡ []) → each f (up_to n) ≡ each f (up_to m)
  each_fewer m n l h =
      let e : n ≡ m + (n - m) = omega arith in
      ap (λ (x : ℕ). each f (up_to x)) e
      ∙ ap (each f) (from_split 0 m (n - m))
      ∙ each_append f (up_to m) (from (0 + m) (n - m))
      ∙ ap (λ (s : List C). each f (up_to m) ++ s) (each_none f (from (0 + m) (n - m)) (λ i k. let t = from_out (0 + m) (n - m) k in h i (omega (arith, t.0)) (omega (arith, t.1))))
      ∙ append-nil (each f (up_to m))

  -- of a run that begins further on
  each-moved : (a k n : ℕ) → each f (from (a + k) n) ≡ each (λ o. f (a + o)) (from k n)
  each-moved a k zero = refl
  each-moved a k (suc n) = ap (λ (l : List C). f (a + k) ++ l) (ap (λ (x : ℕ). each f (from x n)) (sym (add-suc a k)) ∙ each-moved a (suc k) n)

  -- w numbers for each of a row
  pub each_rows : (w k n : ℕ) → each f (from (w * k) (w * n)) ≡ each (λ j. each (λ o. f (w * j + o)) (up_to w)) (from k n)
  each_rows w k zero = ap (λ (x : ℕ). each f (from (w * k) x)) (mul-zero w)
  each_rows w k (suc n) =
      ap (λ (x : ℕ). each f (from (w * k) x)) (mul-suc w n ∙ add_comm (w * n) w)
      ∙ ap (each f) (from_split (w * k) w (w * n))
      ∙ each_append f (from (w * k) w) (from (w * k + w) (w * n))
      ∙ ap₂ ◌++◌ (ap (λ (x : ℕ). each f (from x w)) (sym (add-zero (w * k))) ∙ each-moved (w * k) 0 w) (ap (λ (x : ℕ). each f (from x (w * n))) (sym (mul-suc w k)) ∙ each_rows w (suc k) n)

-- runs that agree at each number
pub each_same : {C : Type 0} (f g : ℕ → List C) (k n : ℕ) → ((i : ℕ) → k ≤ i → i < k + n → f i ≡ g i) → each f (from k n) ≡ each g (from k n)
each_same f g k n h = each_ext f g (from k n) (λ i m. let t = from_out k n m in h i t.0 t.1)

-- ---- sums

module _ {A : Type 0} where
  -- numbers that agree at each member
  pub sum_ext : (f g : A → ℕ) (l : List A) → ((a : A) → a is_in l → f a ≡ g a) → sum f l ≡ sum g l
  sum_ext f g [] h = refl
  sum_ext f g (x ∷ xs) h = ap₂ ◌+◌ (h x (Memᴰ.head refl)) (sum_ext f g xs (λ a m. h a (Memᴰ.tail m)))

  -- one number for each member
  pub sum-each : (n : ℕ) (f : A → ℕ) (l : List A) → ((a : A) → a is_in l → f a ≡ n) → sum f l ≡ n * length l
  sum-each n f [] h = omega arith
  sum-each n f (x ∷ xs) h = let e = h x (Memᴰ.head refl) in let r = sum-each n f xs (λ a m. h a (Memᴰ.tail m)) in omega arith

  -- a number for each member that passes a test
  pub sum_kept : (n : ℕ) (f : A → Bool) (l : List A) → sum (λ a. cond (f a) n 0) l ≡ n * length (keep f l)
  sum_kept n f [] = omega arith
  sum_kept n f (x ∷ xs) = go (f x) (sum_kept n f xs)
    where
      go : (b : Bool) → sum (λ a. cond (f a) n 0) xs ≡ n * length (keep f xs) → cond b n 0 + sum (λ a. cond (f a) n 0) xs ≡ n * length (cond b (x ∷ keep f xs) (keep f xs))
      go true e = omega arith
      go false e = omega arith

  -- at most one number for each member
  pub sum-most : (n : ℕ) (f : A → ℕ) (l : List A) → ((a : A) → a is_in l → f a ≤ n) → sum f l ≤ n * length l
  sum-most n f [] h = omega arith
  sum-most n f (x ∷ xs) h = let e = h x (Memᴰ.head refl) in let r = sum-most n f xs (λ a m. h a (Memᴰ.tail m)) in omega arith

  -- of one list and then another
  pub sum-append : (f : A → ℕ) (s t : List A) → sum f (s ++ t) ≡ sum f s + sum f t
  sum-append f [] t = sym (zero-add (sum f t))
  sum-append f (x ∷ s) t = let e = sum-append f s t in omega arith

  -- two numbers for each member
  pub sum_both : (f g : A → ℕ) (l : List A) → sum f l + sum g l ≡ sum (λ a. f a + g a) l
  sum_both f g [] = refl
  sum_both f g (x ∷ xs) = let e = sum_both f g xs in omega arith

-- a loop over the numbers below a bound: one number more
pub sum_more : (f : ℕ → ℕ) (n : ℕ) → sum f (up_to (n + 1)) ≡ sum f (up_to n) + f n
sum_more f n = ap (sum f) (up_to-more n) ∙ sum-append f (up_to n) (n ∷ []) ∙ ap (λ (k : ℕ). sum f (up_to n) + k) (add-zero (f n))

-- ---- the members that pass a test

module _ {A : Type 0} where
  -- they are not more
  pub keep-most : (f : A → Bool) (l : List A) → length (keep f l) ≤ length l
  keep-most f [] = omega arith
  keep-most f (x ∷ xs) = go (f x) (keep-most f xs)
    where
      go : (b : Bool) → length (keep f xs) ≤ length xs → length (cond b (x ∷ keep f xs) (keep f xs)) ≤ length (x ∷ xs)
      go true h = omega arith
      go false h = omega arith

  -- all, where each passes
  pub keep_all : (f : A → Bool) (l : List A) → ((a : A) → a is_in l → Is (f a)) → keep f l ≡ l
  keep_all f [] h = refl
  keep_all f (x ∷ xs) h = ap₂ (λ (b : Bool) (k : List A). cond b (x ∷ k) k) (h x (Memᴰ.head refl)) (keep_all f xs (λ a m. h a (Memᴰ.tail m)))

  keep-end : (f : A → Bool) (l : List A) (x : A) → keep f (l ++ (x ∷ [])) ≡ keep f l ++ only (f x) x
  keep-end f [] x = one (f x)
    where
      one : (b : Bool) → cond b (x ∷ []) [] ≡ only b x
      one true = refl
      one false = refl
  keep-end f (y ∷ l) x = go (f y) (keep-end f l x)
    where
      go : (b : Bool) → keep f (l ++ (x ∷ [])) ≡ keep f l ++ only (f x) x → cond b (y ∷ keep f (l ++ (x ∷ []))) (keep f (l ++ (x ∷ []))) ≡ cond b (y ∷ keep f l) (keep f l) ++ only (f x) x
      go true e = ap (λ (k : List A). y ∷ k) e
      go false e = e

-- a loop over the numbers below a bound: one number more
pub keep-more : (f : ℕ → Bool) (n : ℕ) → keep f (up_to (n + 1)) ≡ keep f (up_to n) ++ only (f n) n
keep-more f n = ap (keep f) (up_to-more n) ∙ keep-end f (up_to n) n

-- ---- sorting

module _ {A B : Type 0} {R : A → A → Type 0} {Q : B → B → Type 0} where
  -- the images of an ascending list's members ascend
  pub map-rising : (f : A → B) {l : List A} → ((x y : A) → x is_in l → y is_in l → R x y → Q (f x) (f y)) → Rising R l → Rising Q (map f l)
  map-rising f h none_left = none_left
  map-rising f h (and-then {x = x} {xs = xs} e r) =
      and-then {x = f x} (λ y m. let t = map-out f xs m in rw t.2 (h x t.0 (Memᴰ.head refl) (Memᴰ.tail t.1) (e t.0 t.1)))
      (map-rising f (λ x y mx my. h x y (Memᴰ.tail mx) (Memᴰ.tail my)) r)

module _ {A : Type 0} (lt : A → A → Bool) where
  insert-most : (x : A) (l : List A) → length (insert lt x l) ≤ suc (length l)
  insert-most x [] = omega arith
  insert-most x (y ∷ ys) = go (lt x y) (lt y x) (insert-most x ys)
    where
      go : (b c : Bool) → length (insert lt x ys) ≤ suc (length ys) → length (cond b (x ∷ y ∷ ys) (cond c (y ∷ insert lt x ys) (y ∷ ys))) ≤ suc (length (y ∷ ys))
      go true c h = omega arith
      go false true h = omega arith
      go false false h = omega arith

  -- sorting makes no list longer
  pub sort-most : (l : List A) → length (sort lt l) ≤ length l
  sort-most [] = omega arith
  sort-most (x ∷ xs) = let h = insert-most x (sort lt xs) in let r = sort-most xs in omega arith

module _ {A : Type 0} (lt : A → A → Bool) (S : Strict lt) where
  -- an ascending list is what sorting makes of its members
  pub sort-is : (s : List A) {t : List A} → Rising (Before lt) t → ((x : A) → x is_in s → x is_in t) → ((x : A) → x is_in t → x is_in s) → sort lt s ≡ t
  sort-is s r f g = rising_ext S.apart (sort-rising lt S.chain s) r (λ x m. f x (sort-out lt s m)) (λ x m. sort_in lt S (g x m))

  -- lists with the same members are sorted alike
  pub sort-same : (s t : List A) → ((x : A) → x is_in s → x is_in t) → ((x : A) → x is_in t → x is_in s) → sort lt s ≡ sort lt t
  sort-same s t f g = sort-is s (sort-rising lt S.chain t) (λ x m. sort_in lt S (f x m)) (λ x m. g x (sort-out lt t m))

module _ {A B : Type 0} (less : A → A → Bool) (T : Strict less) (lt : B → B → Bool) (S : Strict lt) where
  -- sorting images is sorting the members, where the order is the same
  pub sort-map : (f : A → B) → ((x y : A) → Is (less x y) → Is (lt (f x) (f y))) → (l : List A) → sort lt (map f l) ≡ map f (sort less l)
  sort-map f h l =
      sort-is lt S (map f l) (map-rising f (λ x y mx my. h x y) (sort-rising less T.chain l))
      (λ y m. let t = map-out f l m in rw t.2 (map_in f (sort_in less T t.1)))
      (λ y m. let t = map-out f (sort less l) m in rw t.2 (map_in f (sort-out less l t.1)))
