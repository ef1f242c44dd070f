-- The laws of Tests: what a passed test says, and how to pass one.
-- Assumes nothing.
use Rattle.std.specs.Prelude.{ℕ, zero, suc, ◌+◌, ◌≤◌, ◌<◌, eqb, ltb, length, get_or, Bool, true, false, cond, ◌&&◌, ◌||◌, not, List, [], ◌∷◌, map, ◌⊎◌, ◌≡◌, refl}
use Rattle.std.proofs.Common.{eqb-true, eq-eqb, ltb-true, lt-ltb, inl, inr, sym, ap, ap₂, ◌∙◌, add-zero, add-suc, suc-add, arith}
use Rattle.std.proofs.lemmas.Bool.{eqb-false, false≢true}
use Rattle.std.specs.Bool.{beq}
use mathlib.Core.List.Memᴰ
use Rattle.std.proofs.Math.Option.{Option, none, some}
use Rattle.sets.specs.Tests.{Is, imp, iff, ◌is_in◌, all, any, keep, each, only, from, up_to, elem, is_some}

pub and_in : {a b : Bool} → Is a → Is b → Is (a && b)
and_in {a} {b} p q = rw p q

pub and_l : (a b : Bool) → Is (a && b) → Is a
and_l true b h = refl
and_l false b h = h

pub and_r : (a b : Bool) → Is (a && b) → Is b
and_r true b h = h
and_r false b h = absurd (false≢true h)

pub or_l : {a : Bool} (b : Bool) → Is a → Is (a || b)
or_l {a} b p = rw p

pub or_r : (a : Bool) {b : Bool} → Is b → Is (a || b)
or_r true q = refl
or_r false q = q

pub or_out : (a b : Bool) → Is (a || b) → Is a ⊎ Is b
or_out true b h = inl refl
or_out false b h = inr h

pub never {ℓ} : {A : Type ℓ} {b : Bool} → Is b → b ≡ false → A
never p q = absurd (false≢true (sym q ∙ p))

-- a test passes or fails
pub test {ℓ} : {X : Type ℓ} (b : Bool) → (Is b → X) → (b ≡ false → X) → X
test true f g = f refl
test false f g = g refl

pub fails : (b : Bool) → (Is b → ⊥) → b ≡ false
fails true h = absurd (h refl)
fails false h = refl

-- two tests that pass together are equal
pub same : (a b : Bool) → (Is a → Is b) → (Is b → Is a) → a ≡ b
same true b f g = sym (f refl)
same false true f g = g refl
same false false f g = refl

pub imp_in : (a b : Bool) → (Is a → Is b) → Is (imp a b)
imp_in true b f = f refl
imp_in false b f = refl

pub imp-out : {a : Bool} (b : Bool) → Is (imp a b) → Is a → Is b
imp-out {a} b h p = rw p at h

pub iff_in : (a b : Bool) → a ≡ b → Is (iff a b)
iff_in true b h = sym h
iff_in false true h = h
iff_in false false h = refl

pub iff-out : (a b : Bool) → Is (iff a b) → a ≡ b
iff-out true b h = sym h
iff-out false true h = h
iff-out false false h = refl

module _ {ℓ} {A : Type ℓ} where
  pub all-out : (f : A → Bool) {a : A} {l : List A} → Is (all f l) → a is_in l → Is (f a)
  all-out f h (Memᴰ.head {x = x} {xs = xs} e) = rw e (and_l (f x) (all f xs) h)
  all-out f h (Memᴰ.tail {x = x} {xs = xs} m) = all-out f (and_r (f x) (all f xs) h) m

  pub all_in : (f : A → Bool) (l : List A) → ((a : A) → a is_in l → Is (f a)) → Is (all f l)
  all_in f [] h = refl
  all_in f (x ∷ xs) h = and_in (h x (Memᴰ.head refl)) (all_in f xs (λ a m. h a (Memᴰ.tail m)))

  pub any_in : (f : A → Bool) {a : A} {l : List A} → a is_in l → Is (f a) → Is (any f l)
  any_in f (Memᴰ.head {x = x} {xs = xs} e) h = or_l (any f xs) (rw e at h)
  any_in f (Memᴰ.tail {x = x} m) h = or_r (f x) (any_in f m h)

  pub any_out : (f : A → Bool) (l : List A) → Is (any f l) → (a : A) × (a is_in l) × Is (f a)
  any_out f [] h = absurd (false≢true h)
  any_out f (x ∷ xs) h = go (or_out (f x) (any f xs) h) (any_out f xs)
    where
      go : Is (f x) ⊎ Is (any f xs) → (Is (any f xs) → (a : A) × (a is_in xs) × Is (f a)) → (a : A) × (a is_in (x ∷ xs)) × Is (f a)
      go (inl p) r = (x, Memᴰ.head refl, p)
      go (inr q) r = let t = r q in (t.0, Memᴰ.tail t.1, t.2)

  pub keep_in : (f : A → Bool) {a : A} {l : List A} → a is_in l → Is (f a) → a is_in keep f l
  keep_in f (Memᴰ.head {x = x} {xs = xs} e) h = rw (rw e at h) (Memᴰ.head e)
  keep_in f (Memᴰ.tail {x = x} {xs = xs} m) h = go (f x) (keep_in f m h)
    where
      go : {a : A} (b : Bool) → a is_in keep f xs → a is_in cond b (x ∷ keep f xs) (keep f xs)
      go true m = Memᴰ.tail m
      go false m = m

  pub keep_out : (f : A → Bool) (l : List A) {a : A} → a is_in keep f l → (a is_in l) × Is (f a)
  keep_out f [] m = absurd (Memᴰ.not-nil m)
  keep_out f (x ∷ xs) {a} m = go (f x) refl (keep_out f xs) m
    where
      down : (a is_in keep f xs → (a is_in xs) × Is (f a)) → a is_in keep f xs → (a is_in (x ∷ xs)) × Is (f a)
      down r k = (Memᴰ.tail (r k).0, (r k).1)

      first : Is (f x) → (a is_in keep f xs → (a is_in xs) × Is (f a)) → (a ≡ x) ⊎ (a is_in keep f xs) → (a is_in (x ∷ xs)) × Is (f a)
      first e r (inl q) = (Memᴰ.head q, rw q e)
      first e r (inr k) = down r k

      go : (b : Bool) → f x ≡ b → (a is_in keep f xs → (a is_in xs) × Is (f a)) → a is_in cond b (x ∷ keep f xs) (keep f xs) → (a is_in (x ∷ xs)) × Is (f a)
      go true e r k = first e r (Memᴰ.cases_cons k)
      go false e r k = down r k

module _ {ℓ κ} {A : Type ℓ} {B : Type κ} where
  pub each_in : (f : A → List B) {a : A} {b : B} {l : List A} → a is_in l → b is_in f a → b is_in each f l
  each_in f {b = b} (Memᴰ.head {x = x} {xs = xs} e) h = Memᴰ.append_left (each f xs) (rw e at h)
  each_in f (Memᴰ.tail {x = x} {xs = xs} m) h = Memᴰ.append_right (f x) (each_in f m h)

  pub each-out : (f : A → List B) (l : List A) {b : B} → b is_in each f l → (a : A) × (a is_in l) × (b is_in f a)
  each-out f [] m = absurd (Memᴰ.not-nil m)
  each-out f (x ∷ xs) {b} m = go (each-out f xs) (Memᴰ.append_cases (f x) m)
    where
      go : (b is_in each f xs → (a : A) × (a is_in xs) × (b is_in f a)) → (b is_in f x) ⊎ (b is_in each f xs) → (a : A) × (a is_in (x ∷ xs)) × (b is_in f a)
      go r (inl k) = (x, Memᴰ.head refl, k)
      go r (inr k) = let t = r k in (t.0, Memᴰ.tail t.1, t.2)

pub only_in {ℓ} : {A : Type ℓ} {b : Bool} (a : A) → Is b → a is_in only b a
only_in a h = rw h (Memᴰ.head refl)

pub only_out {ℓ} : {A : Type ℓ} (b : Bool) {a c : A} → c is_in only b a → Is b × (c ≡ a)
only_out true (Memᴰ.head e) = (refl, e)
only_out true (Memᴰ.tail m) = absurd (Memᴰ.not-nil m)
only_out false m = absurd (Memᴰ.not-nil m)

pub from_in : (k n i : ℕ) → k ≤ i → i < k + n → i is_in from k n
from_in k zero i h l = absurd (omega arith)
from_in k (suc n) i h l = test (eqb i k) (λ e. Memᴰ.head (eqb-true i k e)) (λ e. Memᴰ.tail (from_in (suc k) n i (let d = eqb-false i k e in omega arith) (omega arith)))

pub from_out : (k n : ℕ) {i : ℕ} → i is_in from k n → (k ≤ i) × (i < k + n)
from_out k zero m = absurd (Memᴰ.not-nil m)
from_out k (suc n) (Memᴰ.head e) = omega arith
from_out k (suc n) (Memᴰ.tail m) = let h = from_out (suc k) n m in omega arith

pub up_to_in : {n i : ℕ} → i < n → i is_in up_to n
up_to_in {n} {i} h = from_in 0 n i (omega arith) (omega arith)

pub up_to-out : (n : ℕ) {i : ℕ} → i is_in up_to n → i < n
up_to-out n m = let h = from_out 0 n m in omega arith

pub elem_in : {a : ℕ} {l : List ℕ} → a is_in l → Is (elem a l)
elem_in {a} m = any_in (eqb a) m (eq-eqb a a refl)

pub elem_out : (a : ℕ) (l : List ℕ) → Is (elem a l) → a is_in l
elem_out a l h = let t = any_out (eqb a) l h in rw (eqb-true a t.0 t.2) t.1

module _ {ℓ κ} {A : Type ℓ} {B : Type κ} where
  pub map_in : (f : A → B) {a : A} {l : List A} → a is_in l → f a is_in map f l
  map_in f (Memᴰ.head e) = Memᴰ.head (ap f e)
  map_in f (Memᴰ.tail m) = Memᴰ.tail (map_in f m)

  pub map-out : (f : A → B) (l : List A) {b : B} → b is_in map f l → (a : A) × (a is_in l) × (b ≡ f a)
  map-out f [] m = absurd (Memᴰ.not-nil m)
  map-out f (x ∷ xs) {b} m = go (map-out f xs) (Memᴰ.cases_cons m)
    where
      go : (b is_in map f xs → (a : A) × (a is_in xs) × (b ≡ f a)) → (b ≡ f x) ⊎ (b is_in map f xs) → (a : A) × (a is_in (x ∷ xs)) × (b ≡ f a)
      go r (inl e) = (x, Memᴰ.head refl, e)
      go r (inr k) = let t = r k in (t.0, Memᴰ.tail t.1, t.2)

-- the member at a place
pub get_d_in {ℓ} : {A : Type ℓ} (l : List A) (d : A) (i : ℕ) → i < length l → get_or l i d is_in l
get_d_in [] d i h = absurd (omega arith)
get_d_in (x ∷ xs) d zero h = Memᴰ.head refl
get_d_in (x ∷ xs) d (suc i) h = Memᴰ.tail (get_d_in xs d i (omega arith))

pub not_in : (b : Bool) → b ≡ false → Is (not b)
not_in b h = rw h

-- a test of each member is a test of each place
pub any_places {ℓ} : {A : Type ℓ} (f : A → Bool) (d : A) (k : ℕ) (l : List A) (g : ℕ → A) → ((i : ℕ) → i < length l → g (k + i) ≡ get_or l i d) → any (λ i. f (g i)) (from k (length l)) ≡ any f l
any_places f d k [] g h = refl
any_places f d k (x ∷ xs) g h =
    let e : g k ≡ x = rw add-zero at (h 0 (omega arith)) in
    ap₂ ◌||◌ (ap f e) (any_places f d (suc k) xs g (λ i l. rw (suc-add, ← add-suc) (h (suc i) (omega arith))))

-- tests that agree at each member
pub any_ext {ℓ} : {A : Type ℓ} (f g : A → Bool) (l : List A) → ((a : A) → a is_in l → f a ≡ g a) → any f l ≡ any g l
any_ext f g [] h = refl
any_ext f g (x ∷ xs) h = ap₂ ◌||◌ (h x (Memᴰ.head refl)) (any_ext f g xs (λ a m. h a (Memᴰ.tail m)))

pub is_some-out {ℓ} : {A : Type ℓ} (o : Option A) → Is (is_some o) → (x : A) × (o ≡ some x)
is_some-out none h = absurd (false≢true h)
is_some-out (some x) h = (x, refl)

-- three tests pass together
pub and_three : (a b c : Bool) → Is (a && b && c) → Is a × Is b × Is c
and_three a b c h = let p = and_l (a && b) c h in (and_l a b p, and_r a b p, and_r (a && b) c h)

-- a third test is the same where the first two pass
pub and_third : (a b c d : Bool) → (Is a → Is b → c ≡ d) → (a && (b && c)) ≡ (a && (b && d))
and_third true true c d h = h refl refl
and_third true false c d h = refl
and_third false b c d h = refl

-- tests whose contraries are the same
pub not_same : (a b : Bool) → not a ≡ not b → a ≡ b
not_same true true h = refl
not_same true false h = sym h
not_same false true h = sym h
not_same false false h = refl

-- the equality of the code is the equivalence of tests
pub beq_iff : (a b : Bool) → beq a b ≡ iff a b
beq_iff true true = refl
beq_iff true false = refl
beq_iff false true = refl
beq_iff false false = refl

pub eqb_turned : (a b : ℕ) → eqb a b ≡ eqb b a
eqb_turned a b = same (eqb a b) (eqb b a) (λ h. eq-eqb b a (sym (eqb-true a b h))) (λ h. eq-eqb a b (sym (eqb-true b a h)))

-- a number but the last is below the next bound where it is below this
pub below_next : (a n : ℕ) → (a ≡ n → ⊥) → ltb a n ≡ ltb a (n + 1)
below_next a n h = same (ltb a n) (ltb a (n + 1)) (λ k. lt-ltb a (n + 1) (let l = ltb-true a n k in omega arith)) (λ k. lt-ltb a n (let l = ltb-true a (n + 1) k in omega arith))
