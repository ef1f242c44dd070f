-- One side of a policy, users or resources: who there is, and what is known of each by attribute.
-- Assumes nothing.
use Rattle.std.specs.Prelude.{ℕ, ◌<◌, Bool, List, ◌⊎◌, ◌≡◌, refl}
use Rattle.std.proofs.Math.Dec.{ltb}
use Rattle.std.proofs.lemmas.Bool.{false≢true}
use mathlib.Core.List.Memᴰ
use Rattle.std.proofs.Math.Logic.{inl, inr, ⊎_elim}
use Rattle.std.proofs.Math.Option.{Option, none, some}
use Rattle.std.proofs.Common.{sym, ap}
use Rattle.policy.specs.Covering.{known, all_know, values_of}
use Rattle.policy.specs.Rules.{Side, admits, meets, own, attrs_of}
use Rattle.sets.specs.Sorted.{Rising}
use Rattle.sets.specs.SortedLaws.{Before, sort_in, sort-out, sort-rising, numbers}
use Rattle.sets.specs.Tests.{Is, ◌is_in◌, keep, each, up_to, is_some, only}
use Rattle.sets.specs.TestLaws.{all-out, all_in, any_in, any_out, keep_in, keep_out, each_in, each-out, up_to_in, up_to-out, is_some-out, only_in, only_out}

-- what the theory asks of `below`
pub record Ordered (S : Side) : Type 0 where
  pub self : (a x : ℕ) → Is (S.below a x x)
  pub chain : (a x y z : ℕ) → Is (S.below a x y) → Is (S.below a y z) → Is (S.below a x z)

pub known_out : (o : Option ℕ) {x : ℕ} → x is_in known o → o ≡ some x
known_out none m = absurd (Memᴰ.not-nil m)
known_out (some y) (Memᴰ.head e) = ap some (sym e)
known_out (some y) (Memᴰ.tail m) = absurd (Memᴰ.not-nil m)

pub admits-out : (le : ℕ → ℕ → Bool) (vs : List ℕ) (o : Option ℕ) → Is (admits le vs o) → (x : ℕ) × (o ≡ some x) × (v : ℕ) × (v is_in vs) × Is (le v x)
admits-out le vs none h = absurd (false≢true h)
admits-out le vs (some x) h = let t = any_out (λ v. le v x) vs h in (x, refl, t.0, t.1, t.2)

pub admits_in : (le : ℕ → ℕ → Bool) {vs : List ℕ} {o : Option ℕ} {x v : ℕ} → o ≡ some x → v is_in vs → Is (le v x) → Is (admits le vs o)
admits_in le {vs} {o} {x} {v} e m h = rw e (any_in (λ v. le v x) m h)

module _ (S : Side) where
  pub values-in : (W : ℕ → Bool) (a : ℕ) {w x : ℕ} → w < S.count → Is (W w) → S.value a w ≡ some x → x is_in values_of S W a
  unfolding values_of
  values-in W a l h e = sort_in ltb numbers (each_in (λ w. known (S.value a w)) (keep_in W (up_to_in l) h) (rw e (Memᴰ.head refl)))

  pub values-out : (W : ℕ → Bool) (a : ℕ) {x : ℕ} → x is_in values_of S W a → (w : ℕ) × (w < S.count) × Is (W w) × (S.value a w ≡ some x)
  unfolding values_of
  values-out W a m =
      let t = each-out (λ w. known (S.value a w)) (keep W (up_to S.count)) (sort-out ltb _ m) in
      let k = keep_out W (up_to S.count) t.1 in
      (t.0, up_to-out S.count k.0, k.1, known_out (S.value a t.0) t.2)

  pub values-rising : (W : ℕ → Bool) (a : ℕ) → Rising (Before ltb) (values_of S W a)
  unfolding values_of
  values-rising W a = sort-rising ltb numbers.chain (each (λ w. known (S.value a w)) (keep W (up_to S.count)))

  -- everybody of the set meets a conjunct
  abbrev pub AllMeet : (ℕ → Bool) → ℕ → List ℕ → Type 0
  AllMeet W a vs = (w : ℕ) → w < S.count → Is (W w) → Is (meets S a vs w)

  pub side-known : (W : ℕ → Bool) (a : ℕ) (vs : List ℕ) → AllMeet W a vs → Is (all_know S W a)
  unfolding all_know meets
  side-known W a vs h = all_in (λ w. is_some (S.value a w)) (keep W (up_to S.count)) one
    where
      one : (w : ℕ) → w is_in keep W (up_to S.count) → Is (is_some (S.value a w))
      one w m =
          let k = keep_out W (up_to S.count) m in
          let t = admits-out (S.below a) vs (S.value a w) (h w (up_to-out S.count k.0) k.1) in
          rw t.1

  module _ (O : Ordered S) where
    -- the conjunct of a set's values is met by each of its members
    pub side-self : (W : ℕ → Bool) (a : ℕ) → Is (all_know S W a) → AllMeet W a (values_of S W a)
    unfolding all_know meets
    side-self W a h w l p =
        let t = is_some-out (S.value a w) (all-out (λ w. is_some (S.value a w)) h (keep_in W (up_to_in l) p)) in
        admits_in (S.below a) t.1 (values-in W a l p t.1) (O.self a t.0)

    -- and whoever meets it meets each conjunct that all members meet
    pub side-least : (W : ℕ → Bool) (a : ℕ) (vs : List ℕ) → AllMeet W a vs → (w : ℕ) → Is (meets S a (values_of S W a) w) → Is (meets S a vs w)
    unfolding meets
    side-least W a vs h w p =
        let t = admits-out (S.below a) (values_of S W a) (S.value a w) p in
        let b = values-out W a t.3 in
        let s = admits-out (S.below a) vs (S.value a b.0) (h b.0 b.1 b.2) in
        admits_in (S.below a) t.1 s.3 (O.chain a s.2 t.2 t.0 (same-value s.1 b.3 s.4) t.4)
      where
        same-value : {o : Option ℕ} {x y v : ℕ} → o ≡ some x → o ≡ some y → Is (S.below a v x) → Is (S.below a v y)
        same-value {x = x} {y = y} p q r = let e : x ≡ y = cc in rw e at r

-- ---- the attributes that a rule may use

module _ (S : Side) (b : Bool) where
  -- they are those declared, and the 255 where it may be used
  pub attribute_cases : (a : ℕ) → a is_in attrs_of S b → (a < S.attrs) ⊎ (Is b × (a ≡ own))
  unfolding attrs_of
  attribute_cases a m = ⊎_elim (λ k. inl (up_to-out S.attrs k)) (λ k. inr (only_out b k)) (Memᴰ.append_cases (up_to S.attrs) m)

  pub declared_in : (a : ℕ) → a < S.attrs → a is_in attrs_of S b
  unfolding attrs_of
  declared_in a l = Memᴰ.append_left (only b own) (up_to_in l)

  pub own_in : Is b → own is_in attrs_of S b
  unfolding attrs_of
  own_in h = Memᴰ.append_right (up_to S.attrs) (only_in own h)
