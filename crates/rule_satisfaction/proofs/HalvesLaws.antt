-- The places of a rule's summary by kind: which are those of sets, and that the two halves of the test are the whole.
-- Assumes nothing.
use Rattle.std.specs.Prelude.{ℕ, ◌+◌, ◌*◌, ◌/◌, ◌%◌, ◌-◌, ◌^◌, ◌≤◌, ◌<◌, eqb, Bool, true, false, ◌&&◌, ◌||◌, not, List, ◌≡◌, refl}
use Rattle.std.proofs.Common.{eqb-true, ne_eqb, ltb-true, ltb-false, lt-ltb, le-ltb, ap₂, ◌∙◌, subst, arith}
use Rattle.std.proofs.lemmas.Bool.{eqb-false}
use Rattle.std.proofs.Math.Dec.{ltb}
use Rattle.std.proofs.Math.ListN.{get_or}
use Rattle.std.proofs.Math.Pow.{shl_exact}
use Rattle.std.proofs.Math.Bool.{and-false, or-true, or-false}
use Rattle.std.proofs.Math.Path.{sym, ap}
use Rattle.role_record.specs.Places.{set_place}
use Rattle.role_record.specs.PlacesLaws.{set_own_user, set_own_resource, set-declared}
use Rattle.rule_conjuncts.specs.Summary.{met_by_all}
use Rattle.rule_satisfaction.specs.Satisfaction.{set_places, asked_as}
use Rattle.sets.specs.ListLaws.{all_ext}
use Rattle.sets.specs.MaskLaws.{mask_lt, bit-mask_of, mask_same, mask_wide}
use Rattle.sets.specs.Sets.{narrowing, bit, mask_of}
use Rattle.sets.specs.SetLaws.{bit_mask, bit_up, bit-under}
use Rattle.sets.specs.Tests.{imp, iff, all, up_to}
use Rattle.sets.specs.TestLaws.{and_in, and_l, and_r, test, same, imp_in, imp-out, all-out, all_in, up_to-out, not_in}

-- ---- the places of sets

module _ (kinds : List ℕ) where
  -- a place of users: an attribute of that kind, or the 255
  user-place : (i : ℕ) → i < 7 → ((ltb i 6 && bit (get_or kinds 0 0) i) || eqb i 6) ≡ set_place kinds i
  user-place i l = test (eqb i 6)
      (λ q. rw q (or-true (ltb i 6 && bit (get_or kinds 0 0) i)) ∙ set_own_user kinds i (eqb-true i 6 q))
      (λ q. let n = eqb-false i 6 q in
      let k : i < 6 = omega arith in
      let d : i / 7 ≡ 0 = omega arith in
      let e : i % 7 ≡ i = omega arith in
      set-declared kinds i ((ltb i 6 && bit (get_or kinds 0 0) i) || eqb i 6) n (λ z. omega arith)
      (rw (q, lt-ltb i 6 k, d, e) (or-false (bit (get_or kinds 0 0) i))))

  -- a place of resources: an attribute of that kind
  resource-place : (j : ℕ) → (ltb j 6 && bit (get_or kinds 1 0) j) ≡ (ltb (7 + j) 14 && set_place kinds (7 + j))
  resource-place j = test (ltb j 6)
      (λ q. let k = ltb-true j 6 q in
      let d : (7 + j) / 7 ≡ 1 = omega arith in
      let e : (7 + j) % 7 ≡ j = omega arith in
      rw (q, lt-ltb (7 + j) 14 (omega arith)) (set-declared kinds (7 + j) (bit (get_or kinds 1 0) j) (λ z. omega arith) (λ z. omega arith) (rw (d, e) refl)))
      (λ q. let k = ltb-false j 6 q in
      rw q (test (eqb j 6)
      (λ p. let h = eqb-true j 6 p in sym (ap (λ (b : Bool). ltb (7 + j) 14 && b) (sym (set_own_resource kinds (7 + j) (λ z. omega arith) (omega arith))) ∙ and-false (ltb (7 + j) 14)))
      (λ p. let h = eqb-false j 6 p in sym (ap (λ (b : Bool). b && set_place kinds (7 + j)) (le-ltb (7 + j) 14 (omega arith))))))

  -- `union(users, resources << 7)`
  pub places_joined : (a u b r : ℕ) → a ≡ mask_of 6 (bit (get_or kinds 0 0)) → u ≡ mask_of 64 (λ k. bit a k || eqb k 6) → b ≡ mask_of 6 (bit (get_or kinds 1 0))
      → r ≡ mask_of 64 (λ k. bit u k || bit ((b * 2 ^ 7) % 2 ^ 64) k) → r ≡ set_places kinds
  unfolding set_places
  places_joined a u b r ea eu eb er =
      er ∙ mask_same 64 (λ k. bit u k || bit ((b * 2 ^ 7) % 2 ^ 64) k) (λ i. ltb i 14 && set_place kinds i) at ∙ sym (mask_wide 14 64 (set_place kinds) (omega arith))
    where
      exact : (b * 2 ^ 7) % 2 ^ 64 ≡ b * 2 ^ 7
      exact = shl_exact 6 7 64 (subst (λ (x : ℕ). x < 2 ^ 6) (sym eb) (mask_lt 6 (bit (get_or kinds 1 0)))) (omega arith)

      users : (i : ℕ) → i < 64 → bit u i ≡ ((ltb i 6 && bit (get_or kinds 0 0) i) || eqb i 6)
      users i l = ap (λ (x : ℕ). bit x i) eu ∙ bit_mask 64 (λ k. bit a k || eqb k 6) i l ∙ ap (λ (c : Bool). c || eqb i 6) (ap (λ (x : ℕ). bit x i) ea ∙ bit-mask_of 6 (bit (get_or kinds 0 0)) i)

      resources : (j : ℕ) → bit ((b * 2 ^ 7) % 2 ^ 64) (7 + j) ≡ (ltb j 6 && bit (get_or kinds 1 0) j)
      resources j = ap (λ (x : ℕ). bit x (7 + j)) exact ∙ bit_up b 7 j ∙ ap (λ (x : ℕ). bit x j) eb ∙ bit-mask_of 6 (bit (get_or kinds 1 0)) j

      past : (i : ℕ) → 7 ≤ i → ((ltb i 6 && bit (get_or kinds 0 0) i) || eqb i 6) ≡ false
      past i l = rw (le-ltb i 6 (omega arith), ne_eqb i 6 (λ z. omega arith)) refl

      at : (i : ℕ) → i < 64 → (bit u i || bit ((b * 2 ^ 7) % 2 ^ 64) i) ≡ (ltb i 14 && set_place kinds i)
      at i l = test (ltb i 7)
          (λ p. let k = ltb-true i 7 p in
          ap₂ ◌||◌ (users i l ∙ user-place i k) (ap (λ (x : ℕ). bit x i) exact ∙ bit-under b 7 i k)
          ∙ or-false (set_place kinds i)
          ∙ sym (ap (λ (c : Bool). c && set_place kinds i) (lt-ltb i 14 (omega arith))))
          (λ p. let k = ltb-false i 7 p in
          let n : 7 + (i - 7) ≡ i = omega arith in
          ap (λ (c : Bool). c || bit ((b * 2 ^ 7) % 2 ^ 64) i) (users i l ∙ past i k)
          ∙ ap (λ (x : ℕ). bit ((b * 2 ^ 7) % 2 ^ 64) x) (sym n)
          ∙ resources (i - 7) ∙ resource-place (i - 7)
          ∙ ap (λ (x : ℕ). ltb x 14 && set_place kinds x) n)

-- ---- the halves

imp_and : (a k b : Bool) → imp (a && k) b ≡ imp k (imp a b)
imp_and true k b = refl
imp_and false true b = refl
imp_and false false b = refl

-- a test of all that pass another, and one of all that fail it
pub all_split : (k f : ℕ → Bool) (l : List ℕ) → (all (λ a. imp (not (k a)) (f a)) l && all (λ a. imp (k a) (f a)) l) ≡ all f l
all_split k f l = same (all (λ a. imp (not (k a)) (f a)) l && all (λ a. imp (k a) (f a)) l) (all f l)
    (λ p. all_in f l (λ a m. test (k a)
    (λ q. imp-out (f a) (all-out (λ a. imp (k a) (f a)) (and_r (all (λ a. imp (not (k a)) (f a)) l) _ p) m) q)
    (λ q. imp-out (f a) (all-out (λ a. imp (not (k a)) (f a)) (and_l (all (λ a. imp (not (k a)) (f a)) l) _ p) m) (not_in (k a) q))))
    (λ p. and_in
    (all_in (λ a. imp (not (k a)) (f a)) l (λ a m. imp_in (not (k a)) (f a) (λ q. all-out f p m)))
    (all_in (λ a. imp (k a) (f a)) l (λ a m. imp_in (k a) (f a) (λ q. all-out f p m))))

-- one bound twice
pub and_twice : (c a b : Bool) → ((c && a) && (c && b)) ≡ (c && (a && b))
and_twice true a b = refl
and_twice false a b = refl

module _ (met kinds : List ℕ) (asked side : ℕ) (hs : side < 2) where
  -- a half asks the conjuncts of its kind
  pub half-asks : (set : Bool) (x : ℕ) → all (λ j. imp (bit (asked_as set kinds asked) (7 * side + j)) (bit (get_or met (7 * side + j) 0) x)) (up_to 7)
      ≡ all (λ j. imp (iff set (bit (set_places kinds) (7 * side + j))) (imp (bit asked (7 * side + j)) (bit (get_or met (7 * side + j) 0) x))) (up_to 7)
  unfolding asked_as
  half-asks set x = all_ext
      (λ j. imp (bit (asked_as set kinds asked) (7 * side + j)) (bit (get_or met (7 * side + j) 0) x))
      (λ j. imp (iff set (bit (set_places kinds) (7 * side + j))) (imp (bit asked (7 * side + j)) (bit (get_or met (7 * side + j) 0) x))) (up_to 7)
      (λ j m. let l = up_to-out 7 m in
      ap (λ (b : Bool). imp b (bit (get_or met (7 * side + j) 0) x)) (bit_mask 64 (λ i. bit asked i && iff set (bit (set_places kinds) i)) (7 * side + j) (omega arith))
      ∙ imp_and (bit asked (7 * side + j)) (iff set (bit (set_places kinds) (7 * side + j))) (bit (get_or met (7 * side + j) 0) x))

  -- the whole is yes exactly when both halves are
  pub halves-whole : (count s t r : ℕ) → s ≡ met_by_all met (asked_as false kinds asked) side count → t ≡ met_by_all met (asked_as true kinds asked) side count → r ≡ mask_of 64 (λ k. bit s k && bit t k)
      → r ≡ met_by_all met asked side count
  unfolding met_by_all
  halves-whole count s t r es et er = er ∙ mask_same 64 (λ k. bit s k && bit t k) (narrowing (mask_of 64 (λ y. ltb y count)) (λ i. bit asked (7 * side + i)) (λ i. get_or met (7 * side + i) 0) 7) at
    where
      half : (set : Bool) (m x : ℕ) → x < 64 → m ≡ met_by_all met (asked_as set kinds asked) side count
          → bit m x ≡ (bit (mask_of 64 (λ y. ltb y count)) x && all (λ j. imp (iff set (bit (set_places kinds) (7 * side + j))) (imp (bit asked (7 * side + j)) (bit (get_or met (7 * side + j) 0) x))) (up_to 7))
      half set m x l e =
          ap (λ (n : ℕ). bit n x) e
          ∙ bit_mask 64 (narrowing (mask_of 64 (λ y. ltb y count)) (λ i. bit (asked_as set kinds asked) (7 * side + i)) (λ i. get_or met (7 * side + i) 0) 7) x l
          ∙ ap (λ (b : Bool). bit (mask_of 64 (λ y. ltb y count)) x && b) (half-asks set x)

      at : (x : ℕ) → x < 64 → (bit s x && bit t x) ≡ narrowing (mask_of 64 (λ y. ltb y count)) (λ i. bit asked (7 * side + i)) (λ i. get_or met (7 * side + i) 0) 7 x
      at x l =
          ap₂ ◌&&◌ (half false s x l es) (half true t x l et)
          ∙ and_twice (bit (mask_of 64 (λ y. ltb y count)) x) _ _
          ∙ ap (λ (b : Bool). bit (mask_of 64 (λ y. ltb y count)) x && b) (all_split (λ j. bit (set_places kinds) (7 * side + j)) (λ j. imp (bit asked (7 * side + j)) (bit (get_or met (7 * side + j) 0) x)) (up_to 7))
