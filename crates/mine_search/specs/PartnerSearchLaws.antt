-- The laws of the tests of pairs and of the search for the first.
-- Assumes nothing.
use Prim.Native.Nat.{ℕ, ◌+◌, ◌*◌, ◌-◌, ◌/◌, ◌%◌, ◌^◌, ◌≤◌, ◌<◌, max, min}
use borrow.Author.Tests.{eqb-true, eqb-false, eq-eqb, ne_eqb, ltb-true, ltb-false, lt-ltb, le-ltb}
use Rattle.std.specs.Prelude.{eqb, get_or, Bool, cond, not, List, ◌⊎◌, ◌≡◌}
use Rattle.std.proofs.Math.Dec.{ltb}
use Rattle.std.proofs.Math.Bool.{true, false, ◌&&◌, and-true, and-false, and_comm}
use Rattle.std.proofs.Common.{inl, inr, sym, ◌∙◌}
use Rattle.std.proofs.Math.Option.{some}
use Rattle.std.proofs.Math.Path.{refl, ap, ap₂}
use native.Mathlib.Omega.{arith}
use Rattle.sets.specs.Sets.{less_one, bit, mask_of}
use Rattle.sets.specs.MemberLaws.{least_in, bit-less}
use Rattle.mine_heads.specs.HeadLaws.{window_in, word_below}
use Rattle.mine_heads.specs.Heads.{in_window, is_marked, MarkedBelow, Open}
use Rattle.mine_search.specs.PartnerSearch.{joined_level, pair_at, partner_level, partner_at, NoneIn, FirstIn, Partner, Finds, near_at, near_head}
use Rattle.mine_pairs.specs.PairLevels.{pair_level}
use Rattle.mine_corners.specs.Pairing.{reaches, may_join}
use Rattle.mine_parts.specs.Layout.{rest_at, level_in, words_at, is_head_at}
use Rattle.sets.specs.Lowest.{lowest_from}
use Rattle.sets.specs.LowestLaws.{lowest_from-misses}
use Rattle.sets.specs.SetLaws.{bit-none, bit_mask}
use Rattle.sets.specs.TestLaws.{and_in, and_l, and_r, never, test}
use Rattle.sets.specs.Tests.{Is}
use Rattle.mine_theory.specs.Words.Words.{Words}

-- ---- a pair

module _ (links matches known attributes : List ℕ) (users resources operations : ℕ) (t : List ℕ) (i j : ℕ) where
  -- the level that the code works out
  pub level-told : {W X : Words} {a b l r : ℕ} → W ≡ words_at t i → X ≡ words_at t j → a ≡ level_in (rest_at t i) → b ≡ level_in (rest_at t j) → l ≡ max a b
      → r ≡ pair_level links matches known attributes users resources operations W X l → r ≡ joined_level links matches known attributes users resources operations t i j
  unfolding joined_level
  level-told p q e f g h = h ∙ rw (p, q, g, e, f) refl

  -- a group that is not near cannot be joined
  far-level : (reaches (words_at t i) (words_at t j) && reaches (words_at t j) (words_at t i)) ≡ false → joined_level links matches known attributes users resources operations t i j ≡ 4
  unfolding joined_level pair_level may_join
  far-level e = rw e refl

  -- what a pair is
  pair-out : pair_at links matches known attributes users resources operations t i j ≡ true → Is (is_head_at t i) × Is (is_head_at t j) × Is (ltb (joined_level links matches known attributes users resources operations t i j) 4)
  unfolding pair_at
  pair-out h =
      let b = ltb (joined_level links matches known attributes users resources operations t i j) 4 in
      let r = and_r (is_head_at t i) (is_head_at t j && b) h in
      (and_l (is_head_at t i) (is_head_at t j && b) h, and_l (is_head_at t j) b r, and_r (is_head_at t j) b r)

-- ---- a partner

module _ (links matches known attributes : List ℕ) (users resources operations : ℕ) (t : List ℕ) (c : ℕ) where
  abbrev joined_by : ℕ → ℕ → ℕ
  joined_by = joined_level links matches known attributes users resources operations t

  -- the level that the code works out: with itself there is none
  pub beside_self : {k : ℕ} → k ≡ c → 4 ≡ partner_level links matches known attributes users resources operations t c k
  unfolding partner_level
  beside_self {k} e = rw (eq-eqb k c e) refl

  -- and with another it is that of the two in order
  pub beside_other : {k l i j : ℕ} → (k ≡ c → ⊥) → i ≡ min c k → j ≡ max c k → l ≡ joined_level links matches known attributes users resources operations t i j → l ≡ partner_level links matches known attributes users resources operations t c k
  unfolding partner_level
  beside_other {k} d p q e = rw (ne_eqb k c d) (e ∙ ap₂ joined_by p q)

  -- and the other way round
  pub beside_out : {l i j : ℕ} (k : ℕ) → i < j → i ≡ min c k → j ≡ max c k → l ≡ partner_level links matches known attributes users resources operations t c k → l ≡ joined_level links matches known attributes users resources operations t i j
  unfolding partner_level
  beside_out k h p q e = e ∙ rw (ne_eqb k c (λ z. omega arith), p, q) refl

  -- an earlier partner takes c's group in
  partner-before : {k : ℕ} → k < c → partner_at links matches known attributes users resources operations t c k ≡ pair_at links matches known attributes users resources operations t k c
  unfolding partner_at pair_at partner_level
  partner-before {k} h =
      let p : min c k ≡ k = omega arith in
      let q : max c k ≡ c = omega arith in
      rw (ne_eqb k c (λ z. omega arith), p, q) (swapped (is_head_at t c) (is_head_at t k) (ltb (joined_by k c) 4))
    where
      swapped : (x y z : Bool) → (x && (y && z)) ≡ (y && (x && z))
      swapped true true z = refl
      swapped true false z = refl
      swapped false true z = refl
      swapped false false z = refl

  -- a later one is taken in
  partner-after : {k : ℕ} → c < k → partner_at links matches known attributes users resources operations t c k ≡ pair_at links matches known attributes users resources operations t c k
  unfolding partner_at pair_at partner_level
  partner-after {k} h =
      let p : min c k ≡ c = omega arith in
      let q : max c k ≡ k = omega arith in
      rw (ne_eqb k c (λ z. omega arith), p, q) refl

  -- a head is no partner of itself
  partner-self : partner_at links matches known attributes users resources operations t c c ≡ false
  unfolding partner_at partner_level
  partner-self = rw (eq-eqb c c refl) (ap (λ (b : Bool). is_head_at t c && b) (and-false (is_head_at t c)) ∙ and-false (is_head_at t c))

  -- a part that is no head has no partner
  pub no_partner : {p : Bool} → p ≡ is_head_at t c → p ≡ false → (k : ℕ) → partner_at links matches known attributes users resources operations t c k ≡ false
  unfolding partner_at
  no_partner e f k = ap (λ (b : Bool). b && (is_head_at t k && ltb (partner_level links matches known attributes users resources operations t c k) 4)) (sym e ∙ f)

  -- of two heads the level decides
  pub partner-told : {l : ℕ} (k : ℕ) → Is (is_head_at t c) → Is (is_head_at t k) → l ≡ partner_level links matches known attributes users resources operations t c k → partner_at links matches known attributes users resources operations t c k ≡ ltb l 4
  unfolding partner_at
  partner-told k h g r = ap₂ ◌&&◌ h (ap₂ ◌&&◌ g (ap (λ (x : ℕ). ltb x 4) (sym r)))

  -- a group that is not near is none's partner
  far-partner : (k : ℕ) → (reaches (words_at t c) (words_at t k) && reaches (words_at t k) (words_at t c)) ≡ false → ltb (partner_level links matches known attributes users resources operations t c k) 4 ≡ false
  unfolding partner_level
  far-partner k e = test (eqb k c) (λ z. rw z refl) (λ z. rw z (ap (λ (x : ℕ). ltb x 4) (test (ltb k c) (λ h. before (ltb-true k c h)) (λ h. let d = eqb-false k c z in let g = ltb-false k c h in after (omega arith)))))
    where
      before : k < c → joined_by (min c k) (max c k) ≡ 4
      before h =
          let p : min c k ≡ k = omega arith in
          let q : max c k ≡ c = omega arith in
          ap₂ joined_by p q ∙ far-level links matches known attributes users resources operations t k c (and_comm (reaches (words_at t k) (words_at t c)) (reaches (words_at t c) (words_at t k)) ∙ e)

      after : c < k → joined_by (min c k) (max c k) ≡ 4
      after h =
          let p : min c k ≡ c = omega arith in
          let q : max c k ≡ k = omega arith in
          ap₂ joined_by p q ∙ far-level links matches known attributes users resources operations t c k e

  -- the first of the window is the partner
  pub partner-first : {first end r : ℕ} → FirstIn end (partner_at links matches known attributes users resources operations t c) first end r → first ≤ c → c < end → Partner first end (pair_at links matches known attributes users resources operations t) c r
  partner-first {first} {end} {r} (inl (e, h)) f l = inl (e, (λ k a b. sym (partner-before b) ∙ h k a (omega arith)), λ k a b. sym (partner-after (omega arith)) ∙ h k (omega arith) b)
  partner-first {first} {end} {r} (inr (p, q, e, h)) f l = test (ltb r c)
      (λ z. let b = ltb-true r c z in inr (inl (p, b, sym (partner-before b) ∙ e, λ k a d. sym (partner-before (omega arith)) ∙ h k a d)))
      (λ z. test (eqb r c)
      (λ y. never e (ap (partner_at links matches known attributes users resources operations t c) (eqb-true r c y) ∙ partner-self))
      (λ y. let d = eqb-false r c y in
      let g = ltb-false r c z in
      let b : c < r = omega arith in
      inr (inr (b, q, sym (partner-after b) ∙ e, (λ k x y. sym (partner-before y) ∙ h k x (omega arith)), λ k x y. sym (partner-after (omega arith)) ∙ h k (omega arith) y))))

  -- the first behind c
  pub partner-later : {end r : ℕ} → FirstIn end (partner_at links matches known attributes users resources operations t c) (c + 1) end r → FirstIn end (pair_at links matches known attributes users resources operations t c) (c + 1) end r
  partner-later (inl (e, h)) = inl (e, λ k a b. sym (partner-after (omega arith)) ∙ h k a b)
  partner-later (inr (p, q, e, h)) = inr (p, q, sym (partner-after (omega arith)) ∙ e, λ k a b. sym (partner-after (omega arith)) ∙ h k a b)

-- ---- the search

-- one more does not pass
pub none-on : (f : ℕ → Bool) (a n : ℕ) → NoneIn f a n → f n ≡ false → NoneIn f a (n + 1)
none-on f a n h e k p l = test (eqb k n) (λ q. ap f (eqb-true k n q) ∙ e) (λ q. let d = eqb-false k n q in h k p (omega arith))

-- with none before c the first behind is the partner
pub partner-behind : {first end : ℕ} (pair : ℕ → ℕ → Bool) (c : ℕ) {r : ℕ} → NoneIn (λ i. pair i c) first c → FirstIn end (pair c) (c + 1) end r → Partner first end pair c r
partner-behind pair c b (inl (e, h)) = inl (e, b, h)
partner-behind pair c b (inr (p, q, e, h)) = inr (inr (omega arith, q, e, b, h))

-- what the code needs of a partner: the two heads in order are a pair
abbrev pub Chosen : ℕ → (ℕ → ℕ → Bool) → ℕ → ℕ → Type 0
Chosen end pair c r = (r ≡ end) ⊎ (((r < c) × (pair r c ≡ true)) ⊎ ((c < r) × (r < end) × (pair c r ≡ true)))

module _ {end : ℕ} (pair : ℕ → ℕ → Bool) (c : ℕ) where
  -- a partner is one
  pub chosen-partner : {first r : ℕ} → Partner first end pair c r → Chosen end pair c r
  chosen-partner (inl (e, h, k)) = inl e
  chosen-partner (inr (inl (p, q, e, h))) = inr (inl (q, e))
  chosen-partner (inr (inr (p, q, e, h, k))) = inr (inr (p, q, e))

  -- so is the first behind c
  pub chosen-behind : {r : ℕ} → FirstIn end (pair c) (c + 1) end r → Chosen end pair c r
  chosen-behind (inl (e, h)) = inl e
  chosen-behind (inr (p, q, e, h)) = inr (inr (omega arith, q, e))

  chosen-pair : {r i j : ℕ} → Chosen end pair c r → r < end → c < end → i ≡ min c r → j ≡ max c r → (i < j) × (j < end) × (i ≤ c) × (pair i j ≡ true)
  chosen-pair (inl e) l m p q = absurd (omega arith)
  chosen-pair {r} {i} {j} (inr (inl (h, e))) l m p q = let a : i ≡ r = omega arith in let b : j ≡ c = omega arith in (omega arith, omega arith, omega arith, ap₂ pair a b ∙ e)
  chosen-pair {r} {i} {j} (inr (inr (h, k, e))) l m p q = let a : i ≡ c = omega arith in let b : j ≡ r = omega arith in (omega arith, omega arith, omega arith, ap₂ pair a b ∙ e)

module _ (end : ℕ) (links matches known attributes : List ℕ) (users resources operations : ℕ) (t : List ℕ) (c i j level : ℕ) where
  -- what the code knows of the two heads that it joins
  pub record Taking : Type 0 where
    pub order : i < j
    pub below : j < end
    pub back : i ≤ c
    pub leveled : level ≡ joined_level links matches known attributes users resources operations t i j
    pub low : level < 4
    pub first : Is (is_head_at t i)
    pub second : Is (is_head_at t j)

  -- c and the partner found, in order
  pub taking : {r : ℕ} → Chosen end (pair_at links matches known attributes users resources operations t) c r → (r < end → level ≡ partner_level links matches known attributes users resources operations t c r) → r < end → c < end → i ≡ min c r → j ≡ max c r → Taking
  taking {r} C f l m p q =
      let o = chosen-pair (pair_at links matches known attributes users resources operations t) c C l m p q in
      let out = pair-out links matches known attributes users resources operations t i j o.3 in
      let e = beside_out links matches known attributes users resources operations t c r o.0 p q (f l) in
      record { order = o.0; below = o.1; back = o.2; leveled = e; low = rw e (ltb-true (joined_level links matches known attributes users resources operations t i j) 4 out.2); first = out.0; second = out.1 }

-- tests that agree on all pairs of the window have the same partner
pub partner-same : {first end : ℕ} (f g : ℕ → ℕ → Bool) (c : ℕ) {r : ℕ} → first ≤ c → c < end → ((i j : ℕ) → first ≤ i → i < j → j < end → f i j ≡ g i j) → Partner first end f c r → Partner first end g c r
partner-same f g c b l e (inl (p, h, k)) = inl (p, (λ i a d. sym (e i c a d l) ∙ h i a d), λ j a d. sym (e c j b (omega arith) d) ∙ k j a d)
partner-same f g c b l e (inr (inl (o, p, h, k))) = inr (inl (o, p, sym (e _ c o p l) ∙ h, λ i a d. sym (e i c a (omega arith) l) ∙ k i a d))
partner-same f g c b l e (inr (inr (p, q, h, k, m))) = inr (inr (p, q, sym (e c _ b p q) ∙ h, (λ i a d. sym (e i c a d l) ∙ k i a d), λ j a d. sym (e c j b (omega arith) (omega arith)) ∙ m j a d))

-- ---- the search among the near heads

-- of a word of marks: `marked` are those asked for, `rest` those not looked at yet
module _ (t : List ℕ) (W : Words) (word marked : ℕ) where
  -- what is left gives the same answer as all of them
  abbrev pub LeftOf : ℕ → Type 0
  LeftOf rest = (k : ℕ) → 64 * word ≤ k → k < 64 * word + 64 → (bit rest (k % 64) && near_at t W k) ≡ (bit marked (k % 64) && near_at t W k)

  module _ (rest : ℕ) (h : rest < 2 ^ 64) (left : LeftOf rest) where
    -- nothing is left
    pub within_none : {end : ℕ} → rest ≡ 0 → FirstIn end (λ k. bit marked (k % 64) && near_at t W k) (64 * word) (64 * word + 64) end
    within_none e = inl (refl, λ k a b. sym (left k a b) ∙ ap (λ (x : ℕ). bit x (k % 64) && near_at t W k) e ∙ ap (λ (b : Bool). b && near_at t W k) (bit-none (k % 64)))

    module _ (y : ℕ) (least : y ≡ lowest_from (bit rest) 0 64) (some : 0 < rest) where
      -- the least that is left is near
      pub within-found : {end : ℕ} {b : Bool} {k : ℕ} → k ≡ 64 * word + y → b ≡ near_at t W k → b ≡ true → FirstIn end (λ k. bit marked (k % 64) && near_at t W k) (64 * word) (64 * word + 64) k
      within-found {end} {b} {k} q e f =
          let low = least_in rest h y least some in
          let z : k % 64 ≡ y = omega (arith, low.0) in
          inr (
            omega arith,
            omega (arith, low.0),
            sym (left k (omega arith) (omega (arith, low.0))) ∙ and_in {a = bit rest (k % 64)} (ap (bit rest) z ∙ low.1) (sym e ∙ f),
            λ n p l. sym (left n p (omega (arith, low.0))) ∙ ap (λ (b : Bool). b && near_at t W n) (lowest_from-misses (bit rest) 0 64 (n % 64) (omega arith) (omega (arith, low.0))),
          )

      -- it is not
      pub within-turn : {b : Bool} {k next : ℕ} → k ≡ 64 * word + y → b ≡ near_at t W k → b ≡ false → next ≡ less_one rest y → LeftOf next
      within-turn {b} {k} {next} q e f g n p l = ap (λ (x : ℕ). bit x (n % 64) && near_at t W n) g ∙ ap (λ (b : Bool). b && near_at t W n) (bit-less rest h y (n % 64)) ∙ same_test ∙ left n p l
        where
          far : n % 64 ≡ y → near_at t W n ≡ false
          far z = let d : n ≡ k = omega arith in ap (near_at t W) d ∙ sym e ∙ f

          same_test : ((bit rest (n % 64) && not (eqb (n % 64) y)) && near_at t W n) ≡ (bit rest (n % 64) && near_at t W n)
          same_test = test (eqb (n % 64) y)
              (λ z. rw (far (eqb-true (n % 64) y z)) (and-false (bit rest (n % 64) && not (eqb (n % 64) y)) ∙ sym (and-false (bit rest (n % 64)))))
              (λ z. ap (λ (b : Bool). (bit rest (n % 64) && not b) && near_at t W n) z ∙ ap (λ (b : Bool). b && near_at t W n) (and-true (bit rest (n % 64))))

-- over the words of marks
module _ (marks t : List ℕ) (W : Words) (from : ℕ) where
  module _ (word : ℕ) {m passed marked : ℕ} (e : m ≡ max from (64 * word)) (p : passed ≡ mask_of 64 (λ k. ltb k (m - 64 * word))) (q : marked ≡ mask_of 64 (λ k. bit (get_or marks word 0) k && not (bit passed k))) (none : NoneIn (near_head marks t W) from (64 * word)) where
    -- the parts asked for are those of the word from `from` on
    asked : (k : ℕ) → 64 * word ≤ k → k < 64 * word + 64 → bit marked (k % 64) ≡ (is_marked marks k && not (ltb (k % 64) (m - 64 * word)))
    asked k a b =
        let z : word ≡ k / 64 = omega arith in
        ap (λ (x : ℕ). bit x (k % 64)) q ∙ bit_mask 64 (λ k. bit (get_or marks word 0) k && not (bit passed k)) (k % 64) (omega arith)
        ∙ ap₂ (λ (x : ℕ) (b : Bool). bit (get_or marks x 0) (k % 64) && not b) z (ap (λ (x : ℕ). bit x (k % 64)) p ∙ bit_mask 64 (λ k. ltb k (m - 64 * word)) (k % 64) (omega arith))

    asked-on : (k : ℕ) → 64 * word ≤ k → k < 64 * word + 64 → from ≤ k → (bit marked (k % 64) && near_at t W k) ≡ near_head marks t W k
    asked-on k a b f = ap (λ (x : Bool). x && near_at t W k) (asked k a b ∙ ap (λ (x : Bool). is_marked marks k && not x) (le-ltb (k % 64) (m - 64 * word) (omega arith)) ∙ and-true (is_marked marks k))

    asked-before : (k : ℕ) → 64 * word ≤ k → k < 64 * word + 64 → k < from → (bit marked (k % 64) && near_at t W k) ≡ false
    asked-before k a b f = ap (λ (x : Bool). x && near_at t W k) (asked k a b ∙ ap (λ (x : Bool). is_marked marks k && not x) (lt-ltb (k % 64) (m - 64 * word) (omega arith)) ∙ and-false (is_marked marks k))

    none-up : (n : ℕ) → n ≤ 64 * word + 64 → NoneIn (λ k. bit marked (k % 64) && near_at t W k) (64 * word) n → NoneIn (near_head marks t W) from n
    none-up n b h k f g = test (ltb k (64 * word)) (λ z. none k f (ltb-true k (64 * word) z)) (λ z. let d = ltb-false k (64 * word) z in sym (asked-on k d (omega arith) f) ∙ h k d g)

    -- they are parts
    pub asked-below : {end : ℕ} → MarkedBelow end marks → (k room : ℕ) → end ≤ room → k < 64 → Is (bit marked k) → 64 * word + k < room
    asked-below low k room r h b =
        word_below marks low word k room r h
        (and_l (bit (get_or marks word 0) k) _ (sym (bit_mask 64 (λ k. bit (get_or marks word 0) k && not (bit passed k)) k h) ∙ ap (λ (x : ℕ). bit x k) (sym q) ∙ b))

    -- one of this word is found
    pub near_found : {end r : ℕ} → FirstIn end (λ k. bit marked (k % 64) && near_at t W k) (64 * word) (64 * word + 64) r → r < end → FirstIn end (near_head marks t W) from end r
    near_found {end} {r} (inl (x, h)) b = absurd (omega arith)
    near_found {end} {r} (inr (x, y, z, h)) b = test (ltb r from) (λ d. never z (asked-before r x y (ltb-true r from d))) (λ d. let f = ltb-false r from d in inr (f, b, sym (asked-on r x y f) ∙ z, none-up r (omega arith) h))

    -- none is
    pub near_on : {end r : ℕ} → MarkedBelow end marks → FirstIn end (λ k. bit marked (k % 64) && near_at t W k) (64 * word) (64 * word + 64) r → end ≤ r → NoneIn (near_head marks t W) from (64 * (word + 1))
    near_on low (inl (x, h)) b k f g = none-up (64 * word + 64) (omega arith) h k f (omega arith)
    near_on {end} {r} low (inr (x, y, z, h)) b k f g = let n = low r (and_l (is_marked marks r) _ (sym (asked r x y) ∙ and_l (bit marked (r % 64)) (near_at t W r) z)) in absurd (omega arith)

module _ (end : ℕ) (links matches known attributes : List ℕ) (users resources operations : ℕ) (marks t : List ℕ) (c from : ℕ) where
  -- none before k is a partner of c, and k is a head or the end
  pub record Looking (k : ℕ) : Type 0 where
    pub none : NoneIn (partner_at links matches known attributes users resources operations t c) from k
    pub head : k < end → (from ≤ k) × Is (is_head_at t k)
    pub most : k ≤ end

  module _ {first : ℕ} (low : first ≤ from) (M : Open first end marks t c) {W : Words} (g : W ≡ words_at t c) where
    -- a head that is not near cannot be joined
    far-head : (k : ℕ) → near_at t W k ≡ false → partner_at links matches known attributes users resources operations t c k ≡ false
    unfolding partner_at
    far-head k e =
        ap (λ (b : Bool). is_head_at t c && (is_head_at t k && b)) (far-partner links matches known attributes users resources operations t c k (ap (λ (X : Words). reaches X (words_at t k) && reaches (words_at t k) X) (sym g) ∙ e))
        ∙ ap (λ (b : Bool). is_head_at t c && b) (and-false (is_head_at t k)) ∙ and-false (is_head_at t c)

    -- nor a part that is no head, nor one that is not open, nor c itself
    far-refused : (k : ℕ) → first ≤ k → k < end → near_head marks t W k ≡ false → partner_at links matches known attributes users resources operations t c k ≡ false
    unfolding partner_at partner_level
    far-refused k f h e = test (is_marked marks k)
        (λ m. far-head k (sym (ap (λ (b : Bool). b && near_at t W k) m) ∙ e))
        (λ m. test (eqb k c)
        (λ z. ap (λ (b : Bool). is_head_at t c && (is_head_at t k && ltb (cond b 4 (joined_level links matches known attributes users resources operations t (min c k) (max c k))) 4)) z ∙ ap (λ (b : Bool). is_head_at t c && b) (and-false (is_head_at t k)) ∙ and-false (is_head_at t c))
        (λ z. test (is_head_at t k)
        (λ q. far-head k (ap (λ (b : Bool). reaches W (words_at t k) && b) (ap (reaches (words_at t k)) g ∙ M.far k (eqb-false k c z) (and_in (window_in first end k f h) q) m) ∙ and-false (reaches W (words_at t k))))
        (λ q. ap (λ (b : Bool). is_head_at t c && (b && ltb (partner_level links matches known attributes users resources operations t c k) 4)) q ∙ and-false (is_head_at t c))))

    -- the next near head
    pub looking : {a k : ℕ} → from ≤ a → a ≤ end → NoneIn (partner_at links matches known attributes users resources operations t c) from a → FirstIn end (near_head marks t W) a end k → Looking k
    looking {a} {k} f l none (inl (e, h)) = record { none = λ n p q. test (ltb n a) (λ z. none n p (ltb-true n a z)) (λ z. far-refused n (omega arith) (omega arith) (h n (ltb-false n a z) (omega arith))); head = λ b. absurd (omega arith); most = omega arith }
    looking {a} {k} f l none (inr (x, y, z, h)) = record {
      none = λ n p q. test (ltb n a) (λ d. none n p (ltb-true n a d)) (λ d. far-refused n (omega arith) (omega arith) (h n (ltb-false n a d) q));
      head = λ b. (omega arith, and_r (in_window first end k) (is_head_at t k) (M.heads k (and_l (is_marked marks k) (near_at t W k) z)));
      most = omega arith;
    }

  -- k is refused
  pub looking-on : {k l : ℕ} → Is (is_head_at t c) → Looking k → k < end → l ≡ partner_level links matches known attributes users resources operations t c k → 4 ≤ l → NoneIn (partner_at links matches known attributes users resources operations t c) from (k + 1)
  looking-on {k} {l} a L h r d = none-on (partner_at links matches known attributes users resources operations t c) from k L.none (partner-told links matches known attributes users resources operations t c k a (L.head h).1 r ∙ le-ltb l 4 d)

  -- k is the partner
  pub looking-found : {k l : ℕ} → Is (is_head_at t c) → Looking k → k < end → l ≡ partner_level links matches known attributes users resources operations t c k → l < 4 → Finds end links matches known attributes users resources operations t c from k l
  looking-found {k} {l} a L h r d = record { first = inr ((L.head h).0, h, partner-told links matches known attributes users resources operations t c k a (L.head h).1 r ∙ lt-ltb l 4 d, L.none); leveled = λ _. r }

  -- there is none
  pub looking-end : {k : ℕ} → Looking k → end ≤ k → Finds end links matches known attributes users resources operations t c from end 4
  looking-end L h = record { first = inl (refl, λ n p q. L.none n p (omega arith)); leveled = λ b. absurd (omega arith) }

  -- c is no head
  pub finds_none : {p : Bool} → p ≡ is_head_at t c → p ≡ false → Finds end links matches known attributes users resources operations t c from end 4
  finds_none e f = record { first = inl (refl, λ n _ _. no_partner links matches known attributes users resources operations t c e f n); leveled = λ b. absurd (omega arith) }

-- the first from a on is none before a
pub first-later : {end : ℕ} {f : ℕ → Bool} {a r : ℕ} → a ≤ end → FirstIn end f a end r → a ≤ r
first-later l (inl (e, h)) = omega arith
first-later l (inr (p, q, e, h)) = p
