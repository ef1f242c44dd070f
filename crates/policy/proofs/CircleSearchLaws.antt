-- The search of CircleSearch finds the circle of Circles: the first list, by the bytes, of those that make a circle is found by taking
-- the least next role from which the rest is possible. 02, request 3.
-- Assumes nothing.
use Prim.Native.Nat.{ℕ, zero, suc, ◌+◌, ◌≤◌, ◌<◌}
use borrow.Author.Tests.{eqb-true, eqb-false, ltb-true, ltb-false, lt-ltb, le-ltb, leb-true, le-leb}
use Rattle.std.specs.Prelude.{eqb, leb, length, Bool, ◌&&◌, List, [], ◌∷◌, ◌⊎◌, ◌≡◌}
use Rattle.std.proofs.Math.Dec.{ltb}
use Rattle.std.proofs.Math.Bool.{true, false, not, and-true, and-false}
use mathlib.Core.List.Memᴰ
use Rattle.std.proofs.Common.{inl, inr, ap, ap₂, ◌∙◌, subst}
use Rattle.std.proofs.Math.Path.{refl, sym}
use Rattle.std.proofs.Math.Decide.{dec_lt}
use native.Mathlib.Omega.{arith}
use Rattle.policy.specs.Circles.{starts_lowest, chained, closes, circle_in}
use Rattle.policy.proofs.CircleLaws.{Below, Found, NoneFound, before_head, before-tail, unrepeated-head, circle_cases, no_fewer, is-first, is-closed, is_below, is-lowest, is-few, is-once}
use Rattle.policy.specs.CircleSearch.{leads_back, may_follow, followers, least_next, way_back, circle_at, some_back, lowest_back, fewest_back, sought_circle}
use Rattle.sets.specs.Lowest.{lowest_from}
use Rattle.sets.specs.LowestLaws.{lowest_from-hits, lowest_from-some, lowest_from-misses}
use Rattle.sets.specs.MaskLaws.{mask_lt, bit-mask_of, mask_same, mask_wide, least-most, empty_law}
use Rattle.sets.specs.SetLaws.{bit_mask}
use Rattle.sets.specs.Sets.{bit, mask_of}
use Rattle.sets.specs.Sorted.{before}
use Rattle.sets.specs.SortedLaws.{before-apart}
use Rattle.sets.specs.Tests.{Is, ◌is_in◌, all, any, up_to}
use Rattle.sets.specs.TestLaws.{and_in, and_l, and_r, never, test, fails, all-out, all_in, any_in, any_out, any_ext, up_to_in, up_to-out}

module _ (line : ℕ → ℕ → Bool) (k : ℕ) where
  -- ---- walks through roles above the lowest

  -- a walk through roles above a back to it
  abbrev Back : ℕ → ℕ → List ℕ → Type 0
  Back a x l = Is (chained line x l a) × Is (all (ltb a) l) × Below k l

  back-tail : (a x y : ℕ) (l : List ℕ) → Back a x (y ∷ l) → Back a y l
  back-tail a x y l h = (and_r (line x y) (chained line y l a) h.0, and_r (ltb a y) (all (ltb a) l) h.1, λ r m. h.2 r (Memᴰ.tail m))

  back_step : (a x y : ℕ) (l : List ℕ) → Back a x (y ∷ l) → Is (ltb a y && line x y)
  back_step a x y l h = and_in (and_l (ltb a y) (all (ltb a) l) h.1) (and_l (line x y) (chained line y l a) h.0)

  -- x leads back, and the first role behind it is one that may follow
  back-leads : (a x : ℕ) (l : List ℕ) → Back a x l → Is (leads_back line k a (length l) x)
  back-leads a x [] h = h.0
  back-leads a x (y ∷ l) h = any_in (may_follow line k a (length l) x) (up_to_in (h.2 y (Memᴰ.head refl))) (and_in (back_step a x y l h) (back-leads a y l (back-tail a x y l h)))

  back_follows : (a x y : ℕ) (l : List ℕ) → Back a x (y ∷ l) → Is (may_follow line k a (length l) x y)
  back_follows a x y l h = and_in (back_step a x y l h) (back-leads a y l (back-tail a x y l h))

  -- where one may follow, the least may
  pub least-follows : (a m x : ℕ) → Is (leads_back line k a (suc m) x) → (least_next line k a m x < k) × Is (may_follow line k a m x (least_next line k a m x))
  least-follows a m x h =
      let f = may_follow line k a m x in
      let t = any_out f (up_to k) h in
      let l = up_to-out k t.1 in
      let n = least-most f k t.0 t.2 in
      (omega arith, lowest_from-some f 0 k t.0 (omega arith) (omega arith) t.2)

  -- the least roles lead back
  way_back_lem : (a m x : ℕ) → Is (leads_back line k a m x) → (length (way_back line k a m x) ≡ m) × Back a x (way_back line k a m x)
  way_back_lem a zero x h = (refl, (h, refl, λ r m. absurd (Memᴰ.not-nil m)))
  way_back_lem a (suc m) x h =
      let y = least_next line k a m x in
      let t = least-follows a m x h in
      let p = and_l (ltb a y && line x y) (leads_back line k a m y) t.1 in
      let r = way_back_lem a m y (and_r (ltb a y && line x y) (leads_back line k a m y) t.1) in
      (ap suc r.0, (and_in (and_r (ltb a y) (line x y) p) r.1.0, and_in (and_l (ltb a y) (line x y) p) r.1.1, λ z i. go y (way_back line k a m y) t.0 r.1.2 z (Memᴰ.cases_cons i)))
    where
      go : (y : ℕ) (l : List ℕ) → y < k → Below k l → (z : ℕ) → (z ≡ y) ⊎ (z is_in l) → z < k
      go y l h b z (inl e) = omega arith
      go y l h b z (inr i) = b z i

  -- and no walk back of as many roles comes before them
  way_first : (a x : ℕ) (l : List ℕ) → Back a x l → (l ≡ way_back line k a (length l) x) ⊎ Is (before (way_back line k a (length l) x) l)
  way_first a x [] h = inl refl
  way_first a x (y ∷ l) h = go (least_next line k a (length l) x) (least-most (may_follow line k a (length l) x) k y (back_follows a x y l h)) (way_first a y l (back-tail a x y l h))
    where
      same-tail : (w : List ℕ) → (l ≡ w) ⊎ Is (before w l) → (y ∷ l ≡ y ∷ w) ⊎ Is (before (y ∷ w) (y ∷ l))
      same-tail w (inl e) = inl (ap (λ (s : List ℕ). y ∷ s) e)
      same-tail w (inr b) = inr (before-tail y w l b)

      go : (z : ℕ) → z ≤ y → (l ≡ way_back line k a (length l) y) ⊎ Is (before (way_back line k a (length l) y) l)
          → (y ∷ l ≡ z ∷ way_back line k a (length l) z) ⊎ Is (before (z ∷ way_back line k a (length l) z) (y ∷ l))
      go z n r = test (eqb z y)
          (λ e. rw (eqb-true z y e) (same-tail (way_back line k a (length l) y) r))
          (λ e. let d = eqb-false z y e in inr (before_head z y (way_back line k a (length l) z) l (omega arith)))

  -- ---- the circle that is found

  -- its other roles lie above its lowest
  circle_back : (b : ℕ) (ds : List ℕ) → NoneFound line k 1 k (b ∷ ds) ⊎ Found line k 1 k (b ∷ ds) → Back b b ds
  circle_back b ds s = (
    is-closed line k (b ∷ ds) s (omega arith),
    all_in (ltb b) ds (λ r m. above r m (leb-true b r (all-out (leb b) (is-lowest line k (b ∷ ds) s) m))),
    λ r m. is_below line k (b ∷ ds) s r (Memᴰ.tail m),
  )
    where
      above : (r : ℕ) → r is_in ds → b ≤ r → Is (ltb b r)
      above r m h = test (eqb r b) (λ e. absurd (unrepeated-head b ds (is-once line k (b ∷ ds) s) (subst (λ (x : ℕ). x is_in ds) (eqb-true r b e) m))) (λ e. let d = eqb-false r b e in lt-ltb b r (omega arith))

  -- where no role leads back to itself there is none
  none_sought : ((m a : ℕ) → m < k → a < k → leads_back line k a m a ≡ false) → (c : List ℕ) → NoneFound line k 1 k c ⊎ Found line k 1 k c → c ≡ []
  none_sought n [] s = refl
  none_sought n (b ∷ ds) s =
      let f = is-few line k (b ∷ ds) s in
      never (back-leads b b ds (circle_back b ds s)) (n (length ds) b (omega arith) (is_below line k (b ∷ ds) s b (Memᴰ.head refl)))

  module _ (a m : ℕ) (below : a < k) (leads : Is (leads_back line k a m a))
      (none-fewer : (j b : ℕ) → j < m → b < k → leads_back line k b j b ≡ false)
      (none-lower : (b : ℕ) → b < a → leads_back line k b m b ≡ false) where
    sought_closed : Is (closes line (circle_at line k a m))
    sought_closed = (way_back_lem a m a leads).1.0

    sought_below : Below k (circle_at line k a m)
    sought_below r i = go (Memᴰ.cases_cons i)
      where
        go : (r ≡ a) ⊎ (r is_in way_back line k a m a) → r < k
        go (inl e) = omega arith
        go (inr i) = (way_back_lem a m a leads).1.2 r i

    sought_lowest : Is (starts_lowest (circle_at line k a m))
    sought_lowest = all_in (leb a) (way_back line k a m a) (λ r i. let h = ltb-true a r (all-out (ltb a) (way_back_lem a m a leads).1.1 i) in le-leb a r (omega arith))

    sought_length : length (circle_at line k a m) ≡ suc m
    sought_length = ap suc (way_back_lem a m a leads).0

    -- of the circle's roles there are no fewer than sought, and none comes before them
    as_many : (b : ℕ) (ds : List ℕ) → NoneFound line k 1 k (b ∷ ds) ⊎ Found line k 1 k (b ∷ ds) → length ds ≡ m
    as_many b ds s =
        let n = (no_fewer line k (b ∷ ds) s (circle_at line k a m) sought_closed sought_below).1 in
        let e = (way_back_lem a m a leads).0 in
        elim (dec_lt (length ds) m) [
          | yes l ↦ never (back-leads b b ds (circle_back b ds s)) (none-fewer (length ds) b l (is_below line k (b ∷ ds) s b (Memᴰ.head refl)))
          | no l ↦ omega arith
        ]

    not_before : (b : ℕ) (ds : List ℕ) → NoneFound line k 1 k (b ∷ ds) ⊎ Found line k 1 k (b ∷ ds) → (b ∷ ds ≡ circle_at line k a m) ⊎ Is (before (circle_at line k a m) (b ∷ ds))
    not_before b ds s = lower (as_many b ds s) (circle_back b ds s)
      where
        same_head : (w : List ℕ) → (ds ≡ w) ⊎ Is (before w ds) → (b ∷ ds ≡ b ∷ w) ⊎ Is (before (b ∷ w) (b ∷ ds))
        same_head w (inl e) = inl (ap (λ (l : List ℕ). b ∷ l) e)
        same_head w (inr h) = inr (before-tail b w ds h)

        lower : length ds ≡ m → Back b b ds → (b ∷ ds ≡ circle_at line k a m) ⊎ Is (before (circle_at line k a m) (b ∷ ds))
        lower e h = test (ltb b a)
            (λ l. never (back-leads b b ds h) (ap (λ (n : ℕ). leads_back line k b n b) e ∙ none-lower b (ltb-true b a l)))
            (λ l. test (eqb a b)
            (λ d. subst (λ (x : ℕ). (b ∷ ds ≡ circle_at line k x m) ⊎ Is (before (circle_at line k x m) (b ∷ ds))) (sym (eqb-true a b d)) (subst (λ (n : ℕ). (b ∷ ds ≡ circle_at line k b n) ⊎ Is (before (circle_at line k b n) (b ∷ ds))) e (same_head (way_back line k b (length ds) b) (way_first b b ds h))))
            (λ d. let n = ltb-false b a l in let x = eqb-false a b d in inr (before_head a b (way_back line k a m a) ds (omega arith))))

    sought_only : (c : List ℕ) → NoneFound line k 1 k c ⊎ Found line k 1 k c → c ≡ circle_at line k a m
    sought_only [] s = let n = (no_fewer line k [] s (circle_at line k a m) sought_closed sought_below).0 in absurd (omega arith)
    sought_only (b ∷ ds) s = go (is-first line k (b ∷ ds) s (circle_at line k a m) sought_closed sought_below sought_lowest (sought_length ∙ sym (ap suc (as_many b ds s)))) (not_before b ds s)
      where
        go : (circle_at line k a m ≡ b ∷ ds) ⊎ Is (before (b ∷ ds) (circle_at line k a m)) → (b ∷ ds ≡ circle_at line k a m) ⊎ Is (before (circle_at line k a m) (b ∷ ds)) → b ∷ ds ≡ circle_at line k a m
        go (inl e) q = sym e
        go (inr p) (inl e) = e
        go (inr p) (inr q) = absurd (before-apart (b ∷ ds) (circle_at line k a m) p q)

    -- THE LAW OF THE SEARCH: the least number of roles with which a role leads back to itself, for it the lowest such role, and then the
    -- least next role each time
    pub search_found : circle_in line k ≡ circle_at line k a m
    search_found = sought_only (circle_in line k) (circle_cases line k)

  pub search_none : ((m a : ℕ) → m < k → a < k → leads_back line k a m a ≡ false) → circle_in line k ≡ []
  search_none n = none_sought n (circle_in line k) (circle_cases line k)

  -- ---- as two loops have it, over the number of roles beside the lowest and over the lowest

  pub search_at : (a m : ℕ) → a < k → any (some_back line k) (up_to m) ≡ false → any (λ b. leads_back line k b m b) (up_to a) ≡ false → Is (leads_back line k a m a) → circle_in line k ≡ circle_at line k a m
  search_at a m l fewer lower h =
      search_found a m l h
      (λ j b i d. none_of (λ b. leads_back line k b j b) k (none_of (some_back line k) m fewer j i) b d)
      (λ b d. none_of (λ b. leads_back line k b m b) a lower b d)
    where
      none_of : (f : ℕ → Bool) (n : ℕ) → any f (up_to n) ≡ false → (i : ℕ) → i < n → f i ≡ false
      none_of f n e i l = fails (f i) (λ p. never (any_in f (up_to_in l) p) e)

  pub search_end : any (some_back line k) (up_to k) ≡ false → circle_in line k ≡ []
  search_end e = search_none (λ m a i d. fails (leads_back line k a m a) (λ p. never (any_in (some_back line k) (up_to_in i) (any_in (λ b. leads_back line k b m b) (up_to_in d) p)) e))

  -- the list that is sought is the circle
  pub sought-circle : sought_circle line k ≡ circle_in line k
  unfolding sought_circle
  sought-circle = test (ltb m k) (λ h. rw h (sym (some_back_lem (ltb-true m k h)))) (λ h. rw h (sym (none-back (ltb-false m k h))))
    where
      m : ℕ
      m = fewest_back line k

      a : ℕ
      a = lowest_back line k m

      some_back_lem : m < k → circle_in line k ≡ circle_at line k a m
      some_back_lem h =
          let t = any_out (λ b. leads_back line k b m b) (up_to k) (lowest_from-hits (some_back line k) 0 k (omega arith)) in
          let l = up_to-out k t.1 in
          let n = least-most (λ b. leads_back line k b m b) k t.0 t.2 in
          search_found a m (omega arith) (lowest_from-some (λ b. leads_back line k b m b) 0 k t.0 (omega arith) (omega arith) t.2)
          (λ j b i d. fails (leads_back line k b j b) (λ p. never (any_in (λ b. leads_back line k b j b) (up_to_in d) p) (lowest_from-misses (some_back line k) 0 k j (omega arith) i)))
          (λ b d. lowest_from-misses (λ b. leads_back line k b m b) 0 k b (omega arith) d)

      none-back : k ≤ m → circle_in line k ≡ []
      none-back h = search_none (λ j b i d. fails (leads_back line k b j b) (λ p. never (any_in (λ b. leads_back line k b j b) (up_to_in d) p) (lowest_from-misses (some_back line k) 0 k j (omega arith) (omega arith))))

  -- ---- sets of roles as words

  -- there is a follower exactly where the set is not empty
  pub followers-some : (a m x : ℕ) → leads_back line k a (suc m) x ≡ not (eqb (followers line k a m x) 0)
  unfolding followers
  followers-some a m x =
      let f = may_follow line k a m x in
      any_ext f (bit (mask_of k f)) (up_to k) (λ i j. sym (bit_mask k f i (up_to-out k j)))
      ∙ sym (ap not (empty_law k (mask_of k f) (mask_lt k f)) ∙ not-not (any (bit (mask_of k f)) (up_to k)))
    where
      not-not : (b : Bool) → not (not b) ≡ b
      not-not true = refl
      not-not false = refl

  -- and its least is the least that may follow
  pub followers-least : (a m x : ℕ) → k ≤ 64 → Is (leads_back line k a (suc m) x) → lowest_from (bit (followers line k a m x)) 0 64 ≡ least_next line k a m x
  unfolding followers
  followers-least a m x w h =
      let f = may_follow line k a m x in
      let p = lowest_from f 0 k in
      let g = bit (mask_of k f) in
      let q = lowest_from g 0 64 in
      let t = least-follows a m x h in
      let below = t.0 in
      let gp : Is (g p) = bit_mask k f p t.0 ∙ t.1 in
      let gq : Is (ltb q k && f q) = sym (bit-mask_of k f q) ∙ lowest_from-some g 0 64 p (omega arith) (omega arith) gp in
      let one = least-most g 64 p gp in
      let two = least-most f k q (and_r (ltb q k) (f q) gq) in
      omega arith

  -- from a word of x's lines and the word of the roles from which m more lead back: what stands in both, and above a
  pub followers-word : (a m x v w u : ℕ) → k ≤ 64 → ((y : ℕ) → y < k → bit v y ≡ line x y) → w ≡ mask_of k (leads_back line k a m)
      → u ≡ mask_of 64 (λ y. bit (mask_of 64 (λ z. bit v z && bit w z)) y && not (bit (mask_of 64 (λ z. ltb z (a + 1))) y)) → u ≡ followers line k a m x
  unfolding followers
  followers-word a m x v w u l lines back e =
      e ∙ sym (mask_wide k 64 (may_follow line k a m x) l ∙ mask_same 64 (λ y. ltb y k && may_follow line k a m x y) (λ y. bit (mask_of 64 (λ z. bit v z && bit w z)) y && not (bit (mask_of 64 (λ z. ltb z (a + 1))) y)) each-bit)
    where
      above : (y : ℕ) → not (ltb y (a + 1)) ≡ ltb a y
      above y = test (ltb a y) (λ h. let d = ltb-true a y h in rw (h, le-ltb y (a + 1) (omega arith)) refl) (λ h. let d = ltb-false a y h in rw (h, lt-ltb y (a + 1) (omega arith)) refl)

      inside : (c b o d : Bool) → (c && ((b && o) && d)) ≡ ((o && (c && d)) && b)
      inside true true true d = sym (and-true d)
      inside true true false d = refl
      inside true false true d = sym (and-false d)
      inside true false false d = refl
      inside false b true d = refl
      inside false b false d = refl

      each-bit : (y : ℕ) → y < 64 → (ltb y k && may_follow line k a m x y) ≡ (bit (mask_of 64 (λ z. bit v z && bit w z)) y && not (bit (mask_of 64 (λ z. ltb z (a + 1))) y))
      each-bit y i =
          inside (ltb y k) (ltb a y) (line x y) (leads_back line k a m y)
          ∙ sym (ap₂ ◌&&◌ (bit_mask 64 (λ z. bit v z && bit w z) y i ∙ seen) (ap not (bit_mask 64 (λ z. ltb z (a + 1)) y i) ∙ above y))
        where
          seen : (bit v y && bit w y) ≡ (line x y && (ltb y k && leads_back line k a m y))
          seen = ap (λ (b : Bool). bit v y && b) (ap (λ (n : ℕ). bit n y) back ∙ bit-mask_of k (leads_back line k a m) y) ∙ known (ltb y k) refl
            where
              known : (c : Bool) → ltb y k ≡ c → (bit v y && (c && leads_back line k a m y)) ≡ (line x y && (c && leads_back line k a m y))
              known true h = ap (λ (b : Bool). b && leads_back line k a m y) (lines y (ltb-true y k h))
              known false h = and-false (bit v y) ∙ sym (and-false (line x y))

  -- the next role of the way back, and from it the rest is possible
  pub way_next : (a m x y : ℕ) → k ≤ 64 → Is (leads_back line k a (suc m) x) → y ≡ lowest_from (bit (followers line k a m x)) 0 64
      → (way_back line k a (suc m) x ≡ y ∷ way_back line k a m y) × (y < k) × Is (leads_back line k a m y)
  way_next a m x y l h e =
      let n = least_next line k a m x in
      let d : y ≡ n = e ∙ followers-least a m x l h in
      let t = least-follows a m x h in
      (ap (λ (z : ℕ). z ∷ way_back line k a m z) (sym d), subst (λ (z : ℕ). z < k) (sym d) t.0, subst (λ (z : ℕ). Is (leads_back line k a m z)) (sym d) (and_r (ltb a n && line x n) (leads_back line k a m n) t.1))
