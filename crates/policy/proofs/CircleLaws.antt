-- The circle that is shown is what request 3 says: 02, "Show the circle". A closed walk of lines with a role twice contains a shorter
-- one, a list of more than k numbers below k has one twice, and a circle may be listed from any of its roles.
-- Assumes nothing.
use Rattle.std.specs.Prelude.{ℕ, zero, suc, ◌+◌, ◌≤◌, ◌<◌, eqb, ltb, leb, length, get_or, Bool, true, false, cond, ◌&&◌, not, List, [], ◌∷◌, ◌++◌, map, ◌⊎◌, ◌↔◌, ◌≡◌, refl}
use Rattle.std.proofs.Common.{eqb-true, eq-eqb, ltb-true, ltb-false, lt-ltb, leb-true, leb-false, le-leb, length-append, append-nil, inl, inr, sym, ap, ap₂, ◌∙◌, subst, arith}
use Rattle.std.proofs.lemmas.Bool.{eqb-false, false≢true}
use mathlib.Core.List.Memᴰ
use Rattle.std.proofs.Math.Decide.{dec_lt}
use Rattle.policy.specs.Circles.{starts_lowest, unrepeated, all_lists, chained, closes, is_circle, circles_of, circle_from, circle_in, circle_of, Circle}
use Rattle.policy.specs.Policy.{Policy, Senior, reach, senior, circular, one, more}
use Rattle.policy.proofs.SeniorLaws.{reach-out, reach-more, reach-join, reach_in}
use Rattle.sets.specs.ListLaws.{length_none, keep_ext, map-rising}
use Rattle.sets.specs.Sorted.{Rising, before, none_left, and-then}
use Rattle.sets.specs.SortedLaws.{Before, keep-rising, each-rising, from-rising}
use Rattle.sets.specs.Tests.{Is, ◌is_in◌, any, keep, up_to, elem}
use Rattle.sets.specs.TestLaws.{and_in, and_l, and_r, or_l, or_r, or_out, never, test, fails, same, all_in, any_in, any_out, keep_in, keep_out, each_in, each-out, up_to_in, up_to-out, elem_in, elem_out, map_in, map-out, not_in}

-- ---- lists

-- a member of a list, and what stands before and behind it
pub record Place (x : ℕ) (l : List ℕ) : Type 0 where
  pub front : List ℕ
  pub back : List ℕ
  pub whole : l ≡ front ++ (x ∷ back)

place : {x : ℕ} {l : List ℕ} → x is_in l → Place x l
place (Memᴰ.head {xs = xs} e) = record { front = []; back = xs; whole = ap (λ (y : ℕ). y ∷ xs) (sym e) }
place (Memᴰ.tail {x = y} m) = let p = place m in record { front = y ∷ p.front; back = p.back; whole = ap (λ (l : List ℕ). y ∷ l) p.whole }

-- every number of a list is below a bound
abbrev pub Below : ℕ → List ℕ → Type 0
Below k l = (r : ℕ) → r is_in l → r < k

-- ---- a list of more than k numbers below k has one twice

unrepeated-tail : (x : ℕ) (l : List ℕ) → Is (unrepeated (x ∷ l)) → Is (unrepeated l)
unrepeated-tail x l h = and_r (not (elem x l)) (unrepeated l) h

pub unrepeated-head : (x : ℕ) (l : List ℕ) → Is (unrepeated (x ∷ l)) → x is_in l → ⊥
unrepeated-head x l h m = go (elem x l) (and_l (not (elem x l)) (unrepeated l) h) (elem_in m)
  where
    go : (b : Bool) → Is (not b) → Is b → ⊥
    go true p q = false≢true p
    go false p q = false≢true q

unrepeated_in : (x : ℕ) (l : List ℕ) → (x is_in l → ⊥) → Is (unrepeated l) → Is (unrepeated (x ∷ l))
unrepeated_in x l h u = and_in (not_in (elem x l) (fails (elem x l) (λ e. h (elem_out x l e)))) u

-- the list without the number k
abbrev other : ℕ → ℕ → Bool
other k x = not (eqb x k)

keep-unrepeated : (f : ℕ → Bool) (l : List ℕ) → Is (unrepeated l) → Is (unrepeated (keep f l))
keep-unrepeated f [] u = u
keep-unrepeated f (x ∷ xs) u = go (f x) (keep-unrepeated f xs (unrepeated-tail x xs u))
  where
    go : (b : Bool) → Is (unrepeated (keep f xs)) → Is (unrepeated (cond b (x ∷ keep f xs) (keep f xs)))
    go true r = unrepeated_in x (keep f xs) (λ m. unrepeated-head x xs u (keep_out f xs m).0) r
    go false r = r

keep-others : (k : ℕ) (l : List ℕ) → (k is_in l → ⊥) → length (keep (other k) l) ≡ length l
keep-others k [] h = refl
keep-others k (x ∷ xs) h =
    rw (not_in (eqb x k) (fails (eqb x k) (λ e. h (Memᴰ.head (sym (eqb-true x k e)))))) (ap suc (keep-others k xs (λ m. h (Memᴰ.tail m))))

keep-once : (k : ℕ) (l : List ℕ) → Is (unrepeated l) → length l ≤ suc (length (keep (other k) l))
keep-once k [] u = omega arith
keep-once k (x ∷ xs) u = test (eqb x k)
    (λ e. let d = keep-others k xs (λ m. unrepeated-head x xs u (rw (eqb-true x k e) m)) in rw e (omega arith))
    (λ e. let r = keep-once k xs (unrepeated-tail x xs u) in rw e (omega arith))

-- numbers below k, none of them twice, are at most k
pub few-below : (k : ℕ) (l : List ℕ) → Is (unrepeated l) → Below k l → length l ≤ k
few-below zero [] u b = omega arith
few-below zero (x ∷ xs) u b = let h = b x (Memᴰ.head refl) in absurd (omega arith)
few-below (suc k) l u b =
    let h = keep-once k l u in
    let r = few-below k (keep (other k) l) (keep-unrepeated (other k) l u) lower in
    omega arith
  where
    lower : Below k (keep (other k) l)
    lower r m = let t = keep_out (other k) l m in let h = b r t.0 in test (eqb r k) (λ e. never t.1 (rw e refl)) (λ e. let d = eqb-false r k e in omega arith)

-- ---- all lists, by their bytes

pub lists_in : (k : ℕ) (l : List ℕ) → Below k l → l is_in all_lists (length l) k
lists_in k [] b = Memᴰ.head refl
lists_in k (x ∷ l) b = each_in (λ a. map (λ l. a ∷ l) (all_lists (length l) k)) (up_to_in (b x (Memᴰ.head refl))) (map_in (λ l. x ∷ l) (lists_in k l (λ r m. b r (Memᴰ.tail m))))

pub lists-out : (n k : ℕ) {l : List ℕ} → l is_in all_lists n k → (length l ≡ n) × Below k l
lists-out zero k {l} (Memᴰ.head e) = rw e (refl, λ r m. absurd (Memᴰ.not-nil m))
lists-out zero k (Memᴰ.tail m) = absurd (Memᴰ.not-nil m)
lists-out (suc n) k {l} m =
    let s = each-out (λ a. map (λ l. a ∷ l) (all_lists n k)) (up_to k) m in
    let t = map-out (λ l. s.0 ∷ l) (all_lists n k) s.2 in
    let r = lists-out n k t.1 in
    rw t.2 (ap suc r.0, λ x i. go t.0 s.0 (up_to-out k s.1) r.1 x (Memᴰ.cases_cons i))
  where
    go : (l : List ℕ) (a : ℕ) → a < k → Below k l → (x : ℕ) → (x ≡ a) ⊎ (x is_in l) → x < k
    go l a h b x (inl e) = omega arith
    go l a h b x (inr i) = b x i

pub before_head : (x y : ℕ) (l m : List ℕ) → x < y → Is (before (x ∷ l) (y ∷ m))
before_head x y l m h = or_l (eqb x y && before l m) (lt-ltb x y h)

pub before-tail : (x : ℕ) (l m : List ℕ) → Is (before l m) → Is (before (x ∷ l) (x ∷ m))
before-tail x l m h = or_r (ltb x x) (and_in (eq-eqb x x refl) h)

pub lists-rising : (n k : ℕ) → Rising (Before before) (all_lists n k)
lists-rising zero k = and-then (λ y m. absurd (Memᴰ.not-nil m)) none_left
lists-rising (suc n) k =
    each-rising {R = ◌<◌} (λ a. map (λ l. a ∷ l) (all_lists n k))
    (λ a. map-rising {R = Before before} (λ l. a ∷ l) (λ l m i j h. before-tail a l m h) (lists-rising n k))
    (λ a b i j h x y p q. apart a b h x y (map-out (λ l. a ∷ l) (all_lists n k) p) (map-out (λ l. b ∷ l) (all_lists n k) q))
    (from-rising 0 k)
  where
    apart : (a b : ℕ) → a < b → (x y : List ℕ) → (l : List ℕ) × (l is_in all_lists n k) × (x ≡ a ∷ l) → (m : List ℕ) × (m is_in all_lists n k) × (y ≡ b ∷ m) → Is (before x y)
    apart a b h x y s t = rw (s.2, t.2) (before_head a b s.0 t.0 h)

-- ---- walks

module _ (line : ℕ → ℕ → Bool) where
  -- a walk in two
  walk_split : (a : ℕ) (q : List ℕ) (x : ℕ) (s : List ℕ) (b : ℕ) → Is (chained line a (q ++ (x ∷ s)) b) → Is (chained line a q x) × Is (chained line x s b)
  walk_split a [] x s b h = (and_l (line a x) (chained line x s b) h, and_r (line a x) (chained line x s b) h)
  walk_split a (c ∷ q) x s b h =
      let r = walk_split c q x s b (and_r (line a c) (chained line c (q ++ (x ∷ s)) b) h) in
      (and_in (and_l (line a c) (chained line c (q ++ (x ∷ s)) b) h) r.0, r.1)

  -- two walks in one
  walk_join : (a : ℕ) (q : List ℕ) (x : ℕ) (s : List ℕ) (b : ℕ) → Is (chained line a q x) → Is (chained line x s b) → Is (chained line a (q ++ (x ∷ s)) b)
  walk_join a [] x s b p h = and_in p h
  walk_join a (c ∷ q) x s b p h = and_in (and_l (line a c) (chained line c q x) p) (walk_join c q x s b (and_r (line a c) (chained line c q x) p) h)

  -- a closed walk through roles of a list
  pub record Walk (l : List ℕ) : Type 0 where
    pub start : ℕ
    pub rest : List ℕ
    pub closed : Is (chained line start rest start)
    pub inside : (r : ℕ) → r is_in (start ∷ rest) → r is_in l

  -- a walk with a role twice contains a shorter closed one
  cut : (a : ℕ) (cs : List ℕ) (b : ℕ) → Is (chained line a cs b) → unrepeated (a ∷ cs) ≡ false → (w : Walk (a ∷ cs)) × (length w.rest < length cs)
  cut a [] b h u = absurd (false≢true (sym u))
  cut a (c ∷ ds) b h u = test (elem a (c ∷ ds)) (λ e. here (place (elem_out a (c ∷ ds) e))) (λ e. there (cut c ds b (and_r (line a c) (chained line c ds b) h) (rest-twice (elem a (c ∷ ds)) (unrepeated (c ∷ ds)) e u)))
    where
      rest-twice : (x y : Bool) → x ≡ false → (not x && y) ≡ false → y ≡ false
      rest-twice true y p q = absurd (false≢true (sym p))
      rest-twice false y p q = q

      here : Place a (c ∷ ds) → (w : Walk (a ∷ c ∷ ds)) × (length w.rest < length (c ∷ ds))
      here p =
          let e = p.whole in (
            record {
              start = a;
              rest = p.front;
              closed = (walk_split a p.front a p.back b (sym (ap (λ (l : List ℕ). chained line a l b) e) ∙ h)).0;
              inside = λ r m. go r (Memᴰ.cases_cons m);
            },
            let d = ap length e in let n = length-append p.front (a ∷ p.back) in omega arith,
          )
        where
          go : (r : ℕ) → (r ≡ a) ⊎ (r is_in p.front) → r is_in (a ∷ c ∷ ds)
          go r (inl q) = Memᴰ.head q
          go r (inr m) = let i : r is_in (c ∷ ds) = rw p.whole (Memᴰ.append_left (a ∷ p.back) m) in Memᴰ.tail i

      there : (w : Walk (c ∷ ds)) × (length w.rest < length ds) → (w : Walk (a ∷ c ∷ ds)) × (length w.rest < length (c ∷ ds))
      there w = (record { start = w.0.start; rest = w.0.rest; closed = w.0.closed; inside = λ r m. Memᴰ.tail (w.0.inside r m) }, let n = w.1 in omega arith)

  -- so there is one with no role twice
  straight : (n a : ℕ) (cs : List ℕ) → length cs < n → Is (chained line a cs a) → (w : Walk (a ∷ cs)) × Is (unrepeated (w.start ∷ w.rest)) × (length w.rest ≤ length cs)
  straight zero a cs l h = absurd (omega arith)
  straight (suc n) a cs l h = test (unrepeated (a ∷ cs))
      (λ u. (record { start = a; rest = cs; closed = h; inside = λ r m. m }, u, omega arith))
      (λ u. shorter (straight n) (cut a cs a h u))
    where
      shorter : ((a : ℕ) (cs : List ℕ) → length cs < n → Is (chained line a cs a) → (w : Walk (a ∷ cs)) × Is (unrepeated (w.start ∷ w.rest)) × (length w.rest ≤ length cs))
          → (w : Walk (a ∷ cs)) × (length w.rest < length cs) → (w : Walk (a ∷ cs)) × Is (unrepeated (w.start ∷ w.rest)) × (length w.rest ≤ length cs)
      shorter r w =
          let k = w.1 in
          let v = r w.0.start w.0.rest (omega arith) w.0.closed in
          let j = v.2 in
          (record { start = v.0.start; rest = v.0.rest; closed = v.0.closed; inside = λ r m. w.0.inside r (v.0.inside r m) }, v.1, omega arith)

  -- ---- a circle may be listed from any of its roles, so from its lowest

  turned-closed : (q : List ℕ) (x : ℕ) (s : List ℕ) → Is (closes line (q ++ (x ∷ s))) → Is (chained line x (s ++ q) x)
  turned-closed [] x s h = rw append-nil h
  turned-closed (a ∷ q) x s h = let t = walk_split a q x s a h in walk_join x s a q x t.1 t.0

  -- a list's lowest member, and its place
  lowest-place : (a : ℕ) (cs : List ℕ) → (x : ℕ) × Place x (a ∷ cs) × ((r : ℕ) → r is_in (a ∷ cs) → x ≤ r)
  lowest-place a [] = (a, record { front = []; back = []; whole = refl }, λ r m. only_one r (Memᴰ.cases_cons m))
    where
      only_one : (r : ℕ) → (r ≡ a) ⊎ (r is_in []) → a ≤ r
      only_one r (inl e) = omega arith
      only_one r (inr m) = absurd (Memᴰ.not-nil m)
  lowest-place a (c ∷ cs) = go (lowest-place c cs)
    where
      go : (x : ℕ) × Place x (c ∷ cs) × ((r : ℕ) → r is_in (c ∷ cs) → x ≤ r) → (x : ℕ) × Place x (a ∷ c ∷ cs) × ((r : ℕ) → r is_in (a ∷ c ∷ cs) → x ≤ r)
      go t = test (leb a t.0)
          (λ h. (a, record { front = []; back = c ∷ cs; whole = refl }, λ r m. first (leb-true a t.0 h) r (Memᴰ.cases_cons m)))
          (λ h. (t.0, record { front = a ∷ t.1.front; back = t.1.back; whole = ap (λ (l : List ℕ). a ∷ l) t.1.whole }, λ r m. later (leb-false a t.0 h) r (Memᴰ.cases_cons m)))
        where
          first : a ≤ t.0 → (r : ℕ) → (r ≡ a) ⊎ (r is_in (c ∷ cs)) → a ≤ r
          first h r (inl e) = omega arith
          first h r (inr m) = let d = t.2 r m in omega arith

          later : t.0 < a → (r : ℕ) → (r ≡ a) ⊎ (r is_in (c ∷ cs)) → t.0 ≤ r
          later h r (inl e) = omega arith
          later h r (inr m) = t.2 r m

  -- a closed walk, listed from its lowest role
  turned : (a : ℕ) (cs : List ℕ) → Is (chained line a cs a) → (w : Walk (a ∷ cs)) × Is (starts_lowest (w.start ∷ w.rest)) × (length w.rest ≡ length cs)
  turned a cs h = go (lowest-place a cs)
    where
      go : (x : ℕ) × Place x (a ∷ cs) × ((r : ℕ) → r is_in (a ∷ cs) → x ≤ r) → (w : Walk (a ∷ cs)) × Is (starts_lowest (w.start ∷ w.rest)) × (length w.rest ≡ length cs)
      go t =
          let x = t.0 in
          let q = t.1.front in
          let s = t.1.back in
          let e : a ∷ cs ≡ q ++ (x ∷ s) = t.1.whole in (
            record { start = x; rest = s ++ q; closed = turned-closed q x s (sym (ap (closes line) e) ∙ h); inside = inside },
            all_in (leb x) (s ++ q) (λ r m. le-leb x r (t.2 r (inside r (Memᴰ.tail m)))),
            let d = ap length e in let i = length-append q (x ∷ s) in let j = length-append s q in omega arith,
          )
        where
          back : (r : ℕ) → (r ≡ t.0) ⊎ ((r is_in t.1.back) ⊎ (r is_in t.1.front)) → r is_in (t.1.front ++ (t.0 ∷ t.1.back))
          back r (inl e) = Memᴰ.append_right t.1.front (Memᴰ.head e)
          back r (inr (inl m)) = Memᴰ.append_right t.1.front (Memᴰ.tail m)
          back r (inr (inr m)) = Memᴰ.append_left (t.0 ∷ t.1.back) m

          parted : (r : ℕ) → (r ≡ t.0) ⊎ (r is_in (t.1.back ++ t.1.front)) → (r ≡ t.0) ⊎ ((r is_in t.1.back) ⊎ (r is_in t.1.front))
          parted r (inl e) = inl e
          parted r (inr m) = inr (Memᴰ.append_cases t.1.back m)

          inside : (r : ℕ) → r is_in (t.0 ∷ (t.1.back ++ t.1.front)) → r is_in (a ∷ cs)
          inside r m = rw t.1.whole (back r (parted r (Memᴰ.cases_cons m)))

  -- ---- the circle that is found

  module _ (k : ℕ) where
    -- every closed walk has a circle of at most k of its roles that is listed from its lowest, and no longer
    shown_circle : (l : List ℕ) → Is (closes line l) → Below k l → (c : List ℕ) × (c is_in circles_of line k (length c)) × (0 < length c) × (length c ≤ k) × (length c ≤ length l)
    shown_circle [] h b = absurd (false≢true h)
    shown_circle (a ∷ cs) h b =
        let v = straight (suc (length cs)) a cs (omega arith) h in
        let w = turned v.0.start v.0.rest v.0.closed in
        let c = w.0.start ∷ w.0.rest in
        let below : Below k (v.0.start ∷ v.0.rest) = λ r m. b r (v.0.inside r m) in
        let n = few-below k (v.0.start ∷ v.0.rest) v.1 below in
        let i = v.2 in
        let j = w.2 in
        (c, keep_in (is_circle line) (lists_in k c (λ r m. below r (w.0.inside r m))) (and_in w.0.closed w.1), omega arith, omega arith, omega arith)

    -- what is found from n roles on, for m numbers of roles: a first circle, and no circle has fewer
    pub record Found (n m : ℕ) (c : List ℕ) : Type 0 where
      pub size : ℕ
      pub others : List (List ℕ)
      pub here : circles_of line k size ≡ c ∷ others
      pub enough : n ≤ size
      pub within : size < n + m
      pub none_smaller : (j : ℕ) → n ≤ j → j < size → circles_of line k j ≡ []

    -- or nothing
    abbrev pub NoneFound : ℕ → ℕ → List ℕ → Type 0
    NoneFound n m c = (c ≡ []) × ((j : ℕ) → n ≤ j → j < n + m → circles_of line k j ≡ [])

    found_cases : (n m : ℕ) → NoneFound n m (circle_from line k n m) ⊎ Found n m (circle_from line k n m)
    found_cases n zero = inl (refl, λ j a b. absurd (omega arith))
    found_cases n (suc m) = go (circles_of line k n) refl (found_cases (suc n) m)
      where
        go : (l : List (List ℕ)) → circles_of line k n ≡ l → NoneFound (suc n) m (circle_from line k (suc n) m) ⊎ Found (suc n) m (circle_from line k (suc n) m)
            → NoneFound n (suc m) (get_or l 0 (circle_from line k (suc n) m)) ⊎ Found n (suc m) (get_or l 0 (circle_from line k (suc n) m))
        go (c ∷ cs) e r = inr (record { size = n; others = cs; here = e; enough = omega arith; within = omega arith; none_smaller = λ j a b. absurd (omega arith) })
        go [] e (inl r) = inl (r.0, λ j a b. test (eqb j n) (λ d. rw (eqb-true j n d) e) (λ d. let x = eqb-false j n d in r.1 j (omega arith) (omega arith)))
        go [] e (inr r) = inr (record {
          size = r.size;
          others = r.others;
          here = r.here;
          enough = let a = r.enough in omega arith;
          within = let a = r.within in omega arith;
          none_smaller = λ j a b. test (eqb j n) (λ d. rw (eqb-true j n d) e) (λ d. let x = eqb-false j n d in r.none_smaller j (omega arith) b);
        })

    pub circle_cases : NoneFound 1 k (circle_in line k) ⊎ Found 1 k (circle_in line k)
    unfolding circle_in
    circle_cases = found_cases 1 k

    module _ (c : List ℕ) where
      none-empty : NoneFound 1 k c → length c ≡ 0
      none-empty r = ap length r.0

      found_circle : (f : Found 1 k c) → (length c ≡ f.size) × Below k c × Is (is_circle line c)
      found_circle f =
          let m : c is_in circles_of line k f.size = subst (λ (l : List (List ℕ)). c is_in l) (sym f.here) (Memᴰ.head refl) in
          let t = keep_out (is_circle line) (all_lists f.size k) m in
          let o = lists-out f.size k t.0 in
          (o.0, o.1, t.1)

      -- a closed walk says that there is a circle, and none is longer
      pub no_fewer : NoneFound 1 k c ⊎ Found 1 k c → (l : List ℕ) → Is (closes line l) → Below k l → (0 < length c) × (length c ≤ length l)
      no_fewer s l h b = go s (shown_circle l h b)
        where
          go : NoneFound 1 k c ⊎ Found 1 k c → (d : List ℕ) × (d is_in circles_of line k (length d)) × (0 < length d) × (length d ≤ k) × (length d ≤ length l) → (0 < length c) × (length c ≤ length l)
          go (inl r) t = let p = t.2 in let q = t.3 in absurd (Memᴰ.not-nil (subst (λ (l : List (List ℕ)). t.0 is_in l) (r.1 (length t.0) (omega arith) (omega arith)) t.1))
          go (inr f) t =
              let p = t.2 in
              let q = t.4 in
              let e = (found_circle f).0 in
              let n = f.enough in
              elim (dec_lt (length t.0) f.size) [
                | yes d ↦ absurd (Memᴰ.not-nil (subst (λ (l : List (List ℕ)). t.0 is_in l) (f.none_smaller (length t.0) (omega arith) d) t.1))
                | no d ↦ omega arith
              ]

      -- of the circles as short, it is the first
      pub is-first : NoneFound 1 k c ⊎ Found 1 k c → (l : List ℕ) → Is (closes line l) → Below k l → Is (starts_lowest l) → length l ≡ length c → (l ≡ c) ⊎ Is (before c l)
      is-first (inl r) l h b s e = absurd (false≢true (sym (ap (closes line) (length_none l (e ∙ none-empty r))) ∙ h))
      is-first (inr f) l h b s e = go (Memᴰ.cases_cons (subst (λ (x : List (List ℕ)). l is_in x) f.here here)) rising
        where
          here : l is_in circles_of line k f.size
          here = keep_in (is_circle line) (subst (λ (n : ℕ). l is_in all_lists n k) (e ∙ (found_circle f).0) (lists_in k l b)) (and_in h s)

          rising : Rising (Before before) (c ∷ f.others)
          rising = subst (λ (x : List (List ℕ)). Rising (Before before) x) f.here (keep-rising (is_circle line) (lists-rising f.size k))

          go : (l ≡ c) ⊎ (l is_in f.others) → Rising (Before before) (c ∷ f.others) → (l ≡ c) ⊎ Is (before c l)
          go (inl d) r = inl d
          go (inr m) (and-then a r) = inr (a l m)

      pub is-closed : NoneFound 1 k c ⊎ Found 1 k c → 0 < length c → Is (closes line c)
      is-closed (inl r) h = let e = none-empty r in absurd (omega arith)
      is-closed (inr f) h = and_l (closes line c) (starts_lowest c) (found_circle f).2

      pub is_below : NoneFound 1 k c ⊎ Found 1 k c → Below k c
      is_below (inl r) x m = absurd (Memᴰ.not-nil (subst (λ (l : List ℕ). x is_in l) r.0 m))
      is_below (inr f) x m = (found_circle f).1 x m

      pub is-lowest : NoneFound 1 k c ⊎ Found 1 k c → Is (starts_lowest c)
      is-lowest (inl r) = ap starts_lowest r.0
      is-lowest (inr f) = and_r (closes line c) (starts_lowest c) (found_circle f).2

      pub is-few : NoneFound 1 k c ⊎ Found 1 k c → length c ≤ k
      is-few (inl r) = let e = none-empty r in omega arith
      is-few (inr f) = let e = (found_circle f).0 in let h = f.within in omega arith

    pub is-once : (c : List ℕ) → NoneFound 1 k c ⊎ Found 1 k c → Is (unrepeated c)
    is-once [] s = refl
    is-once (a ∷ cs) s = test (unrepeated (a ∷ cs)) (λ u. u) (λ u. twice (is-closed (a ∷ cs) s (omega arith)) u)
      where
        twice : Is (chained line a cs a) → unrepeated (a ∷ cs) ≡ false → Is (unrepeated (a ∷ cs))
        twice h u =
            let w = cut a cs a h u in
            let n = w.1 in
            let m = (no_fewer (a ∷ cs) s (w.0.start ∷ w.0.rest) w.0.closed (λ r i. is_below (a ∷ cs) s r (w.0.inside r i))).1 in
            absurd (omega arith)

    -- ---- a role that is its own senior

    -- a role is reached by a walk
    reach_walk : (n i j : ℕ) → Is (reach line n i j) → (cs : List ℕ) × Is (chained line i cs j) × Below n cs
    reach_walk zero i j h = ([], h, λ r m. absurd (Memᴰ.not-nil m))
    reach_walk (suc n) i j h = go (reach_walk n) (or_out (reach line n i j) (reach line n i n && reach line n n j) h)
      where
        parts : (p q : List ℕ) → Below n p → Below n q → (r : ℕ) → (r is_in p) ⊎ (r is_in (n ∷ q)) → r < suc n
        parts p q b d r (inl m) = let x = b r m in omega arith
        parts p q b d r (inr m) = last (Memᴰ.cases_cons m)
          where
            last : (r ≡ n) ⊎ (r is_in q) → r < suc n
            last (inl e) = omega arith
            last (inr i) = let x = d r i in omega arith

        go : ((i j : ℕ) → Is (reach line n i j) → (cs : List ℕ) × Is (chained line i cs j) × Below n cs) → Is (reach line n i j) ⊎ Is (reach line n i n && reach line n n j) → (cs : List ℕ) × Is (chained line i cs j) × Below (suc n) cs
        go f (inl p) = let t = f i j p in (t.0, t.1, λ r m. let x = t.2 r m in omega arith)
        go f (inr p) =
            let s = f i n (and_l (reach line n i n) (reach line n n j) p) in
            let t = f n j (and_r (reach line n i n) (reach line n n j) p) in
            (s.0 ++ (n ∷ t.0), walk_join i s.0 n t.0 j s.1 t.1, λ r m. parts s.0 t.0 s.2 t.2 r (Memᴰ.append_cases s.0 m))

    walk_reach : (n a : ℕ) (cs : List ℕ) (b : ℕ) → Is (chained line a cs b) → Below n cs → Is (reach line n a b)
    walk_reach n a [] b h l = reach-more line n a b h
    walk_reach n a (c ∷ cs) b h l =
        reach-join line n a c b (l c (Memᴰ.head refl)) (reach-more line n a c (and_l (line a c) (chained line c cs b) h)) (walk_reach n c cs b (and_r (line a c) (chained line c cs b) h) (λ r m. l r (Memᴰ.tail m)))

    closed-reach : (c : List ℕ) → Is (closes line c) → Below k c → Is (any (λ r. reach line k r r) (up_to k))
    closed-reach [] h b = absurd (false≢true h)
    closed-reach (a ∷ cs) h b = any_in (λ r. reach line k r r) (up_to_in (b a (Memᴰ.head refl))) (walk_reach k a cs a h (λ r m. b r (Memᴰ.tail m)))

    is_found : (c : List ℕ) → NoneFound 1 k c ⊎ Found 1 k c → any (λ r. reach line k r r) (up_to k) ≡ ltb 0 (length c)
    is_found c s = same (any (λ r. reach line k r r) (up_to k)) (ltb 0 (length c))
        (λ h. let t = any_out (λ r. reach line k r r) (up_to k) h in
        let l = up_to-out k t.1 in
        let w = reach_walk k t.0 t.0 t.2 in
        lt-ltb 0 (length c) (no_fewer c s (t.0 ∷ w.0) w.1 (λ r m. go t.0 l w.0 w.2 r (Memᴰ.cases_cons m))).0)
        (λ h. closed-reach c (is-closed c s (ltb-true 0 (length c) h)) (is_below c s))
      where
        go : (a : ℕ) → a < k → (l : List ℕ) → Below k l → (r : ℕ) → (r ≡ a) ⊎ (r is_in l) → r < k
        go a h l b r (inl e) = omega arith
        go a h l b r (inr m) = b r m

-- THE LAW: for any lines among any number of roles, the first circle is what request 3 says
pub circle-in : (F : Policy) → Circle F (circle_in F.line F.roles)
unfolding circular senior
circle-in F = record {
  found = is_found F.line F.roles c s;
  closed = is-closed F.line F.roles c s;
  declared = is_below F.line F.roles c s;
  lowest = is-lowest F.line F.roles c s;
  fewest = λ l h b. (no_fewer F.line F.roles c s l h b).1;
  first = is-first F.line F.roles c s;
  once = is-once F.line F.roles c s;
  few = is-few F.line F.roles c s;
}
  where
    c : List ℕ
    c = circle_in F.line F.roles

    s : NoneFound F.line F.roles 1 F.roles c ⊎ Found F.line F.roles 1 F.roles c
    s = circle_cases F.line F.roles

-- "accepted files an empty list": there is no circle to be found in them
pub circle_same : (F : Policy) → circle_of F ≡ circle_in F.line F.roles
unfolding circle_of
circle_same F = test (circular F) (λ h. rw h refl) (λ h. rw h (sym (length_none (circle_in F.line F.roles) (let n = ltb-false 0 (length (circle_in F.line F.roles)) (sym (circle-in F).found ∙ h) in omega arith))))

-- and the list of a file is what request 3 says
pub circle-of : (F : Policy) → Circle F (circle_of F)
circle-of F = subst (Circle F) (sym (circle_same F)) (circle-in F)

-- a file with no circle has the empty list, one with refusal 7 has not
pub circle_none : (F : Policy) → circular F ≡ false → circle_of F ≡ []
unfolding circle_of
circle_none F h = rw h refl

pub circle_some : (F : Policy) → Is (circular F) → 0 < length (circle_of F)
circle_some F h = ltb-true 0 (length (circle_of F)) (sym (circle-of F).found ∙ h)

-- where lines join roles of the file alone, every closed walk of lines is one among its roles
pub walk_declared : (F : Policy) → ((i j : ℕ) → Is (F.line i j) → (i < F.roles) × (j < F.roles)) → (l : List ℕ) → Is (closes F.line l) → Below F.roles l
walk_declared F d [] h = absurd (false≢true h)
walk_declared F d (a ∷ cs) h = along a cs h
  where
    along : (x : ℕ) (l : List ℕ) → Is (chained F.line x l a) → Below F.roles (x ∷ l)
    along x [] p r m = alone (Memᴰ.cases_cons m)
      where
        alone : (r ≡ x) ⊎ (r is_in []) → r < F.roles
        alone (inl e) = let b = (d x a p).0 in omega arith
        alone (inr i) = absurd (Memᴰ.not-nil i)
    along x (y ∷ l) p r m = on (along y l (and_r (F.line x y) (chained F.line y l a) p)) (Memᴰ.cases_cons m)
      where
        on : Below F.roles (y ∷ l) → (r ≡ x) ⊎ (r is_in (y ∷ l)) → r < F.roles
        on b (inl e) = let n = (d x y (and_l (F.line x y) (chained F.line y l a) p)).0 in omega arith
        on b (inr i) = b r i

-- and there a role is its own senior exactly if the file has refusal 7
pub own-senior : (F : Policy) → ((i j : ℕ) → Is (F.line i j) → (i < F.roles) × (j < F.roles)) → Is (circular F) ↔ ((r : ℕ) × Senior F.line r r)
unfolding circular senior
own-senior F d = (
  λ h. let t = any_out (λ r. reach F.line F.roles r r) (up_to F.roles) h in (t.0, reach-out F.line F.roles t.0 t.0 t.2),
  λ t. any_in (λ r. reach F.line F.roles r r) (up_to_in (junior t.1)) (reach_in F.line F.roles (λ i j l. (d i j l).1) t.1),
)
  where
    junior : {i j : ℕ} → Senior F.line i j → i < F.roles
    junior (one {i = i} {j = j} l) = (d i j l).0
    junior (more {i = i} {k = k} l p) = (d i k l).0

-- ---- lines that are the same among k roles have the same circle: a table of words has those of a file

module _ (line line' : ℕ → ℕ → Bool) (k : ℕ) (agree : (i j : ℕ) → i < k → j < k → line i j ≡ line' i j) where
  chained_ext : (a : ℕ) (cs : List ℕ) (b : ℕ) → a < k → Below k cs → b < k → chained line a cs b ≡ chained line' a cs b
  chained_ext a [] b p l q = agree a b p q
  chained_ext a (c ∷ cs) b p l q = ap₂ ◌&&◌ (agree a c p (l c (Memᴰ.head refl))) (chained_ext c cs b (l c (Memᴰ.head refl)) (λ r m. l r (Memᴰ.tail m)) q)

  closes_ext : (l : List ℕ) → Below k l → closes line l ≡ closes line' l
  closes_ext [] b = refl
  closes_ext (a ∷ cs) b = chained_ext a cs a (b a (Memᴰ.head refl)) (λ r m. b r (Memᴰ.tail m)) (b a (Memᴰ.head refl))

  circles_ext : (n : ℕ) → circles_of line k n ≡ circles_of line' k n
  circles_ext n = keep_ext (is_circle line) (is_circle line') (all_lists n k) (λ l m. ap (λ (x : Bool). x && starts_lowest l) (closes_ext l (lists-out n k m).1))

  from_ext : (n m : ℕ) → circle_from line k n m ≡ circle_from line' k n m
  from_ext n zero = refl
  from_ext n (suc m) = ap₂ (λ (l : List (List ℕ)) (r : List ℕ). get_or l 0 r) (circles_ext n) (from_ext (suc n) m)

  pub circle_ext : circle_in line k ≡ circle_in line' k
  unfolding circle_in
  circle_ext = from_ext 1 k
