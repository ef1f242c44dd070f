-- The laws of windows: which window is the worst, how the count of one becomes that of the next, and how the worst so far goes on.
-- Assumes nothing.
use Prim.Native.Nat.{ℕ, zero, suc, ◌+◌, ◌-◌, ◌≤◌, ◌<◌, min}
use Rattle.std.proofs.Common.{eqb-true, eq-eqb, le-leb, ap, ◌∙◌, add-zero, add-one}
use Rattle.std.proofs.lemmas.Bool.{lt-leb}
use Rattle.std.specs.Prelude.{eqb, leb, length, Bool, true, false, cond, List, ◌∷◌, map, ◌≡◌, refl}
use Rattle.std.proofs.Math.Path.{sym}
use Rattle.std.proofs.Math.Decide.{dec_lt}
use native.Mathlib.Omega.{arith}
use Rattle.files.specs.Windows.{Worst, largest, plain_count, window_count, starts, most_in, lowest_start, worst}
use Rattle.sets.specs.ListLaws.{keep_ext, keep-most, from-length}
use Rattle.sets.specs.Lowest.{lowest_from}
use Rattle.sets.specs.LowestLaws.{lowest_from-misses, lowest_from-some}
use Rattle.sets.specs.Tests.{Is, keep, from, up_to}
use Rattle.sets.specs.TestLaws.{from_out, never}

-- ---- the greatest of some counts, and the first that has it

-- of the counts 0 to k: m is the greatest, and s the first place of it
pub record Greatest (c : ℕ → ℕ) (k m s : ℕ) : Type 0 where
  pub among : s ≤ k
  pub has : c s ≡ m
  pub most : (t : ℕ) → t ≤ k → c t ≤ m
  pub earlier : (t : ℕ) → t < s → c t < m

module _ (c : ℕ → ℕ) where
  pub greatest_first : Greatest c 0 (c 0) 0
  greatest_first = record {
    among = omega arith;
    has = refl;
    most = λ t l. let e : t ≡ 0 = omega arith in rw e (omega arith);
    earlier = λ t l. absurd (omega arith);
  }

  -- one count more, which is greater than all before it, or not
  pub greatest_more : (k m s : ℕ) → Greatest c k m s → m < c (k + 1) → Greatest c (k + 1) (c (k + 1)) (k + 1)
  greatest_more k m s g h = record {
    among = omega arith;
    has = refl;
    most = λ t l. elim (dec_lt t (k + 1)) [ yes p ↦ (let a = g.most t (omega arith) in omega arith) | no q ↦ (let e : t ≡ k + 1 = omega arith in rw e (omega arith)) ];
    earlier = λ t l. let a = g.most t (omega arith) in omega arith;
  }

  pub greatest_still : (k m s : ℕ) → Greatest c k m s → c (k + 1) ≤ m → Greatest c (k + 1) m s
  greatest_still k m s g h = record {
    among = let a = g.among in omega arith;
    has = g.has;
    most = λ t l. elim (dec_lt t (k + 1)) [ yes p ↦ g.most t (omega arith) | no q ↦ (let e : t ≡ k + 1 = omega arith in rw e h) ];
    earlier = g.earlier;
  }

  -- there is one
  pub greatest_some : (k : ℕ) → (m : ℕ) × (s : ℕ) × Greatest c k m s
  greatest_some zero = (c 0, 0, greatest_first)
  greatest_some (suc k) = rw (← add-one k) (go (greatest_some k))
    where
      go : (m : ℕ) × (s : ℕ) × Greatest c k m s → (m : ℕ) × (s : ℕ) × Greatest c (k + 1) m s
      go t = elim (dec_lt t.0 (c (k + 1))) [
        | yes p ↦ (c (k + 1), k + 1, greatest_more k t.0 t.1 t.2 p)
        | no q ↦ (t.0, t.1, greatest_still k t.0 t.1 t.2 (omega arith))
      ]

  -- and it is the one that the definitions name
  largest-least : (m k n : ℕ) → ((t : ℕ) → k ≤ t → t < k + n → c t ≤ m) → largest (map c (from k n)) ≤ m
  largest-least m k zero h = omega arith
  largest-least m k (suc n) h =
      let a = h k (omega arith) (omega arith) in
      let b = largest-least m (suc k) n (λ t p q. h t (omega arith) (omega arith)) in
      omega arith

  largest-has : (t k n : ℕ) → k ≤ t → t < k + n → c t ≤ largest (map c (from k n))
  largest-has t k zero p q = absurd (omega arith)
  largest-has t k (suc n) p q =
      elim (dec_lt k t) [ yes l ↦ (let a = largest-has t (suc k) n (omega arith) (omega arith) in omega arith) | no r ↦ (let e : t ≡ k = omega arith in rw e (omega arith)) ]

  pub greatest_largest : (k m s : ℕ) → Greatest c k m s → largest (map c (up_to (suc k))) ≡ m
  greatest_largest k m s g =
      let a = largest-least m 0 (suc k) (λ t p q. g.most t (omega arith)) in
      let b = largest-has s 0 (suc k) (omega arith) (let z = g.among in omega arith) in
      let e = g.has in
      omega arith

  pub greatest_lowest : (k m s : ℕ) → Greatest c k m s → lowest_from (λ t. eqb (c t) m) 0 (suc k) ≡ s
  greatest_lowest k m s g =
      let f : ℕ → Bool = λ t. eqb (c t) m in
      let l = lowest_from f 0 (suc k) in
      let hit : Is (f s) = eq-eqb (c s) m g.has in
      let a = g.among in
      let b : Is (f l) = lowest_from-some f 0 (suc k) s (omega arith) (omega arith) hit in
      let not-later : s < l → ⊥ = λ p. never hit (lowest_from-misses f 0 (suc k) s (omega arith) p) in
      let not_earlier : l < s → ⊥ = λ p. let e = eqb-true (c l) m b in let d = g.earlier l p in omega arith in
      elim (dec_lt s l) [ yes p ↦ absurd (not-later p) | no q ↦ elim (dec_lt l s) [ yes p ↦ absurd (not_earlier p) | no r ↦ omega arith ] ]

pub greatest_ext : (c d : ℕ → ℕ) (k m s : ℕ) → ((t : ℕ) → t ≤ k → c t ≡ d t) → Greatest c k m s → Greatest d k m s
greatest_ext c d k m s h g = record {
  among = g.among;
  has = sym (h s g.among) ∙ g.has;
  most = λ t l. let a = g.most t l in let e = h t l in omega arith;
  earlier = λ t l. let a = g.earlier t l in let e = h t (let z = g.among in omega arith) in omega arith;
}

-- THE LAW of the worst window: it is known by being one
pub worst-is : (f : ℕ → Bool) (n w m s : ℕ) → Greatest (window_count f n w) (n - w) m s → worst f n w ≡ record { most = m; start = s }
unfolding worst most_in lowest_start starts
worst-is f n w m s g = go (most_in f n w) (greatest_largest (window_count f n w) (n - w) m s g)
  where
    go : (x : ℕ) → x ≡ m → ◌≡◌ {A = Worst} (record { most = x; start = lowest_from (λ t. eqb (window_count f n w t) x) 0 (suc (n - w)) }) (record { most = m; start = s })
    go x e =
        let found : ℕ → Worst = λ y. record { most = y; start = lowest_from (λ t. eqb (window_count f n w t) y) 0 (suc (n - w)) } in
        let begins : ℕ → Worst = λ y. record { most = m; start = y } in
        ap found e ∙ ap begins (greatest_lowest (window_count f n w) (n - w) m s g)

-- ---- counts

count_ext : (f g : ℕ → Bool) (s w : ℕ) → ((i : ℕ) → s ≤ i → i < s + w → f i ≡ g i) → plain_count f s w ≡ plain_count g s w
count_ext f g s w h = ap length (keep_ext f g (from s w) (λ i m. let b = from_out s w m in h i b.0 b.1))

-- tests that agree on all records have one worst window
pub worst_ext : (f g : ℕ → Bool) (n w : ℕ) → ((i : ℕ) → i < n → f i ≡ g i) → worst f n w ≡ worst g n w
unfolding window_count
worst_ext f g n w h =
    let t = greatest_some (window_count f n w) (n - w) in
    worst-is f n w t.0 t.1 t.2
    ∙ sym (worst-is g n w t.0 t.1 (greatest_ext (window_count f n w) (window_count g n w) (n - w) t.0 t.1 (λ s l. count_ext f g s (min w n) (λ i a b. h i (omega arith))) t.2))

-- no window has more than its records
pub count_most : (f : ℕ → Bool) (s w : ℕ) → plain_count f s w ≤ w
count_most f s w = let a = keep-most f (from s w) in let e = from-length s w in omega arith

-- a window by its first record and the rest, and by its last one and the rest
first_and_rest : (f : ℕ → Bool) (s w : ℕ) → plain_count f s (w + 1) ≡ cond (f s) 1 0 + plain_count f (s + 1) w
first_and_rest f s w = rw (add-one w, add-one s) (go (f s) (keep f (from (suc s) w)))
  where
    go : (b : Bool) (l : List ℕ) → length (cond b (s ∷ l) l) ≡ cond b 1 0 + length l
    go true l = omega arith
    go false l = omega arith

rest_and_last : (f : ℕ → Bool) (s w : ℕ) → plain_count f s (w + 1) ≡ plain_count f s w + cond (f (s + w)) 1 0
rest_and_last f s zero = first_and_rest f s 0 ∙ rw (add-zero s) (omega arith)
rest_and_last f s (suc w) = go (suc w) (sym (add-one w)) (rest_and_last f (s + 1) w)
  where
    go : (v : ℕ) → v ≡ w + 1 → plain_count f (s + 1) (w + 1) ≡ plain_count f (s + 1) w + cond (f ((s + 1) + w)) 1 0 → plain_count f s (v + 1) ≡ plain_count f s v + cond (f (s + v)) 1 0
    go v e h =
        rw e
        (let a = first_and_rest f s (w + 1) in
        let b = first_and_rest f s w in
        let c = h ∙ ap (λ (x : ℕ). plain_count f (s + 1) w + cond (f x) 1 0) {y = s + (w + 1)} (omega arith) in
        omega arith)

-- THE LAW of sliding: with record i the window grows by it, and once it is full the first one leaves
pub slides : (f : ℕ → Bool) (w i : ℕ) → plain_count f (i - w) (min w i) + cond (f i) 1 0 ≡ cond (leb w i) (cond (f (i - w)) 1 0) 0 + plain_count f ((i + 1) - w) (min w (i + 1))
slides f w i = elim (dec_lt i w) [ yes p ↦ growing p | no q ↦ full (omega arith) ]
  where
    growing : i < w → plain_count f (i - w) (min w i) + cond (f i) 1 0 ≡ cond (leb w i) (cond (f (i - w)) 1 0) 0 + plain_count f ((i + 1) - w) (min w (i + 1))
    growing p =
        let a : i - w ≡ 0 = omega arith in
        let b : min w i ≡ i = omega arith in
        let c : (i + 1) - w ≡ 0 = omega arith in
        let d : min w (i + 1) ≡ i + 1 = omega arith in
        rw (lt-leb w i p, a, b, c, d)
        (let e = rest_and_last f 0 i ∙ ap (λ (x : ℕ). plain_count f 0 i + cond (f x) 1 0) {y = i} (omega arith) in
        omega arith)

    full : w ≤ i → plain_count f (i - w) (min w i) + cond (f i) 1 0 ≡ cond (leb w i) (cond (f (i - w)) 1 0) 0 + plain_count f ((i + 1) - w) (min w (i + 1))
    full p =
        let b : min w i ≡ w = omega arith in
        let c : (i + 1) - w ≡ (i - w) + 1 = omega arith in
        let d : min w (i + 1) ≡ w = omega arith in
        rw (le-leb w i p, b, c, d)
        (let e = first_and_rest f (i - w) w in
        let g = rest_and_last f (i - w) w ∙ ap (λ (x : ℕ). plain_count f (i - w) w + cond (f x) 1 0) {y = i} (omega arith) in
        omega arith)

-- ---- the worst so far

-- of the first i records: the count of the last window, and the worst one
pub record SoFar (f : ℕ → Bool) (w i count most start : ℕ) : Type 0 where
  pub counted : count ≡ plain_count f (i - w) (min w i)
  pub worst_yet : Greatest (window_count f i w) (i - w) most start

pub none_yet : (f : ℕ → Bool) (w : ℕ) → SoFar f w 0 0 0 0
unfolding window_count
none_yet f w =
    let a : 0 - w ≡ 0 = omega arith in
    let b : min w 0 ≡ 0 = omega arith in
    record { counted = rw (a, b) refl; worst_yet = rw a (rw b at (greatest_first (window_count f 0 w))) }

-- no count wraps: it is at most as many as records were seen
pub counted-few : (f : ℕ → Bool) (w i count most start : ℕ) → SoFar f w i count most start → count ≤ i
counted-few f w i count most start h = let a = count_most f (i - w) (min w i) in let e = h.counted in omega arith

module _ (f : ℕ → Bool) (w i count most start : ℕ) (h : SoFar f w i count most start) where
  -- a window that is full, or was not yet
  alike : w ≤ i → Greatest (window_count f (i + 1) w) (i - w) most start
  unfolding window_count
  alike p =
      let b : min w i ≡ w = omega arith in
      let d : min w (i + 1) ≡ w = omega arith in
      greatest_ext (window_count f i w) (window_count f (i + 1) w) (i - w) most start (λ t l. rw (b, d) refl) h.worst_yet

  last_window : (x : ℕ) → x ≡ plain_count f ((i + 1) - w) (min w (i + 1)) → window_count f (i + 1) w ((i + 1) - w) ≡ x
  unfolding window_count
  last_window x e = sym e

  -- the next record, with the count of the window that it ends
  pub worse : (x : ℕ) → x ≡ plain_count f ((i + 1) - w) (min w (i + 1)) → most < x → SoFar f w (i + 1) x x ((i + 1) - w)
  worse x e l = record { counted = e; worst_yet = elim (dec_lt i w) [ yes p ↦ growing p | no q ↦ full (omega arith) ] }
    where
      growing : i < w → Greatest (window_count f (i + 1) w) ((i + 1) - w) x ((i + 1) - w)
      growing p =
          let a : (i + 1) - w ≡ 0 = omega arith in
          rw a (rw (← last_window x e, a) (greatest_first (window_count f (i + 1) w)))

      full : w ≤ i → Greatest (window_count f (i + 1) w) ((i + 1) - w) x ((i + 1) - w)
      full p =
          let a : (i + 1) - w ≡ (i - w) + 1 = omega arith in
          rw (← last_window x e, a) (greatest_more (window_count f (i + 1) w) (i - w) most start (alike p) (rw (← a, last_window x e) l))

  -- while the window grows, the worst is the last: it has no fewer with one record more
  growing-most : i < w → plain_count f (i - w) (min w i) ≡ most
  unfolding window_count
  growing-most p =
      let a : i - w ≡ 0 = omega arith in
      let d : start ≡ 0 = let z = h.worst_yet.among in omega arith in
      rw (a, ← d) h.worst_yet.has

  pub no_worse : (x : ℕ) → x ≡ plain_count f ((i + 1) - w) (min w (i + 1)) → x ≤ most → SoFar f w (i + 1) x most start
  no_worse x e l = record { counted = e; worst_yet = elim (dec_lt i w) [ yes p ↦ growing p | no q ↦ full (omega arith) ] }
    where
      growing : i < w → Greatest (window_count f (i + 1) w) ((i + 1) - w) most start
      growing p =
          let a : (i + 1) - w ≡ 0 = omega arith in
          let d : start ≡ 0 = let z = h.worst_yet.among in omega arith in
          let m = growing-most p in
          let k : plain_count f (i - w) (min w i) + cond (f i) 1 0 ≡ 0 + plain_count f ((i + 1) - w) (min w (i + 1)) = rw (lt-leb w i p) at (slides f w i) in
          let g : most ≡ x = omega arith in
          rw (d, a, g) (rw (← last_window x e, a) (greatest_first (window_count f (i + 1) w)))

      full : w ≤ i → Greatest (window_count f (i + 1) w) ((i + 1) - w) most start
      full p =
          let a : (i + 1) - w ≡ (i - w) + 1 = omega arith in
          rw a (greatest_still (window_count f (i + 1) w) (i - w) most start (alike p) (rw (← a, last_window x e) l))

-- all records were seen
pub all_seen : (f : ℕ → Bool) (w i n count most start : ℕ) → SoFar f w i count most start → i ≡ n → worst f n w ≡ record { most = most; start = start }
all_seen f w i n count most start h e = rw (← e) (worst-is f i w most start h.worst_yet)
