-- Where the runs of roles that ascending cuts make begin and end among the parts: segments are stretches of part numbers.
-- Assumes nothing.
use Prim.Native.Nat.{ℕ, zero, suc, ◌+◌, ◌-◌, ◌≤◌, ◌<◌}
use Rattle.std.proofs.Common.{eqb-true, eq-eqb, leb-true, leb-false, le-leb, ltb-true, ltb-false, lt-ltb, le-ltb, sym, ◌∙◌, arith}
use Rattle.std.proofs.lemmas.Bool.{lt-leb}
use Rattle.std.specs.Prelude.{eqb, ltb, leb, length, get_or, Bool, true, false, cond, ◌≡◌, refl}
use mathlib.Core.List.Memᴰ
use mathlib.Core.List.{List, [], ◌∷◌, map}
use Rattle.std.proofs.Math.Path.{ap, fun_ext}
use Rattle.policy.specs.Merging.{start_groups}
use Rattle.policy.specs.Mined.{run_of, part_count, part_at, segments}
use Rattle.policy.specs.Roles.{Roles}
use Rattle.policy.specs.Rules.{Setting}
use Rattle.policy.proofs.SegmentLaws.{run-most}
use Rattle.sets.specs.Sorted.{Rising, none_left, and-then}
use Rattle.sets.specs.SortedLaws.{keep-rising, rising_ext, from-rising}
use Rattle.sets.specs.Tests.{Is, ◌is_in◌, keep, from, up_to}
use Rattle.sets.specs.TestLaws.{same, test, keep_in, keep_out, from_in, from_out, up_to_in, up_to-out, get_d_in}

next-test : (a b : ℕ) → ltb a b ≡ leb (suc a) b
next-test a b = same (ltb a b) (leb (suc a) b) (λ e. let h = ltb-true a b e in le-leb (suc a) b (omega arith)) (λ e. let h = leb-true (suc a) b e in lt-ltb a b (omega arith))

-- the numbers whose key is j, where those from a on have a key from j on, and those from b on one behind it
between : (n : ℕ) (key : ℕ → ℕ) (a b j : ℕ) → b ≤ n → ((p : ℕ) → p < n → leb a p ≡ leb j (key p)) → ((p : ℕ) → p < n → leb b p ≡ leb (suc j) (key p)) → keep (λ p. eqb (key p) j) (up_to n) ≡ from a (b - a)
between n key a b j most begins ends =
    rising_ext (λ x y h k. absurd (omega arith)) (keep-rising (λ p. eqb (key p) j) (from-rising 0 n)) (from-rising a (b - a))
    (λ p m.
    let t = keep_out (λ p. eqb (key p) j) (up_to n) m in
    let l = up_to-out n t.0 in
    let e = eqb-true (key p) j t.1 in
    let h = leb-true a p (begins p l ∙ le-leb j (key p) (omega arith)) in
    let k = leb-false b p (ends p l ∙ lt-leb (suc j) (key p) (omega arith)) in
    from_in a (b - a) p h (omega arith))
    (λ p m.
    let t = from_out a (b - a) m in
    let l : p < n = omega arith in
    let h = leb-true j (key p) (sym (begins p l) ∙ le-leb a p t.0) in
    let k = leb-false (suc j) (key p) (sym (ends p l) ∙ lt-leb b p (omega arith)) in
    keep_in (λ p. eqb (key p) j) (up_to_in l) (eq-eqb (key p) j (omega arith)))

-- and then b is not before a
no_fall : (n : ℕ) (key : ℕ → ℕ) (a b j : ℕ) → a ≤ n → ((p : ℕ) → p < n → leb a p ≡ leb j (key p)) → ((p : ℕ) → p < n → leb b p ≡ leb (suc j) (key p)) → a ≤ b
no_fall n key a b j most begins ends = test (leb a b) (leb-true a b)
    (λ e. let h = leb-false a b e in
    let k = leb-true (suc j) (key b) (sym (ends b (omega arith)) ∙ le-leb b b (omega arith)) in
    let l = leb-false j (key b) (sym (begins b (omega arith)) ∙ e) in
    absurd (omega arith))

-- no cut up to k is left where all are above it
keep-none : (k : ℕ) (cuts : List ℕ) → ((c : ℕ) → c is_in cuts → k < c) → keep (λ c. leb c k) cuts ≡ []
keep-none k [] h = refl
keep-none k (c ∷ cuts) h = rw (lt-leb c k (h c (Memᴰ.head refl))) (keep-none k cuts (λ d m. h d (Memᴰ.tail m)))

-- a role stands behind cut number j exactly if that cut is no higher than the role
pub run-behind : {cuts : List ℕ} → Rising ◌<◌ cuts → (j k : ℕ) → j < length cuts → ltb j (run_of cuts k) ≡ leb (get_or cuts j 0) k
unfolding run_of
run-behind none_left j k h = absurd (omega arith)
run-behind (and-then {x = c} {xs = cuts} above r) j k h = go (leb c k) refl j h (λ i l. run-behind r i k l)
  where
    none : leb c k ≡ false → keep (λ c. leb c k) cuts ≡ []
    none e = keep-none k cuts (λ d m. let a = leb-false c k e in let b = above d m in omega arith)

    go : (b : Bool) → leb c k ≡ b → (j : ℕ) → j < suc (length cuts) → ((i : ℕ) → i < length cuts → ltb i (length (keep (λ c. leb c k) cuts)) ≡ leb (get_or cuts i 0) k)
        → ltb j (length (cond b (c ∷ keep (λ c. leb c k) cuts) (keep (λ c. leb c k) cuts))) ≡ leb (get_or (c ∷ cuts) j 0) k
    go true e zero l rest = lt-ltb 0 (suc (length (keep (λ c. leb c k) cuts))) (omega arith) ∙ sym e
    go true e (suc i) l rest =
        let n = length (keep (λ c. leb c k) cuts) in
        same (ltb (suc i) (suc n)) (ltb i n) (λ q. let a = ltb-true (suc i) (suc n) q in lt-ltb i n (omega arith)) (λ q. let a = ltb-true i n q in lt-ltb (suc i) (suc n) (omega arith))
        ∙ rest i (omega arith)
    go false e zero l rest = ap (λ (t : List ℕ). ltb 0 (length t)) (none e) ∙ sym e
    go false e (suc i) l rest =
        let a = leb-false c k e in
        let b = above (get_or cuts i 0) (get_d_in cuts 0 i (omega arith)) in
        ap (λ (t : List ℕ). ltb (suc i) (length t)) (none e) ∙ le-ltb (suc i) 0 (omega arith) ∙ sym (lt-leb (get_or cuts i 0) k (omega arith))

-- among n parts of which the roles below k have `start k`: the number of the first part of run j; behind the last run, n
abbrev pub edge : List ℕ → (ℕ → ℕ) → ℕ → ℕ → ℕ
edge cuts start n zero = 0
edge cuts start n (suc i) = cond (ltb i (length cuts)) (start (get_or cuts i 0)) n

-- what is asked of `start`
pub record Begins (P : Setting) (R : Roles) (cuts : List ℕ) (start : ℕ → ℕ) : Type 0 where
  pub few : (c : ℕ) → c is_in cuts → start c ≤ part_count P R
  pub right : (c p : ℕ) → c is_in cuts → p < part_count P R → leb c (part_at P R p).role ≡ leb (start c) p

module _ (P : Setting) (R : Roles) (cuts : List ℕ) (rising : Rising ◌<◌ cuts) (start : ℕ → ℕ) (begins : Begins P R cuts start) where
  pub edge-most : (j : ℕ) → edge cuts start (part_count P R) j ≤ part_count P R
  edge-most zero = omega arith
  edge-most (suc i) = test (ltb i (length cuts))
      (λ e. rw e (begins.few (get_or cuts i 0) (get_d_in cuts 0 i (ltb-true i (length cuts) e))))
      (λ e. rw e (omega arith))

  -- a part stands from edge j on exactly if its role stands in run j or behind
  edge-behind : (j p : ℕ) → p < part_count P R → leb (edge cuts start (part_count P R) j) p ≡ leb j (run_of cuts (part_at P R p).role)
  edge-behind zero p h = le-leb 0 p (omega arith) ∙ sym (le-leb 0 (run_of cuts (part_at P R p).role) (omega arith))
  edge-behind (suc i) p h = test (ltb i (length cuts))
      (λ e. let l = ltb-true i (length cuts) e in
      rw e (sym (begins.right (get_or cuts i 0) p (get_d_in cuts 0 i l) h) ∙ sym (run-behind rising i (part_at P R p).role l) ∙ next-test i (run_of cuts (part_at P R p).role)))
      (λ e. let l = ltb-false i (length cuts) e in
      let m = run-most cuts (part_at P R p).role in
      rw e (lt-leb (part_count P R) p h ∙ sym (lt-leb (suc i) (run_of cuts (part_at P R p).role) (omega arith))))

  pub edge-rises : (j : ℕ) → edge cuts start (part_count P R) j ≤ edge cuts start (part_count P R) (suc j)
  edge-rises j = no_fall (part_count P R) (λ p. run_of cuts (part_at P R p).role) (edge cuts start (part_count P R) j) (edge cuts start (part_count P R) (suc j)) j (edge-most j) (edge-behind j) (edge-behind (suc j))

  -- segment j is the parts from one edge to the next, each a group by itself
  pub segments_by_edges : segments P R cuts ≡ map (λ j. start_groups (edge cuts start (part_count P R) j) (edge cuts start (part_count P R) (suc j) - edge cuts start (part_count P R) j)) (up_to (suc (length cuts)))
  unfolding segments
  segments_by_edges =
      ap (λ (f : ℕ → List (List ℕ)). map f (up_to (suc (length cuts))))
      (fun_ext λ j. ap (map (λ p. p ∷ []))
      (between (part_count P R) (λ p. run_of cuts (part_at P R p).role) (edge cuts start (part_count P R) j) (edge cuts start (part_count P R) (suc j)) j (edge-most (suc j)) (edge-behind j) (edge-behind (suc j))))
