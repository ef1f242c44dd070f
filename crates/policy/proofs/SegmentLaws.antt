-- The segments that cuts make of the parts: together they are all parts in their order, and without a cut they are one.
-- Assumes nothing.
use Prim.Native.Nat.{ℕ, zero, suc, ◌+◌, ◌≤◌, ◌<◌}
use Rattle.std.proofs.Common.{eqb-true, eq-eqb, leb-true, leb-false, ltb-true, ltb-false, ◌∙◌, arith}
use Rattle.std.proofs.lemmas.Bool.{eqb-false}
use Rattle.std.proofs.Math.Dec.{eqb}
use Rattle.std.specs.Prelude.{ltb, leb, Bool, true, false, cond, ◌≡◌, refl}
use Rattle.std.proofs.Math.ListN.{length}
use mathlib.Core.List.{List, [], ◌∷◌, ◌++◌, map, map-append}
use Rattle.std.proofs.Math.Path.{sym, ap}
use Rattle.policy.proofs.ClassLaws.{roles-rise}
use Rattle.policy.proofs.GroupLaws.{start-length}
use Rattle.policy.proofs.MergeLaws.{Runs}
use Rattle.policy.specs.Merging.{stages, start_groups, mergeable, groups, merges_made}
use Rattle.policy.specs.Mined.{run_of, part_count, part_at, part_block, segments, mined_groups, merge_count}
use Rattle.policy.specs.Roles.{Roles}
use Rattle.policy.specs.Rules.{Setting}
use Rattle.policy.proofs.StageLaws.{together, stages-run, one_stage}
use Rattle.sets.specs.ListLaws.{each_map, keep-most, keep_all}
use Rattle.sets.specs.SortedLaws.{keep-rising, rising_ext, each-rising, from-rising}
use Rattle.sets.specs.Tests.{Is, ◌is_in◌, keep, each, up_to}
use Rattle.sets.specs.TestLaws.{test, keep_in, keep_out, each_in, each-out, up_to_in, up_to-out}

map_each : {A B C : Type 0} (f : B → C) (g : A → List B) (l : List A) → map f (each g l) ≡ each (λ a. map f (g a)) l
map_each f g [] = refl
map_each f g (x ∷ xs) = map-append f (g x) (each g xs) ∙ ap (λ t. map f (g x) ++ t) (map_each f g xs)

-- numbers below n by a key that does not fall, those of one key behind those of the other, are the numbers below n
by_key : (key : ℕ → ℕ) (n m : ℕ) → ((i j : ℕ) → i < j → j < n → key i ≤ key j) → ((i : ℕ) → key i < m) → each (λ j. keep (λ i. eqb (key i) j) (up_to n)) (up_to m) ≡ up_to n
by_key key n m rises low =
    rising_ext (λ x y a b. absurd (omega arith))
    (each-rising (λ j. keep (λ i. eqb (key i) j) (up_to n)) (λ j. keep-rising (λ i. eqb (key i) j) (from-rising 0 n)) in_order (from-rising 0 m))
    (from-rising 0 n)
    (λ x k. let t = each-out (λ j. keep (λ i. eqb (key i) j) (up_to n)) (up_to m) k in (keep_out (λ i. eqb (key i) t.0) (up_to n) t.2).0)
    (λ x k. each_in (λ j. keep (λ i. eqb (key i) j) (up_to n)) (up_to_in (low x)) (keep_in (λ i. eqb (key i) (key x)) k (eq-eqb (key x) (key x) refl)))
  where
    in_order : (a b : ℕ) → a is_in up_to m → b is_in up_to m → a < b → (x y : ℕ) → x is_in keep (λ i. eqb (key i) a) (up_to n) → y is_in keep (λ i. eqb (key i) b) (up_to n) → x < y
    in_order a b ma mb h x y mx my =
        let s = keep_out (λ i. eqb (key i) a) (up_to n) mx in
        let t = keep_out (λ i. eqb (key i) b) (up_to n) my in
        let e = eqb-true (key x) a s.1 in
        let d = eqb-true (key y) b t.1 in
        let lx = up_to-out n s.0 in
        test (ltb x y) (ltb-true x y)
        (λ k. test (eqb x y)
        (λ q. let z = ap key (eqb-true x y q) in absurd (omega arith))
        (λ q. let w = ltb-false x y k in let v = eqb-false x y q in let z = rises y x (omega arith) lx in absurd (omega arith)))

-- ---- runs of roles

pub run-most : (cuts : List ℕ) (k : ℕ) → run_of cuts k < suc (length cuts)
unfolding run_of
run-most cuts k = let h = keep-most (λ c. leb c k) cuts in omega arith

-- a higher role stands in no earlier run
pub run-rises : (cuts : List ℕ) (k j : ℕ) → k ≤ j → run_of cuts k ≤ run_of cuts j
unfolding run_of
run-rises [] k j h = omega arith
run-rises (c ∷ cuts) k j h = go (leb c k) refl (leb c j) refl (run-rises cuts k j h)
  where
    go : (a : Bool) → leb c k ≡ a → (b : Bool) → leb c j ≡ b → length (keep (λ c. leb c k) cuts) ≤ length (keep (λ c. leb c j) cuts)
        → length (cond a (c ∷ keep (λ c. leb c k) cuts) (keep (λ c. leb c k) cuts)) ≤ length (cond b (c ∷ keep (λ c. leb c j) cuts) (keep (λ c. leb c j) cuts))
    go true d true e l = omega arith
    go true d false e l = let x = leb-true c k d in let y = leb-false c j e in absurd (omega arith)
    go false d true e l = omega arith
    go false d false e l = l

module _ (P : Setting) (R : Roles) where
  -- every part stands in a segment, and the segments follow one another in the order of parts
  pub segments-all : (cuts : List ℕ) → together (segments P R cuts) ≡ start_groups 0 (part_count P R)
  unfolding segments
  segments-all cuts =
      let key : ℕ → ℕ = λ p. run_of cuts (part_at P R p).role in
      each_map (λ gs. gs) (λ j. map (λ p. p ∷ []) (keep (λ p. eqb (key p) j) (up_to (part_count P R)))) (up_to (suc (length cuts)))
      ∙ sym (map_each (λ p. p ∷ []) (λ j. keep (λ p. eqb (key p) j) (up_to (part_count P R))) (up_to (suc (length cuts))))
      ∙ ap (map (λ p. p ∷ [])) (by_key key (part_count P R) (suc (length cuts)) (λ p q h l. run-rises cuts (part_at P R p).role (part_at P R q).role (roles-rise P R p q h l)) (λ p. run-most cuts (part_at P R p).role))

  -- merging with any cuts is a run of merges from the parts, each a group by itself, to where no pair is left
  pub mined-run : (cuts : List ℕ) → Runs (mergeable P (part_block P R)) ◌++◌ (start_groups 0 (part_count P R)) (mined_groups P R cuts) (merge_count P R cuts)
  unfolding mined_groups merge_count
  mined-run cuts =
      let e = segments-all cuts in
      let long = ap length e ∙ start-length 0 (part_count P R) in
      rw e at (stages-run (mergeable P (part_block P R)) ◌++◌ (part_count P R) (segments P R cuts) (omega arith))

  -- "An empty list of cuts": 01's groups, and 01's merges
  pub no_cuts : (mined_groups P R [] ≡ groups P (part_block P R) (part_count P R)) × (merge_count P R [] ≡ merges_made P (part_block P R) (part_count P R))
  unfolding mined_groups merge_count groups merges_made segments run_of
  no_cuts =
      let ok = mergeable P (part_block P R) in
      let n = part_count P R in
      let whole = ap (map (λ p. p ∷ [])) (keep_all (λ p. true) (up_to n) (λ p m. refl)) in
      let long = start-length 0 n in
      let r = one_stage ok ◌++◌ n (start_groups 0 n) (omega arith) in
      (ap (λ gs. (stages ok ◌++◌ n (gs ∷ [])).0) whole ∙ r.0, ap (λ gs. (stages ok ◌++◌ n (gs ∷ [])).1) whole ∙ r.1)
