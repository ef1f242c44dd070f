-- The laws of searches: `any` and `position` over the numbers below a bound, and `all` over the members of a set, are the tests of lists
-- (Tests, Lowest).
-- Assumes nothing.
use Rattle.std.specs.Prelude.{ℕ, zero, suc, ◌+◌, ◌^◌, ◌≤◌, ◌<◌, eqb, ltb, Bool, true, false, cond, not, ◌&&◌, ◌||◌, List, [], ◌∷◌, length, Option, Some, None, ◌≡◌, refl}
use Rattle.std.proofs.Common.{eqb-true, eq-eqb, ne_eqb, ltb-false, sym, ap, subst, ◌∙◌, arith}
use Rattle.std.proofs.iter.Yields.{nat_range_steps}
use Rattle.std.proofs.lemmas.Bool.{eqb-false}
use Rattle.std.proofs.lemmas.Iterator.{YieldsList, YieldsList-from_range}
use Rattle.std.proofs.lemmas.Iterator.Search.{any_from_yields_List, all_from_yields_List, position_from_yields_List}
use Rattle.std.proofs.lemmas.List.FromFn.{length-range_with_len}
use Rattle.std.proofs.Math.Bool.{and-false, and-true}
use Rattle.std.specs.declared.ops.Range.{Range}
use Rattle.std.specs.Iterator.{ActsAs, AlwaysYields, ChecksAll, ChecksAny, FindsPosition}
use Rattle.std.specs.List.{list_any, list_all, position_or_len, range_with_len}
use Rattle.std.specs.Option.{unwrap_or}
use denote.Param.Members.{Mut}
use Rattle.sets.specs.declared.Ascending.{Ascending}
use Rattle.sets.specs.ListLaws.{keep_ext}
use Rattle.sets.specs.Lowest.{lowest_from}
use Rattle.sets.specs.LowestLaws.{lowest_from-most}
use Rattle.sets.specs.MaskLaws.{least-most}
use Rattle.sets.specs.MemberLaws.{bit-less}
use Rattle.sets.specs.Members.{LeastComes}
use Rattle.sets.specs.Sets.{bit, less_one}
use Rattle.sets.specs.SetLaws.{bit-none}
use Rattle.sets.specs.Tests.{Is, imp, all, any, keep, from, up_to}
use Rattle.sets.specs.TestLaws.{and_l, never, test, from_out}

-- ---- the numbers below a bound

any_in_run : (f : ℕ → Bool) (k n : ℕ) → list_any f (range_with_len k n) ≡ any f (from k n)
any_in_run f k zero = refl
any_in_run f k (suc n) = let e : k + 1 ≡ suc k = omega arith in ap (λ (b : Bool). f k || b) (ap (λ (i : ℕ). list_any f (range_with_len i n)) e ∙ any_in_run f (suc k) n)

module _ {F : Type 0} {g : Mut F (ℕ × Unit {0}) Bool} {n : ℕ} {u : Range ℕ} {p : F} {r : Bool} (f : ℕ → Bool) where
  -- `(0..n).any(..)` of a closure that tests each number as f does
  pub any_below : ChecksAny nat_range_steps g (record { start = 0; end = n }) p r u → ActsAs g p f → r ≡ any f (up_to n)
  any_below ran says = any_from_yields_List f u p r ran (YieldsList-from_range 0 n n refl (omega arith)) says ∙ any_in_run f 0 n

-- the first that passes, or the bound
first_in_run : (f : ℕ → Bool) (k n : ℕ) → k + position_or_len f (range_with_len k n) ≡ lowest_from f k n
first_in_run f k zero = omega arith
first_in_run f k (suc n) = go (f k) (let e : k + 1 ≡ suc k = omega arith in ap (λ (i : ℕ). i + position_or_len f (range_with_len i n)) e ∙ first_in_run f (suc k) n)
  where
    go : (b : Bool) → (k + 1) + position_or_len f (range_with_len (k + 1) n) ≡ lowest_from f (suc k) n → k + cond (not b) (1 + position_or_len f (range_with_len (k + 1) n)) 0 ≡ cond b k (lowest_from f (suc k) n)
    go true e = omega arith
    go false e = omega arith

module _ {F : Type 0} {g : Mut F (ℕ × Unit {0}) Bool} {n : ℕ} {u : Range ℕ} {p : F} {r : Option ℕ} (f : ℕ → Bool) where
  -- `(0..n).position(..)`
  pub first_below : FindsPosition nat_range_steps g (record { start = 0; end = n }) p r u → ActsAs g p f → unwrap_or r n ≡ lowest_from f 0 n
  first_below ran says =
      let at : r ≡ cond (ltb (position_or_len f (range_with_len 0 n)) (length (range_with_len 0 n))) (Some (position_or_len f (range_with_len 0 n))) None = position_from_yields_List f u p r ran (YieldsList-from_range 0 n n refl (omega arith)) says in
      ap (λ (o : Option ℕ). unwrap_or o n) at ∙ go _ (lowest_from f 0 n) _ (ltb (position_or_len f (range_with_len 0 n)) (length (range_with_len 0 n))) refl (length-range_with_len 0 n) (first_in_run f 0 n) (lowest_from-most f 0 n)
    where
      go : (i l k : ℕ) (b : Bool) → ltb i k ≡ b → k ≡ n → 0 + i ≡ l → l ≤ 0 + n → unwrap_or (cond b (Some i) None) n ≡ l
      go i l k true q d e m = omega arith
      go i l k false q d e m = let w = ltb-false i k q in omega arith

-- ---- the members of a set

-- they come in the order of their numbers
ascending : (k n : ℕ) (s : Ascending) → k + n ≡ 64 → s.rest < 2 ^ 64 → ((i : ℕ) → Is (bit s.rest i) → k ≤ i) → AlwaysYields LeastComes (λ x. x) s (keep (bit s.rest) (from k n))
ascending k zero s e h low = λ x j t. let l = low x t.member in let b = t.below in absurd (omega arith)
ascending k (suc n) s e h low = go (bit s.rest k) refl (λ j. ascending (suc k) n j (omega arith))
  where
    behind : (m : ℕ) → ((i : ℕ) → Is (bit m i) → k ≤ i) → bit m k ≡ false → (i : ℕ) → Is (bit m i) → suc k ≤ i
    behind m l q i b = test (eqb i k) (λ z. never b (ap (bit m) (eqb-true i k z) ∙ q)) (λ z. let d = eqb-false i k z in let w = l i b in omega arith)

    go : (b : Bool) → bit s.rest k ≡ b
        → ((j : Ascending) → j.rest < 2 ^ 64 → ((i : ℕ) → Is (bit j.rest i) → suc k ≤ i) → AlwaysYields LeastComes (λ x. x) j (keep (bit j.rest) (from (suc k) n)))
        → AlwaysYields LeastComes (λ x. x) s (cond b (k ∷ keep (bit s.rest) (from (suc k) n)) (keep (bit s.rest) (from (suc k) n)))
    go false q on = on s h (behind s.rest low q)
    go true q on = (
      λ j t. never q (ap (λ (m : ℕ). bit m k) t.0 ∙ bit-none k),
      λ x j t.
          let is : x ≡ k = let l = low x t.member in let m = least-most (bit s.rest) 64 k q in omega (arith, t.least) in
          let others : (i : ℕ) → bit j.rest i ≡ (bit s.rest i && not (eqb i k)) = λ i. ap (λ (m : ℕ). bit m i) (t.others ∙ ap (less_one s.rest) is) ∙ bit-less s.rest h k i in
          let gone : bit j.rest k ≡ false = others k ∙ ap (λ (b : Bool). bit s.rest k && not b) (eq-eqb k k refl) ∙ and-false (bit s.rest k) in
          let same : keep (bit j.rest) (from (suc k) n) ≡ keep (bit s.rest) (from (suc k) n) =
          keep_ext (bit j.rest) (bit s.rest) (from (suc k) n) (λ i m. let w = from_out (suc k) n m in others i ∙ ap (λ (b : Bool). bit s.rest i && not b) (ne_eqb i k (λ z. omega arith)) ∙ and-true (bit s.rest i)) in
          (is, subst (λ (l : List ℕ). AlwaysYields LeastComes (λ x. x) j l) same (on j (omega (arith, t.fewer)) (behind j.rest (λ i b. low i (and_l (bit s.rest i) _ (sym (others i) ∙ b))) gone))),
    )

all_of_kept : (test f : ℕ → Bool) (l : List ℕ) → list_all f (keep test l) ≡ all (λ i. imp (test i) (f i)) l
all_of_kept test f [] = refl
all_of_kept test f (x ∷ l) = go (test x) (all_of_kept test f l)
  where
    go : (b : Bool) → list_all f (keep test l) ≡ all (λ i. imp (test i) (f i)) l → list_all f (cond b (x ∷ keep test l) (keep test l)) ≡ (imp b (f x) && all (λ i. imp (test i) (f i)) l)
    go true e = ap (λ (b : Bool). f x && b) e
    go false e = e

in_order : (s : Ascending) → s.rest < 2 ^ 64 → YieldsList LeastComes (λ x. x) s (keep (bit s.rest) (up_to 64))
in_order s h = record { runs = ascending 0 64 s (omega arith) h (λ i b. omega arith) }

module _ {F : Type 0} {g : Mut F (ℕ × Unit {0}) Bool} {s u : Ascending} {p : F} {r : Bool} {m : ℕ} (f : ℕ → Bool) (h : m < 2 ^ 64) (e : s.rest ≡ m) where
  -- `members(m).all(..)` of a closure that tests each number as f does
  pub all_members : ChecksAll LeastComes g s p r u → ActsAs g p f → r ≡ all (λ i. imp (bit m i) (f i)) (up_to 64)
  all_members ran says = all_from_yields_List f u p r ran (in_order s (omega arith)) says ∙ all_of_kept (bit s.rest) f (up_to 64) ∙ ap (λ (m : ℕ). all (λ i. imp (bit m i) (f i)) (up_to 64)) e
