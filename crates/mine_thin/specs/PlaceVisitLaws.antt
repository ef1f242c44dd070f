-- The turns of thinning at the places that have a condition, least first, are the turns at all places.
-- Assumes nothing.
use Rattle.std.specs.Prelude.{ℕ, zero, suc, ◌+◌, ◌^◌, ◌-◌, ◌≤◌, ◌<◌, eqb, ltb, Bool, false, ◌&&◌, not, List, ◌≡◌, refl}
use Rattle.std.proofs.lemmas.Bool.{eqb-false, not-true}
use Rattle.std.proofs.Common.{ne_eqb, ltb-true, ltb-false, le-ltb, sym, ap, ◌∙◌, add-zero, add-suc, arith}
use Rattle.std.proofs.Math.Bool.{and-false, and-true}
use Rattle.sets.specs.MemberLaws.{bit-less}
use Rattle.sets.specs.Lowest.{lowest_from}
use Rattle.sets.specs.LowestLaws.{lowest_from-misses}
use Rattle.sets.specs.MaskLaws.{bit-out, mask_lt}
use Rattle.sets.specs.Sets.{bit, less_one}
use Rattle.sets.specs.SetLaws.{bit-none}
use Rattle.sets.specs.Tests.{Is}
use Rattle.sets.specs.TestLaws.{and_l, and_r, never, test, fails}
use Rattle.mine_theory.specs.Words.Words.{Words}
use Rattle.mine_rows.specs.KeptPlaces.{present_places, thin_by, thin_to}
use Rattle.mine_thin.specs.KeptPlacesLaws.{thin-within}
use Rattle.mine_present.specs.PlaceLaws.{thin_absent, thin-more}

pub present_low : (known attributes : List ℕ) (W : Words) (l : ℕ) → present_places known attributes W l < 2 ^ 50
unfolding present_places
present_low known attributes W l = mask_lt 50 _

-- what is kept is what the first turns leave, and the others are left
pub record Visited (links met : List ℕ) (us rs os : ℕ) (W : Words) (p rest kept : ℕ) : Type 0 where
  pub turns : ℕ
  pub few : turns ≤ 50
  pub so_far : kept ≡ thin_to links met us rs os W p turns
  pub left : (k : ℕ) → bit rest k ≡ (not (ltb k turns) && bit p k)

module _ (links met : List ℕ) (us rs os : ℕ) (W : Words) (p : ℕ) where
  -- turns at places without a condition change nothing
  skipped : (n d : ℕ) → ((k : ℕ) → n ≤ k → k < n + d → bit p k ≡ false) → thin_to links met us rs os W p (n + d) ≡ thin_to links met us rs os W p n
  skipped n zero h = ap (thin_to links met us rs os W p) (add-zero n)
  skipped n (suc d) h =
      ap (thin_to links met us rs os W p) (add-suc n d)
      ∙ sym (thin_absent links met us rs os W (thin_to links met us rs os W p (n + d)) (n + d)
      (fails (bit (thin_to links met us rs os W p (n + d)) (n + d)) (λ b. never (thin-within links met us rs os W p (n + d) (n + d) b) (h (n + d) (omega arith) (omega arith)))))
      ∙ skipped n d (λ k a b. h k a (omega arith))

  skipped-to : (n m : ℕ) → n ≤ m → ((k : ℕ) → n ≤ k → k < m → bit p k ≡ false) → thin_to links met us rs os W p m ≡ thin_to links met us rs os W p n
  skipped-to n m l h = let e : m ≡ n + (m - n) = omega arith in ap (thin_to links met us rs os W p) e ∙ skipped n (m - n) (λ k a b. h k a (omega arith))

  pub visit_begin : (rest kept : ℕ) → rest ≡ kept → kept ≡ p → Visited links met us rs os W p rest kept
  visit_begin rest kept r e = record { turns = 0; few = omega arith; so_far = e; left = λ k. ap (λ (x : ℕ). bit x k) (r ∙ e) ∙ sym (ap (λ (b : Bool). not b && bit p k) (le-ltb k 0 (omega arith))) }

  module _ (rest kept : ℕ) (v : Visited links met us rs os W p rest kept) where
    -- a place after the turns is one of those left
    left_there : (k : ℕ) → v.turns ≤ k → bit rest k ≡ bit p k
    left_there k l = v.left k ∙ ap (λ (b : Bool). not b && bit p k) (le-ltb k v.turns l)

    -- a turn
    pub visit_turn : (y fewer after : ℕ) → p < 2 ^ 50 → rest < 2 ^ 64 → y ≡ lowest_from (bit rest) 0 64 → Is (bit rest y) → fewer ≡ less_one rest y → after ≡ thin_by links met us rs os W kept y
        → Visited links met us rs os W p fewer after
    visit_turn y fewer after small h e b s q = record {
      turns = y + 1;
      few = let l = low in omega arith;
      so_far = thin-more links met us rs os W p y (v.so_far ∙ sym (skipped-to v.turns y behind gap)) q;
      left = λ k. ap (λ (x : ℕ). bit x k) s ∙ bit-less rest h y k ∙ ap (λ (c : Bool). c && not (eqb k y)) (v.left k) ∙ at k;
    }
      where
        there : Is (not (ltb y v.turns) && bit p y)
        there = sym (v.left y) ∙ b

        behind : v.turns ≤ y
        behind = ltb-false y v.turns (not-true (ltb y v.turns) (and_l (not (ltb y v.turns)) (bit p y) there))

        low : y < 50
        low = test (ltb y 50) (ltb-true y 50) (λ o. never (and_r (not (ltb y v.turns)) (bit p y) there) (bit-out 50 p y small (ltb-false y 50 o)))

        gap : (k : ℕ) → v.turns ≤ k → k < y → bit p k ≡ false
        gap k a l = sym (left_there k a) ∙ lowest_from-misses (bit rest) 0 64 k (omega arith) (omega arith)

        at : (k : ℕ) → ((not (ltb k v.turns) && bit p k) && not (eqb k y)) ≡ (not (ltb k (y + 1)) && bit p k)
        at k = test (ltb k (y + 1))
            (λ l. rw l (test (eqb k y)
            (λ d. rw d (and-false (not (ltb k v.turns) && bit p k)))
            (λ d. test (ltb k v.turns)
            (λ t. rw t refl)
            (λ t. let w = ltb-true k (y + 1) l in let z = eqb-false k y d in rw (gap k (ltb-false k v.turns t) (omega arith), and-false) refl))))
            (λ l. let w = ltb-false k (y + 1) l in let z = behind in rw (l, le-ltb k v.turns (omega arith), ne_eqb k y (λ z. omega arith)) (and-true (bit p k)))

    -- with no place left all turns are done
    pub visit_done : rest ≡ 0 → kept ≡ thin_to links met us rs os W p 50
    visit_done e = v.so_far ∙ sym (skipped-to v.turns 50 v.few (λ k a _. sym (left_there k a) ∙ ap (λ (x : ℕ). bit x k) e ∙ bit-none k))
