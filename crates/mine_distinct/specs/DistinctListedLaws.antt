-- The loop that lists the values of some members: it goes through the numbers of a place's values, and writes the values that are listed.
-- Assumes nothing.
use Rattle.std.specs.Prelude.{ℕ, suc, ◌+◌, ◌*◌, ◌-◌, ◌≤◌, ◌<◌, length, set, drop, Bool, true, false, cond, ◌&&◌, List, ◌∷◌, ◌++◌, map, ◌≡◌}
use borrow.Author.Tests.{eq-eqb, ne_eqb}
use Rattle.std.proofs.Math.Dec.{eqb}
use Rattle.std.proofs.Math.ListN.{get_or}
use Rattle.std.proofs.lemmas.List.{length-map}
use Rattle.std.proofs.Math.Bool.{not}
use Rattle.std.proofs.Math.Path.{refl, sym, ap}
use Rattle.std.proofs.Common.{◌∙◌, subst, add-one, arith}
use Rattle.mine_distinct.specs.InsideValues.{is_listed, listed_by}
use Rattle.sets.specs.MaskLaws.{size_mask, size-most}
use Rattle.sets.specs.Sets.{bit, mask_of}
use Rattle.sets.specs.Tests.{keep, from, up_to}
use Rattle.grant_listed.specs.ValueListLaws.{Listing, listing-begin, listing-room, listing-more, listing-end}

-- ---- the test

module _ (having inside : List ℕ) (i members k h : ℕ) (e : h ≡ mask_of 64 (λ x. bit (get_or having (64 * i + k) 0) x && bit members x)) where
  -- a value that no member has is not listed
  pub nobody-has : h ≡ 0 → false ≡ is_listed having inside i members k
  unfolding is_listed
  nobody-has z =
      sym (ap (λ (b : Bool). not b && eqb (mask_of 64 (λ x. bit (get_or inside (64 * i + k) 0) x && bit members x)) 0)
      (ap (λ (m : ℕ). eqb m 0) (sym e) ∙ eq-eqb h 0 z))

  -- one that a member has is, if none has a set strictly within it
  pub somebody-has : (w : ℕ) → (h ≡ 0 → ⊥) → w ≡ mask_of 64 (λ x. bit (get_or inside (64 * i + k) 0) x && bit members x) → eqb w 0 ≡ is_listed having inside i members k
  unfolding is_listed
  somebody-has w z d =
      ap (λ (m : ℕ). eqb m 0) d
      ∙ sym (ap (λ (b : Bool). not b && eqb (mask_of 64 (λ x. bit (get_or inside (64 * i + k) 0) x && bit members x)) 0)
      (ap (λ (m : ℕ). eqb m 0) (sym e) ∙ ne_eqb h 0 z))

-- ---- the loop: what is left to be written is what is listed of the numbers from k on

at_most : {a b c : ℕ} → a ≡ b → c ≡ b → c ≤ 64 → a ≤ 64
at_most d e m = omega arith

module _ (distinct having inside : List ℕ) (i members : ℕ) where
  abbrev left_from : ℕ → ℕ → List ℕ
  left_from k n = map (λ k. get_or distinct (64 * i + k) 0) (keep (is_listed having inside i members) (from k n))

  abbrev pub ListingBy : (table₀ table : List ℕ) (n k : ℕ) → Type 0
  ListingBy table₀ table n k = Listing (listed_by distinct having inside i members) table₀ table n (map (λ k. get_or distinct (64 * i + k) 0) (keep (is_listed having inside i members) (from k (64 - k))))

  -- no more are listed than there are numbers
  pub by_length : length (listed_by distinct having inside i members) ≤ 64
  unfolding listed_by
  by_length =
      at_most (length-map (keep (is_listed having inside i members) (up_to 64)) (λ k. get_or distinct (64 * i + k) 0)) (size_mask 64 (is_listed having inside i members) (omega arith)) (size-most (mask_of 64 (is_listed having inside i members)))

  module _ (table₀ : List ℕ) where
    -- it begins with all numbers
    pub by-begin : ListingBy table₀ table₀ 0 0
    unfolding listed_by
    by-begin = listing-begin (listed_by distinct having inside i members) table₀ (left_from 0 64) refl

    module _ (table : List ℕ) (n k : ℕ) (h : k < 64) (s : ListingBy table₀ table n k) where
      one_off : (b : Bool) → is_listed having inside i members k ≡ b
          → Listing (listed_by distinct having inside i members) table₀ table n (cond b (get_or distinct (64 * i + k) 0 ∷ left_from (k + 1) (64 - (k + 1))) (left_from (k + 1) (64 - (k + 1))))
      one_off b q = subst (λ (l : List ℕ). Listing (listed_by distinct having inside i members) table₀ table n l) (ap (left_from k) more ∙ go b q) s
        where
          more : 64 - k ≡ suc (64 - (k + 1))
          more = omega arith

          next : left_from (suc k) (64 - (k + 1)) ≡ left_from (k + 1) (64 - (k + 1))
          next = ap (λ (j : ℕ). left_from j (64 - (k + 1))) (sym (add-one k))

          go : (b : Bool) → is_listed having inside i members k ≡ b
              → left_from k (suc (64 - (k + 1))) ≡ cond b (get_or distinct (64 * i + k) 0 ∷ left_from (k + 1) (64 - (k + 1))) (left_from (k + 1) (64 - (k + 1)))
          go true q = rw q (ap (λ (l : List ℕ). get_or distinct (64 * i + k) 0 ∷ l) next)
          go false q = rw q next

      -- there is room for a value that is listed
      pub by-room : is_listed having inside i members k ≡ true → n < 64
      by-room q =
          let r = listing-room (listed_by distinct having inside i members) table₀ table n (get_or distinct (64 * i + k) 0) (left_from (k + 1) (64 - (k + 1))) (one_off true q) in
          let m = by_length in
          omega arith

      -- it is written
      pub by_in : (table' : List ℕ) (n' : ℕ) → length table₀ ≡ 64 → is_listed having inside i members k ≡ true → table' ≡ set table n (get_or distinct (64 * i + k) 0) → n' ≡ n + 1 → ListingBy table₀ table' n' (k + 1)
      by_in table' n' l q et en =
          let m = by_length in
          rw (et, en) (listing-more (listed_by distinct having inside i members) table₀ table n (get_or distinct (64 * i + k) 0) (left_from (k + 1) (64 - (k + 1))) (omega arith) (one_off true q))

      -- one that is not is passed by
      pub by_out : (table' : List ℕ) (n' : ℕ) → is_listed having inside i members k ≡ false → table' ≡ table → n' ≡ n → ListingBy table₀ table' n' (k + 1)
      by_out table' n' q et en = rw (et, en) (one_off false q)

    -- with no number left all is written
    pub by_end : (table : List ℕ) (n k : ℕ) → k ≡ 64 → ListingBy table₀ table n k
        → (n ≡ length (listed_by distinct having inside i members)) × (table ≡ listed_by distinct having inside i members ++ drop (length (listed_by distinct having inside i members)) table₀)
    by_end table n k e s =
        listing-end (listed_by distinct having inside i members) table₀ table n
        (subst (λ (j : ℕ). ListingBy table₀ table n j) e s)
