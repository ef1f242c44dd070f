-- The loops that count the lines of a rule: the values that are listed at a place, and the places; and what they cost.
-- Assumes nothing.
use Rattle.std.specs.Prelude.{ℕ, ◌+◌, ◌*◌, ◌/◌, ◌≤◌, ◌<◌, Bool, ◌≡◌}
use Rattle.std.proofs.Math.ListN.{length, get_or}
use Rattle.std.proofs.Common.{length-append, ◌∙◌, add-zero}
use Rattle.std.proofs.lemmas.List.{length-map}
use Rattle.std.proofs.Math.Bool.{true, false, cond}
use mathlib.Core.List.{List, [], ◌∷◌, ◌++◌, append-nil, map, map-append}
use Rattle.std.proofs.Math.Path.{refl, sym, ap, ap₂}
use native.Mathlib.Omega.{arith}
use Rattle.mine_distinct.specs.InsideValues.{is_listed, listed_by}
use Rattle.sets.specs.ListLaws.{sum-append, sum-most, sum_more, keep-more}
use Rattle.mine_parts.specs.Layout.{members_at}
use Rattle.sets.specs.LoopLaws.{turn-within}
use Rattle.sets.specs.MaskLaws.{size-most}
use Rattle.sets.specs.Sets.{bit, size}
use Rattle.sets.specs.Tests.{Is, keep, only, up_to, sum}
use Rattle.sets.specs.TestLaws.{never}
use Rattle.write_theory.proofs.ListingLaws.{place-members, listed-most, cost-most}
use Rattle.role_record.specs.Places.{set_place}
use Rattle.write_theory.specs.RuleLists.{side_place, listed_at, place_cost_in, side_cost_in}
use Rattle.write_sizes.specs.Sizes.{lines_long, lines_cost, place_long_in, side_long_in}

-- ---- the values at a place

-- of the numbers below k so many pass a test, and the sets of those have so many elements
pub record Passed (f : ℕ → Bool) (g : ℕ → ℕ) (n elements k : ℕ) : Type 0 where
  pub many : n ≡ length (keep f (up_to k))
  pub sizes : elements ≡ sum size (map g (keep f (up_to k)))
  pub many-low : n ≤ k
  pub sizes-low : elements ≤ 64 * k

module _ (f : ℕ → Bool) (g : ℕ → ℕ) where
  pub passed_none : Passed f g 0 0 0
  passed_none = record { many = refl; sizes = refl; many-low = omega arith; sizes-low = omega arith }

  kept-one : (k : ℕ) (b : Bool) → f k ≡ b → keep f (up_to (k + 1)) ≡ keep f (up_to k) ++ only b k
  kept-one k b e = keep-more f k ∙ ap (λ (c : Bool). keep f (up_to k) ++ only c k) e

  -- one that passes
  pub passed_in : (n elements k n' elements' : ℕ) → Passed f g n elements k → Is (f k) → n' ≡ n + 1 → elements' ≡ elements + size (g k) → Passed f g n' elements' (k + 1)
  passed_in n elements k n' elements' p b en ee =
      let s = size-most (g k) in
      let a = p.many-low in
      let c = p.sizes-low in
      record {
        many = en ∙ ap (λ (x : ℕ). x + 1) p.many ∙ sym (ap length (kept-one k true b) ∙ length-append (keep f (up_to k)) (k ∷ []));
        sizes = ee ∙ ap₂ ◌+◌ p.sizes (sym (add-zero (size (g k)))) ∙ sym (ap (λ (l : List ℕ). sum size (map g l)) (kept-one k true b) ∙ ap (sum size) (map-append g (keep f (up_to k)) (k ∷ [])) ∙ sum-append size (map g (keep f (up_to k))) (g k ∷ []));
        many-low = omega arith;
        sizes-low = omega arith;
      }

  -- one that does not
  pub passed-out : (n elements k n' elements' : ℕ) → Passed f g n elements k → f k ≡ false → n' ≡ n → elements' ≡ elements → Passed f g n' elements' (k + 1)
  passed-out n elements k n' elements' p b en ee =
      let a = p.many-low in
      let c = p.sizes-low in
      record {
        many = en ∙ p.many ∙ sym (ap length same_kept);
        sizes = ee ∙ p.sizes ∙ sym (ap (λ (l : List ℕ). sum size (map g l)) same_kept);
        many-low = omega arith;
        sizes-low = omega arith;
      }
    where
      same_kept : keep f (up_to (k + 1)) ≡ keep f (up_to k)
      same_kept = kept-one k false b ∙ append-nil (keep f (up_to k))

module _ (distinct having inside : List ℕ) (i members : ℕ) where
  -- the values so far
  abbrev pub Counting : (n elements k : ℕ) → Type 0
  Counting n elements k = Passed (is_listed having inside i members) (λ k. get_or distinct (64 * i + k) 0) n elements k

  -- all numbers looked at
  all-counted : (n elements k : ℕ) → k ≡ 64 → Counting n elements k → (n ≡ length (listed_by distinct having inside i members)) × (elements ≡ sum size (listed_by distinct having inside i members))
  unfolding listed_by
  all-counted n elements k e p = (
    p.many ∙ ap (λ (x : ℕ). length (keep (is_listed having inside i members) (up_to x))) e ∙ sym (length-map (keep (is_listed having inside i members) (up_to 64)) (λ k. get_or distinct (64 * i + k) 0)),
    p.sizes ∙ ap (λ (x : ℕ). sum size (map (λ k. get_or distinct (64 * i + k) 0) (keep (is_listed having inside i members) (up_to x)))) e,
  )

  -- what is listed, as sets
  pub listed-sets : (n elements k : ℕ) (set : Bool) → Is set → k ≡ 64 → Counting n elements k
      → (10 * n ≡ lines_long set (listed_by distinct having inside i members)) × (elements ≡ lines_cost set (listed_by distinct having inside i members))
  unfolding lines_long lines_cost
  listed-sets n elements k set b e p = go set b (listed_by distinct having inside i members) (all-counted n elements k e p)
    where
      go : (set : Bool) → Is set → (l : List ℕ) → (n ≡ length l) × (elements ≡ sum size l) → (10 * n ≡ cond set 10 4 * length l) × (elements ≡ cond set (sum size l) (length l))
      go true b l h = (ap (λ (x : ℕ). 10 * x) h.0, h.1)
      go false b l h = never b refl

  -- and as single values
  pub listed_singles : (n elements k : ℕ) (set : Bool) → set ≡ false → k ≡ 64 → Counting n elements k
      → (4 * n ≡ lines_long set (listed_by distinct having inside i members)) × (n ≡ lines_cost set (listed_by distinct having inside i members))
  unfolding lines_long lines_cost
  listed_singles n elements k set b e p = go set b (listed_by distinct having inside i members) (all-counted n elements k e p).0
    where
      go : (set : Bool) → set ≡ false → (l : List ℕ) → n ≡ length l → (4 * n ≡ cond set 10 4 * length l) × (n ≡ cond set (sum size l) (length l))
      go false b l h = (ap (λ (x : ℕ). 4 * x) h, h)
      go true b l h = never refl b

-- ---- the places

module _ (distinct having inside kinds t : List ℕ) (head kept i : ℕ) where
  -- a conjunct that is not kept
  pub size_none : bit kept i ≡ false → (0 ≡ place_long_in distinct having inside kinds t head kept i) × (0 ≡ place_cost_in distinct having inside kinds t head kept i)
  unfolding place_long_in place_cost_in
  size_none e = rw e (refl, refl)

  -- one that is
  pub size-kept : (members bytes cost : ℕ) (set : Bool) → i < 14 → Is (bit kept i) → members ≡ members_at t head (i / 7) → set ≡ set_place kinds i
      → (bytes ≡ lines_long set (listed_by distinct having inside i members)) × (cost ≡ lines_cost set (listed_by distinct having inside i members))
      → (bytes ≡ place_long_in distinct having inside kinds t head kept i) × (cost ≡ place_cost_in distinct having inside kinds t head kept i)
  unfolding place_long_in place_cost_in listed_at lines_cost
  size-kept members bytes cost set h b e s w =
      let n : listed_by distinct having inside i members ≡ listed_at distinct having inside t head i = ap (listed_by distinct having inside i) (e ∙ place-members t head i h) in
      (w.0 ∙ ap₂ lines_long s n ∙ rw b refl, w.1 ∙ ap₂ lines_cost s n ∙ rw b refl)

  -- the lines of a conjunct have at most 640 bytes
  pub long-most : place_long_in distinct having inside kinds t head kept i ≤ 640
  unfolding place_long_in lines_long
  long-most = go (bit kept i) (set_place kinds i) (listed_at distinct having inside t head i) (listed-most distinct having inside t head i)
    where
      go : (b set : Bool) (l : List ℕ) → length l ≤ 64 → cond b (cond set 10 4 * length l) 0 ≤ 640
      go true true l h = omega arith
      go true false l h = omega arith
      go false set l h = omega arith

module _ (distinct having inside kinds t : List ℕ) (head kept side : ℕ) where
  -- the bytes of the conjunct number j of the side, and what it costs
  abbrev long : ℕ → ℕ
  long j = place_long_in distinct having inside kinds t head kept (side_place side j)

  abbrev costs : ℕ → ℕ
  costs j = place_cost_in distinct having inside kinds t head kept (side_place side j)

  -- so many conjuncts
  pub record Conjuncts (bytes cost i : ℕ) : Type 0 where
    pub within : i ≤ 7
    pub bytes-so : bytes ≡ sum (λ j. place_long_in distinct having inside kinds t head kept (side_place side j)) (up_to i)
    pub bytes_low : bytes ≤ 640 * i
    pub cost-so : cost ≡ sum (λ j. place_cost_in distinct having inside kinds t head kept (side_place side j)) (up_to i)
    pub cost-low : cost ≤ 4096 * i

  pub conjuncts-none : Conjuncts 0 0 0
  conjuncts-none = record { within = omega arith; bytes-so = refl; bytes_low = omega arith; cost-so = refl; cost-low = omega arith }

  -- one more
  pub conjuncts-more : (bytes cost i b c : ℕ) → Conjuncts bytes cost i → i < 7
      → (b ≡ place_long_in distinct having inside kinds t head kept (side_place side i)) × (c ≡ place_cost_in distinct having inside kinds t head kept (side_place side i)) → Conjuncts (bytes + b) (cost + c) (i + 1)
  conjuncts-more bytes cost i b c n l e =
      let x = long-most distinct having inside kinds t head kept (side_place side i) in
      let y = cost-most distinct having inside kinds t head kept (side_place side i) in
      let p = n.bytes_low in
      let q = n.cost-low in
      let u = e.0 in
      let v = e.1 in
      record {
        within = turn-within i 7 l;
        bytes-so = ap₂ ◌+◌ n.bytes-so u ∙ sym (sum_more long i);
        bytes_low = omega arith;
        cost-so = ap₂ ◌+◌ n.cost-so v ∙ sym (sum_more costs i);
        cost-low = omega arith;
      }

  -- all
  pub conjuncts-end : (bytes cost i : ℕ) → i ≡ 7 → Conjuncts bytes cost i
      → (bytes ≡ side_long_in distinct having inside kinds t head kept side) × (cost ≡ side_cost_in distinct having inside kinds t head kept side)
  unfolding side_long_in side_cost_in
  conjuncts-end bytes cost i e n = (n.bytes-so ∙ ap (λ (k : ℕ). sum long (up_to k)) e, n.cost-so ∙ ap (λ (k : ℕ). sum costs (up_to k)) e)

  -- the lines of all have at most 4480 bytes
  pub longs_most : side_long_in distinct having inside kinds t head kept side ≤ 4480
  unfolding side_long_in
  longs_most = sum-most 640 long (up_to 7) (λ j m. long-most distinct having inside kinds t head kept (side_place side j))
