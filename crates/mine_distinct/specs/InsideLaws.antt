-- Who has a set strictly within another: such a set is a smaller number, so that it stands before.
-- Assumes nothing.
use Rattle.std.specs.Prelude.{ℕ, zero, suc, ◌+◌, ◌*◌, ◌/◌, ◌%◌, ◌<◌, length, get_or, Bool, ◌&&◌, List, ◌∷◌, ◌⊎◌, ◌≡◌}
use Rattle.std.proofs.Common.{eqb-true, eq-eqb, ne_eqb, ltb-true, lt-ltb, inl, inr, ap₂, ◌∙◌, arith}
use Rattle.std.proofs.lemmas.Bool.{eqb-false, not-true}
use Rattle.std.specs.Int.Bits.{bit_and}
use Rattle.std.proofs.lemmas.Nat.{and_le_r}
use Rattle.std.proofs.Math.Dec.{eqb, ltb}
use Rattle.std.proofs.Math.Bool.{false, cond, not, and-false}
use mathlib.Core.List.Memᴰ
use Rattle.std.proofs.Math.Logic.{⊎_elim}
use Rattle.std.proofs.Math.Path.{sym, ap}
use Rattle.mine_distinct.specs.InsideValues.{inside_at, inside_table}
use Rattle.mine_distinct.specs.InsideFilling.{within_before, inside_word}
use Rattle.role_record.specs.Record.{table_of}
use Rattle.role_record.specs.RecordLaws.{table_ext}
use Rattle.policy.specs.Thinning.{strictly}
use Rattle.sets.specs.Sets.{joining, bit, subset, mask_of}
use Rattle.sets.specs.MaskLaws.{mask_same}
use Rattle.sets.specs.SetLaws.{bit-none, subset-self}
use Rattle.sets.specs.Sorted.{Rising, none_left, and-then}
use Rattle.sets.specs.SortedLaws.{Before}
use Rattle.sets.specs.Tests.{Is, ◌is_in◌, any, up_to}
use Rattle.sets.specs.TestLaws.{and_in, and_l, and_r, or_r, or_out, never, test, fails, same, any_in, any_out, up_to_in, up_to-out, get_d_in, not_in}
use Rattle.grant_distinct.specs.Distinct.{distinct_at, having_at, distinct_table, having_table}
use Rattle.grant_listed.specs.ValueLaws.{among_in, among-out, among-rising}
use Rattle.grant_values.specs.PlaceValues.{values_at, knowing}
use Rattle.grant_listed.specs.Values.{lists_least}
use Rattle.grant_distinct.specs.DistinctWordLaws.{distinct-word, having-word, having-bit}

-- in an ascending list a smaller member stands before
before_at : {l : List ℕ} → Rising (Before ltb) l → {w : ℕ} → w is_in l → (k : ℕ) → k < length l → w < get_or l k 0 → (j : ℕ) × (j < k) × (get_or l j 0 ≡ w)
before_at none_left m k h p = absurd (Memᴰ.not-nil m)
before_at (and-then {x = x} {xs = xs} q r) {w} m zero h p = absurd (go (Memᴰ.cases_cons m))
  where
    go : (w ≡ x) ⊎ (w is_in xs) → ⊥
    go (inl e) = omega arith
    go (inr n) = let l = ltb-true x w (q w n) in omega arith
before_at (and-then {x = x} {xs = xs} q r) {w} m (suc k) h p = go (Memᴰ.cases_cons m) (λ n. before_at r n k (omega arith) p)
  where
    go : (w ≡ x) ⊎ (w is_in xs) → (w is_in xs → (j : ℕ) × (j < k) × (get_or xs j 0 ≡ w)) → (j : ℕ) × (j < suc k) × (get_or (x ∷ xs) j 0 ≡ w)
    go (inl e) f = (0, omega arith, sym e)
    go (inr n) f = let t = f n in (suc t.0, (let l = t.1 in omega arith), t.2)

-- a set strictly within another is a smaller number
strictly-less : (a b : ℕ) → Is (strictly subset a b) → a < b
unfolding subset
strictly-less a b h =
    let s = eqb-true (bit_and a b) a (and_l (subset a b) _ h) in
    let l = and_le_r a b in
    test (eqb a b)
    (λ q. never (rw (eqb-true a b q) (subset-self b)) (not-true (subset b a) (and_r (subset a b) _ h)))
    (λ q. let d = eqb-false a b q in omega arith)

-- ---- a word, from any tables

module _ (kinds distinct having : List ℕ) (i k : ℕ) where
  -- where all values are listed, none is left out for another
  pub inside_not_least : lists_least kinds i ≡ false → 0 ≡ inside_word kinds distinct having i k
  unfolding inside_word
  inside_not_least e = sym (ap (λ (b : Bool). cond (b && not (eqb (get_or having (64 * i + k) 0) 0)) (within_before distinct having i k) 0) e)

  -- nor is one that nobody has
  pub inside-nobody : get_or having (64 * i + k) 0 ≡ 0 → 0 ≡ inside_word kinds distinct having i k
  unfolding inside_word
  inside-nobody e =
      sym (ap (λ (b : Bool). cond b (within_before distinct having i k) 0)
      (ap (λ (b : Bool). lists_least kinds i && not b) (eq-eqb (get_or having (64 * i + k) 0) 0 e) ∙ and-false (lists_least kinds i)))

  pub inside-somebody : (w : ℕ) → Is (lists_least kinds i) → (get_or having (64 * i + k) 0 ≡ 0 → ⊥) → w ≡ within_before distinct having i k → w ≡ inside_word kinds distinct having i k
  unfolding inside_word
  inside-somebody w h d e =
      e ∙ sym (ap (λ (b : Bool). cond b (within_before distinct having i k) 0)
      (and_in h (not_in (eqb (get_or having (64 * i + k) 0) 0) (ne_eqb (get_or having (64 * i + k) 0) 0 d))))

-- ---- the words of a file's tables

module _ (known values holders kinds : List ℕ) (users resources roles i k : ℕ) (hi : i < 14) (hk : k < 64) where
  abbrev each : List ℕ
  each = distinct_at known values holders users resources roles i

  abbrev vals : List ℕ
  vals = values_at values holders roles i

  abbrev members : ℕ
  members = knowing users resources known i

  nobody : ltb k (length each) ≡ false → get_or (having_table known values holders users resources roles) (64 * i + k) 0 ≡ 0
  unfolding having_at
  nobody q = having-word known values holders users resources roles i hi k hk ∙ ap (λ (b : Bool). cond b (mask_of 64 (λ x. bit members x && eqb (get_or vals x 0) (get_or each k 0))) 0) q

  -- a number is somebody's where it is below the last
  somebody : not (eqb (get_or (having_table known values holders users resources roles) (64 * i + k) 0) 0) ≡ ltb k (length each)
  unfolding distinct_at
  somebody =
      same (not (eqb (get_or (having_table known values holders users resources roles) (64 * i + k) 0) 0)) (ltb k (length each))
      (λ p. test (ltb k (length each)) (λ q. q) (λ q. never (eq-eqb (get_or (having_table known values holders users resources roles) (64 * i + k) 0) 0 (nobody q)) (not-true (eqb (get_or (having_table known values holders users resources roles) (64 * i + k) 0) 0) p)))
      (λ p. let t = among-out vals members (get_d_in each 0 k (ltb-true k (length each) p)) in
      not_in (eqb (get_or (having_table known values holders users resources roles) (64 * i + k) 0) 0) (fails (eqb (get_or (having_table known values holders users resources roles) (64 * i + k) 0) 0) λ q.
      never (having-bit known values holders users resources roles i hi k hk t.0 t.1 ∙ and_in p (and_in t.2 (eq-eqb (get_or vals t.0 0) (get_or each k 0) (sym t.3))))
      (ap (λ (m : ℕ). bit m t.0) (eqb-true (get_or (having_table known values holders users resources roles) (64 * i + k) 0) 0 q) ∙ bit-none t.0)))

  -- who has a set strictly within has one of those before
  module _ (l : k < length each) where
    abbrev within : ℕ → Bool
    within j = strictly subset (get_or (distinct_table known values holders users resources roles) (64 * i + j) 0) (get_or (distinct_table known values holders users resources roles) (64 * i + k) 0)

    abbrev who : ℕ → ℕ
    who j = get_or (having_table known values holders users resources roles) (64 * i + j) 0

    within-at : (j : ℕ) → j < 64 → within j ≡ strictly subset (get_or each j 0) (get_or each k 0)
    within-at j lj = ap₂ (strictly subset) (distinct-word known values holders users resources roles i hi j lj) (distinct-word known values holders users resources roles i hi k hk)

    abbrev inside : ℕ → Bool
    inside x = bit members x && strictly subset (get_or vals x 0) (get_or each k 0)

    before_same : within_before (distinct_table known values holders users resources roles) (having_table known values holders users resources roles) i k ≡ mask_of 64 inside
    unfolding within_before distinct_at
    before_same = mask_same 64 (joining 0 within who k) inside λ x lx. same (joining 0 within who k x) (inside x) (there x lx) (back x lx)
      where
        there : (x : ℕ) → x < 64 → Is (joining 0 within who k x) → Is (inside x)
        there x lx p = ⊎_elim
            (λ b. never b (bit-none x))
            (λ b. let t = any_out (λ j. within j && bit (who j) x) (up_to k) b in
            let lj = up_to-out k t.1 in
            let g = and_r (ltb t.0 (length each)) _ (sym (having-bit known values holders users resources roles i hi t.0 (omega arith) x lx) ∙ and_r (within t.0) _ t.2) in
            and_in (and_l (bit members x) _ g)
            (ap (λ (v : ℕ). strictly subset v (get_or each k 0)) (eqb-true (get_or vals x 0) (get_or each t.0 0) (and_r (bit members x) _ g))
            ∙ sym (within-at t.0 (omega arith)) ∙ and_l (within t.0) _ t.2))
            (or_out (bit 0 x) (any (λ j. within j && bit (who j) x) (up_to k)) p)

        back : (x : ℕ) → x < 64 → Is (inside x) → Is (joining 0 within who k x)
        back x lx h =
            let m = and_l (bit members x) _ h in
            let p = and_r (bit members x) _ h in
            let t = before_at (among-rising vals members) (among_in vals members x lx m) k l (strictly-less (get_or vals x 0) (get_or each k 0) p) in
            let lj = t.1 in
            or_r (bit 0 x) (any_in (λ j. within j && bit (who j) x) (up_to_in lj) (and_in
            (within-at t.0 (omega arith) ∙ ap (λ (v : ℕ). strictly subset v (get_or each k 0)) t.2 ∙ p)
            (having-bit known values holders users resources roles i hi t.0 (omega arith) x lx
            ∙ and_in (lt-ltb t.0 (length each) (omega arith)) (and_in m (eq-eqb (get_or vals x 0) (get_or each t.0 0) (sym t.2))))))

  -- THE LAW of a word of the third table
  pub inside_means : inside_word kinds (distinct_table known values holders users resources roles) (having_table known values holders users resources roles) i k ≡ inside_at known values holders kinds users resources roles i k
  unfolding inside_word inside_at
  inside_means =
      ap (λ (b : Bool). cond (lists_least kinds i && b) (within_before (distinct_table known values holders users resources roles) (having_table known values holders users resources roles) i k) 0) somebody
      ∙ test (ltb k (length each))
      (λ q. ap (λ (m : ℕ). cond (lists_least kinds i && ltb k (length each)) m 0) (before_same (ltb-true k (length each) q)))
      (λ q. ap (λ (b : Bool). cond b (within_before (distinct_table known values holders users resources roles) (having_table known values holders users resources roles) i k) 0) (none q) ∙ sym (ap (λ (b : Bool). cond b (mask_of 64 (λ x. bit members x && strictly subset (get_or vals x 0) (get_or each k 0))) 0) (none q)))
    where
      none : ltb k (length each) ≡ false → (lists_least kinds i && ltb k (length each)) ≡ false
      none q = ap (λ (b : Bool). lists_least kinds i && b) q ∙ and-false (lists_least kinds i)

-- and of the table
pub inside-all : (known values holders kinds : List ℕ) (users resources roles : ℕ) (distinct having t : List ℕ) → distinct ≡ distinct_table known values holders users resources roles → having ≡ having_table known values holders users resources roles
    → t ≡ table_of 896 (λ w. inside_word kinds distinct having (w / 64) (w % 64)) → t ≡ inside_table known values holders kinds users resources roles
unfolding inside_table
inside-all known values holders kinds users resources roles distinct having t d h e =
    e ∙ ap₂ (λ (a b : List ℕ). table_of 896 (λ w. inside_word kinds a b (w / 64) (w % 64))) d h
    ∙ table_ext 896 (λ w. inside_word kinds (distinct_table known values holders users resources roles) (having_table known values holders users resources roles) (w / 64) (w % 64)) (λ w. inside_at known values holders kinds users resources roles (w / 64) (w % 64))
    (λ w l. inside_means known values holders kinds users resources roles (w / 64) (w % 64) (omega arith) (omega arith))
