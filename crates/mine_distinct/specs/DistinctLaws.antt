-- What a conjunct lists, read off the tables, is what it lists of its members' values.
-- Assumes nothing.
use Rattle.std.specs.Prelude.{ℕ, zero, suc, ◌+◌, ◌*◌, ◌≤◌, ◌<◌, eqb, length, Bool, cond, ◌&&◌, List, [], ◌∷◌, map, ◌≡◌, refl}
use Rattle.std.proofs.Common.{eqb-true, eq-eqb, lt-ltb, le-ltb, ◌∙◌, add-zero, add-suc, suc-add, zero-add, arith}
use Rattle.std.proofs.lemmas.Bool.{not-true}
use Rattle.std.proofs.Math.Dec.{ltb}
use Rattle.std.proofs.Math.ListN.{get_or}
use Rattle.std.proofs.Math.Bool.{true, false, not, and_comm, and-true, not-not}
use Rattle.std.proofs.Math.Path.{sym, ap, ap₂}
use Rattle.mine_distinct.specs.InsideValues.{inside_at, inside_table, is_listed, listed_by}
use Rattle.policy.specs.Thinning.{strictly}
use Rattle.sets.specs.MaskLaws.{mask_lt, empty_law}
use Rattle.sets.specs.Sets.{bit, subset, mask_of}
use Rattle.sets.specs.SetLaws.{bit_mask}
use Rattle.sets.specs.SortedLaws.{keep-rising, rising_ext, numbers}
use Rattle.sets.specs.Tests.{Is, imp, ◌is_in◌, all, any, keep, from, up_to}
use Rattle.sets.specs.TestLaws.{and_in, and_l, and_r, never, fails, same, imp_in, imp-out, all-out, all_in, any_in, any_out, any_ext, keep_in, keep_out, up_to_in, up_to-out, not_in}
use Rattle.grant_distinct.specs.Distinct.{distinct_at, distinct_table, having_table}
use Rattle.grant_distinct.specs.DistinctWordLaws.{table-word, mask_if, distinct-length, distinct-word, having-bit}
use Rattle.grant_listed.specs.ValueLaws.{among_in, among-out, among-rising, listed-keep}
use Rattle.grant_values.specs.PlaceValues.{values_at, knowing}
use Rattle.grant_listed.specs.Values.{lists_least, values_among, least_among, stays, listed_of}

-- ---- lists by number

-- the members of a list whose numbers pass are those that pass, where no number behind the last does
numbers-kept : (p q : ℕ → Bool) (f : ℕ → ℕ) (l : List ℕ) (k n : ℕ) → length l ≤ n → ((j : ℕ) → j < length l → f (k + j) ≡ get_or l j 0) → ((j : ℕ) → j < length l → p (k + j) ≡ q (get_or l j 0))
    → ((j : ℕ) → length l ≤ j → j < n → p (k + j) ≡ false) → map f (keep p (from k n)) ≡ keep q l
numbers-kept p q f [] k zero h a b c = refl
numbers-kept p q f [] k (suc n) h a b c =
    ap (λ (x : Bool). map f (cond x (k ∷ keep p (from (suc k) n)) (keep p (from (suc k) n)))) (rw add-zero at (c 0 (omega arith) (omega arith)))
    ∙ numbers-kept p q f [] (suc k) n (omega arith) (λ j l. absurd (omega arith)) (λ j l. absurd (omega arith)) (λ j l m. rw (suc-add, ← add-suc) (c (suc j) (omega arith) (omega arith)))
numbers-kept p q f (x ∷ xs) k zero h a b c = absurd (omega arith)
numbers-kept p q f (x ∷ xs) k (suc n) h a b c =
    go (p k) (q x) (rw add-zero at (b 0 (omega arith))) (rw add-zero at (a 0 (omega arith)))
    (numbers-kept p q f xs (suc k) n (omega arith) (λ j l. rw (suc-add, ← add-suc) (a (suc j) (omega arith))) (λ j l. rw (suc-add, ← add-suc) (b (suc j) (omega arith))) (λ j l m. rw (suc-add, ← add-suc) (c (suc j) (omega arith) (omega arith))))
  where
    go : (s t : Bool) → s ≡ t → f k ≡ x → map f (keep p (from (suc k) n)) ≡ keep q xs → map f (cond s (k ∷ keep p (from (suc k) n)) (keep p (from (suc k) n))) ≡ cond t (x ∷ keep q xs) (keep q xs)
    go true true e d r = ap₂ ◌∷◌ d r
    go true false e d r = never refl e
    go false true e d r = never e refl
    go false false e d r = r

-- ---- masks

mask_empty : (f : ℕ → Bool) → eqb (mask_of 64 f) 0 ≡ not (any f (up_to 64))
mask_empty f = empty_law 64 (mask_of 64 f) (mask_lt 64 f) ∙ ap not (any_ext (bit (mask_of 64 f)) f (up_to 64) (λ x m. bit_mask 64 f x (up_to-out 64 m)))

twice : (b : Bool) → not (not b) ≡ b
twice true = refl
twice false = refl

-- ---- the values of some

module _ (vals : List ℕ) (members : ℕ) where
  -- some member has a value
  abbrev has_one : ℕ → Bool
  has_one v = any (λ x. bit members x && eqb (get_or vals x 0) v) (up_to 64)

  -- the values of some members are those of more that some of the members has
  kept-among : (more : ℕ) → ((x : ℕ) → Is (bit members x) → Is (bit more x)) → (q : ℕ → Bool) → keep (λ v. has_one v && q v) (values_among vals more) ≡ keep q (values_among vals members)
  kept-among more w q = rising_ext numbers.apart (keep-rising (λ v. has_one v && q v) (among-rising vals more)) (keep-rising q (among-rising vals members)) there back
    where
      there : (v : ℕ) → v is_in keep (λ v. has_one v && q v) (values_among vals more) → v is_in keep q (values_among vals members)
      there v m =
          let t = keep_out (λ v. has_one v && q v) (values_among vals more) m in
          let o = any_out (λ x. bit members x && eqb (get_or vals x 0) v) (up_to 64) (and_l (has_one v) (q v) t.1) in
          keep_in q {l = values_among vals members}
          (rw (← eqb-true (get_or vals o.0 0) v (and_r (bit members o.0) _ o.2)) (among_in vals members o.0 (up_to-out 64 o.1) (and_l (bit members o.0) _ o.2)))
          (and_r (has_one v) (q v) t.1)

      back : (v : ℕ) → v is_in keep q (values_among vals members) → v is_in keep (λ v. has_one v && q v) (values_among vals more)
      back v m =
          let t = keep_out q (values_among vals members) m in
          let o = among-out vals members t.0 in
          keep_in (λ v. has_one v && q v) {l = values_among vals more}
          (rw o.3 (among_in vals more o.0 o.1 (w o.0 o.2)))
          (and_in (any_in (λ x. bit members x && eqb (get_or vals x 0) v) (up_to_in o.1) (and_in o.2 (eq-eqb (get_or vals o.0 0) v (sym o.3)))) t.1)

  -- a value that strictly contains no member's stays
  stays-any : (least : Bool) (v : ℕ) → not (any (λ x. (least && strictly subset (get_or vals x 0) v) && bit members x) (up_to 64)) ≡ stays vals members least v
  unfolding stays least_among
  stays-any true v =
      same (not (any (λ x. strictly subset (get_or vals x 0) v && bit members x) (up_to 64))) (all (λ x. imp (bit members x) (not (strictly subset (get_or vals x 0) v))) (up_to 64))
      (λ h. all_in (λ x. imp (bit members x) (not (strictly subset (get_or vals x 0) v))) (up_to 64) λ x m. imp_in (bit members x) (not (strictly subset (get_or vals x 0) v)) λ b.
      not_in (strictly subset (get_or vals x 0) v) (fails (strictly subset (get_or vals x 0) v) λ p.
      never (any_in (λ x. strictly subset (get_or vals x 0) v && bit members x) m (and_in p b)) (not-true (any (λ x. strictly subset (get_or vals x 0) v && bit members x) (up_to 64)) h)))
      (λ h. not_in (any (λ x. strictly subset (get_or vals x 0) v && bit members x) (up_to 64)) (fails (any (λ x. strictly subset (get_or vals x 0) v && bit members x) (up_to 64)) λ p.
      let t = any_out (λ x. strictly subset (get_or vals x 0) v && bit members x) (up_to 64) p in
      never (and_l (strictly subset (get_or vals t.0 0) v) _ t.2)
      (not-true (strictly subset (get_or vals t.0 0) v) (imp-out (not (strictly subset (get_or vals t.0 0) v)) (all-out (λ x. imp (bit members x) (not (strictly subset (get_or vals x 0) v))) h t.1) (and_r (strictly subset (get_or vals t.0 0) v) _ t.2)))))
  stays-any false v = not_in (any (λ x. false) (up_to 64)) (fails (any (λ x. false) (up_to 64)) λ p. never (any_out (λ x. false) (up_to 64) p).2 refl)

-- ---- the tables

module _ (known values holders kinds : List ℕ) (users resources roles i : ℕ) (hi : i < 14) where
  abbrev vals : List ℕ
  vals = values_at values holders roles i

  abbrev each : List ℕ
  each = distinct_at known values holders users resources roles i

  abbrev distinct : List ℕ
  distinct = distinct_table known values holders users resources roles

  abbrev having : List ℕ
  having = having_table known values holders users resources roles

  abbrev inside : List ℕ
  inside = inside_table known values holders kinds users resources roles

  each-most : length each ≤ 64
  each-most = distinct-length known values holders users resources roles i hi

  -- who has a set strictly within number k
  inside-bit : (k : ℕ) → k < 64 → (x : ℕ) → x < 64 → bit (get_or inside (64 * i + k) 0) x
      ≡ ((lists_least kinds i && ltb k (length each)) && (bit (knowing users resources known i) x && strictly subset (get_or vals x 0) (get_or each k 0)))
  unfolding inside_table inside_at
  inside-bit k hk x hx =
      ap (λ (m : ℕ). bit m x) (table-word (inside_at known values holders kinds users resources roles) i k hi hk)
      ∙ mask_if (lists_least kinds i && ltb k (length each)) (λ x. bit (knowing users resources known i) x && strictly subset (get_or vals x 0) (get_or each k 0)) x hx

  -- the members have values there
  module _ (members : ℕ) (w : (x : ℕ) → Is (bit members x) → Is (bit (knowing users resources known i) x)) where
    -- a test of members needs none whether they have a value
    among : (b : Bool) (x : ℕ) → ((bit (knowing users resources known i) x && b) && bit members x) ≡ (b && bit members x)
    among b x = go (bit (knowing users resources known i) x) b (bit members x) (w x)
      where
        go : (k b m : Bool) → (Is m → Is k) → ((k && b) && m) ≡ (b && m)
        go true b m h = refl
        go false true true h = never (h refl) refl
        go false true false h = refl
        go false false m h = refl

    abbrev listed_at : ℕ → Bool
    listed_at = is_listed having inside i members

    abbrev has_at : ℕ → ℕ → Bool
    has_at k x = bit (get_or having (64 * i + k) 0) x && bit members x

    abbrev within_at : ℕ → ℕ → Bool
    within_at k x = bit (get_or inside (64 * i + k) 0) x && bit members x

    listed-any : (k : ℕ) → listed_at k ≡ (any (has_at k) (up_to 64) && not (any (within_at k) (up_to 64)))
    unfolding is_listed
    listed-any k = ap₂ (λ (a b : Bool). not a && b) (mask_empty (has_at k)) (mask_empty (within_at k)) ∙ ap (λ (b : Bool). b && not (any (within_at k) (up_to 64))) (not-not (any (has_at k) (up_to 64)))

    -- a number below the last is listed if a member has its value and it stays
    listed-number : (k : ℕ) → k < length each → listed_at k ≡ (has_one vals members (get_or each k 0) && stays vals members (lists_least kinds i) (get_or each k 0))
    listed-number k l = listed-any k ∙ ap₂ ◌&&◌ some none
      where
        hk : k < 64
        hk = let m = each-most in omega arith

        some : any (has_at k) (up_to 64) ≡ has_one vals members (get_or each k 0)
        some = any_ext (has_at k) (λ x. bit members x && eqb (get_or vals x 0) (get_or each k 0)) (up_to 64) λ x m.
            ap (λ (b : Bool). b && bit members x)
            (having-bit known values holders users resources roles i hi k hk x (up_to-out 64 m) ∙ ap (λ (b : Bool). b && (bit (knowing users resources known i) x && eqb (get_or vals x 0) (get_or each k 0))) (lt-ltb k (length each) l))
            ∙ among (eqb (get_or vals x 0) (get_or each k 0)) x ∙ and_comm (eqb (get_or vals x 0) (get_or each k 0)) (bit members x)

        none : not (any (within_at k) (up_to 64)) ≡ stays vals members (lists_least kinds i) (get_or each k 0)
        none = ap not (any_ext (within_at k) (λ x. (lists_least kinds i && strictly subset (get_or vals x 0) (get_or each k 0)) && bit members x) (up_to 64) λ x m.
            ap (λ (b : Bool). b && bit members x)
            (inside-bit k hk x (up_to-out 64 m) ∙ ap (λ (b : Bool). b && (bit (knowing users resources known i) x && strictly subset (get_or vals x 0) (get_or each k 0)))
            (ap (λ (b : Bool). lists_least kinds i && b) (lt-ltb k (length each) l) ∙ and-true (lists_least kinds i))
            ∙ and_turned (lists_least kinds i) (bit (knowing users resources known i) x) (strictly subset (get_or vals x 0) (get_or each k 0)))
            ∙ among (lists_least kinds i && strictly subset (get_or vals x 0) (get_or each k 0)) x)
            ∙ stays-any vals members (lists_least kinds i) (get_or each k 0)
          where
            and_turned : (a b c : Bool) → (a && (b && c)) ≡ (b && (a && c))
            and_turned true b c = refl
            and_turned false true c = refl
            and_turned false false c = refl

    -- none behind the last is
    listed-behind : (k : ℕ) → length each ≤ k → k < 64 → listed_at k ≡ false
    listed-behind k l hk = listed-any k ∙ ap (λ (b : Bool). b && not (any (within_at k) (up_to 64))) (fails (any (has_at k) (up_to 64)) λ p.
        let t = any_out (has_at k) (up_to 64) p in
        never (and_l (ltb k (length each)) _ (sym (having-bit known values holders users resources roles i hi k hk t.0 (up_to-out 64 t.1)) ∙ and_l (bit (get_or having (64 * i + k) 0) t.0) _ t.2))
        (le-ltb k (length each) l))

    -- THE LAW of what is read off the tables: it is what is listed of the members' values
    pub listed_by_lem : listed_by (distinct_table known values holders users resources roles) (having_table known values holders users resources roles) (inside_table known values holders kinds users resources roles) i members
        ≡ listed_of (values_at values holders roles i) members (lists_least kinds i)
    unfolding listed_by distinct_at
    listed_by_lem =
        numbers-kept listed_at (λ v. has_one vals members v && stays vals members (lists_least kinds i) v) (λ k. get_or distinct (64 * i + k) 0)
        each 0 64 each-most
        (λ j l. ap (λ (k : ℕ). get_or distinct (64 * i + k) 0) (zero-add j) ∙ distinct-word known values holders users resources roles i hi j (let m = each-most in omega arith))
        (λ j l. ap listed_at (zero-add j) ∙ listed-number j l)
        (λ j l m. ap listed_at (zero-add j) ∙ listed-behind j l m)
        ∙ kept-among vals members (knowing users resources known i) w (stays vals members (lists_least kinds i))
        ∙ sym (listed-keep vals members (lists_least kinds i))
