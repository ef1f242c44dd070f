-- The tables of distinct values: each value of a place has a number, and who has it. So a test of all pairs of distinct values is one of the
-- values that two have.
-- Assumes nothing.
use Rattle.std.specs.Prelude.{ℕ, zero, suc, ◌+◌, ◌*◌, ◌≤◌, ◌<◌, eqb, ltb, length, get_or, Bool, true, false, cond, ◌&&◌, ◌||◌, List, [], ◌∷◌, ◌≡◌, refl}
use Rattle.std.proofs.Common.{eqb-true, eq-eqb, ltb-true, ltb-false, lt-ltb, sym, ap₂, ◌∙◌, arith}
use mathlib.Core.List.Memᴰ
use Rattle.std.proofs.Math.Path.{ap}
use Rattle.grant_distinct.specs.Distinct.{distinct_at, distinct_table, having_table}
use Rattle.grant_distinct.specs.DistinctWordLaws.{value-word, distinct-length, distinct-word, having-bit}
use Rattle.sets.specs.Lowest.{lowest_from}
use Rattle.sets.specs.Sets.{bit}
use Rattle.sets.specs.SetLaws.{bit-none, bit_mask}
use Rattle.sets.specs.Tests.{Is, ◌is_in◌, any, up_to}
use Rattle.sets.specs.TestLaws.{and_in, and_l, and_r, never, test, same, any_in, any_out, up_to_in, up_to-out, get_d_in}
use Rattle.grant_joins.specs.Tables.{union_of}
use Rattle.grant_joins.specs.Tables.{value_count}
use Rattle.grant_joins.specs.LinkTurnLaws.{number-most}
use Rattle.grant_values.specs.PlaceValues.{knowing, value_for, values_at}
use Rattle.grant_listed.specs.ValueLaws.{among_in, among-out}

-- each value that somebody has at a place has a number, and who has it
pub record Ranked (distinct having : List ℕ) (valued : ℕ → ℕ → Bool) (value : ℕ → ℕ → ℕ) : Type 0 where
  pub has : (p k x : ℕ) → p < 14 → k < 64 → x < 64 → Is (bit (get_or having (64 * p + k) 0) x) → Is (valued p x) × (get_or distinct (64 * p + k) 0 ≡ value p x)
  pub like : (p k x y : ℕ) → p < 14 → k < 64 → x < 64 → y < 64 → Is (bit (get_or having (64 * p + k) 0) y) → value p y ≡ value p x → Is (valued p x) → Is (bit (get_or having (64 * p + k) 0) x)
  pub numbered : (p x : ℕ) → p < 14 → x < 64 → Is (valued p x) → (k : ℕ) × (k < value_count having p) × (k < 64) × Is (bit (get_or having (64 * p + k) 0) x)

module _ (distinct having : List ℕ) (valued : ℕ → ℕ → Bool) (value : ℕ → ℕ → ℕ) (R : Ranked distinct having valued value) where
  union-bit : (passes : ℕ → Bool) (p n x : ℕ) → x < 64
      → bit (union_of distinct having passes p n) x ≡ any (λ l. passes (get_or distinct (64 * p + l) 0) && bit (get_or having (64 * p + l) 0) x) (up_to n)
  unfolding union_of
  union-bit passes p n x l =
      bit_mask 64 (λ u. bit 0 u || any (λ l. passes (get_or distinct (64 * p + l) 0) && bit (get_or having (64 * p + l) 0) u) (up_to n)) x l
      ∙ ap (λ (b : Bool). b || any (λ l. passes (get_or distinct (64 * p + l) 0) && bit (get_or having (64 * p + l) 0) x) (up_to n)) (bit-none x)

  -- a test of all pairs of distinct values is one of the values that two have
  pub pairs-tested : (passes : ℕ → ℕ → Bool) (p q y x : ℕ) → p < 14 → q < 14 → y < 64 → x < 64
      → any (λ k. bit (get_or having (64 * p + k) 0) y && bit (union_of distinct having (passes (get_or distinct (64 * p + k) 0)) q (value_count having q)) x) (up_to (value_count having p)) ≡ (valued p y && (valued q x && passes (value p y) (value q x)))
  pairs-tested passes p q y x hp hq hy hx =
      same (any (λ k. bit (get_or having (64 * p + k) 0) y && bit (union_of distinct having (passes (get_or distinct (64 * p + k) 0)) q (value_count having q)) x) (up_to (value_count having p))) (valued p y && (valued q x && passes (value p y) (value q x))) there back
    where
      there : Is (any (λ k. bit (get_or having (64 * p + k) 0) y && bit (union_of distinct having (passes (get_or distinct (64 * p + k) 0)) q (value_count having q)) x) (up_to (value_count having p))) → Is (valued p y && (valued q x && passes (value p y) (value q x)))
      there h =
          let s = any_out (λ k. bit (get_or having (64 * p + k) 0) y && bit (union_of distinct having (passes (get_or distinct (64 * p + k) 0)) q (value_count having q)) x) (up_to (value_count having p)) h in
          let a = and_l (bit (get_or having (64 * p + s.0) 0) y) _ s.2 in
          let b = and_r (bit (get_or having (64 * p + s.0) 0) y) _ s.2 in
          let t = any_out (λ l. passes (get_or distinct (64 * p + s.0) 0) (get_or distinct (64 * q + l) 0) && bit (get_or having (64 * q + l) 0) x) (up_to (value_count having q)) (sym (union-bit (passes (get_or distinct (64 * p + s.0) 0)) q (value_count having q) x hx) ∙ b) in
          let m = up_to-out (value_count having p) s.1 in
          let n = up_to-out (value_count having q) t.1 in
          let mp = number-most having p (value_count having p) refl in
          let mq = number-most having q (value_count having q) refl in
          let f = R.has p s.0 y hp (omega arith) hy a in
          let g = R.has q t.0 x hq (omega arith) hx (and_r (passes (get_or distinct (64 * p + s.0) 0) (get_or distinct (64 * q + t.0) 0)) _ t.2) in
          and_in f.0 (and_in g.0 (ap₂ passes (sym f.1) (sym g.1) ∙ and_l (passes (get_or distinct (64 * p + s.0) 0) (get_or distinct (64 * q + t.0) 0)) _ t.2))

      back : Is (valued p y && (valued q x && passes (value p y) (value q x))) → Is (any (λ k. bit (get_or having (64 * p + k) 0) y && bit (union_of distinct having (passes (get_or distinct (64 * p + k) 0)) q (value_count having q)) x) (up_to (value_count having p)))
      back h =
          let r = and_r (valued p y) _ h in
          let s = R.numbered p y hp hy (and_l (valued p y) _ h) in
          let t = R.numbered q x hq hx (and_l (valued q x) _ r) in
          any_in (λ k. bit (get_or having (64 * p + k) 0) y && bit (union_of distinct having (passes (get_or distinct (64 * p + k) 0)) q (value_count having q)) x) (up_to_in s.1)
          (and_in s.3 (union-bit (passes (get_or distinct (64 * p + s.0) 0)) q (value_count having q) x hx
          ∙ any_in (λ l. passes (get_or distinct (64 * p + s.0) 0) (get_or distinct (64 * q + l) 0) && bit (get_or having (64 * q + l) 0) x) (up_to_in t.1)
          (and_in (ap₂ passes (R.has p s.0 y hp s.2 hy s.3).1 (R.has q t.0 x hq t.2 hx t.3).1 ∙ and_r (valued q x) _ r) t.3)))

  -- two have one of the values both, if they have the same
  pub both_have : (p y x : ℕ) → p < 14 → y < 64 → x < 64
      → any (λ k. bit (get_or having (64 * p + k) 0) y && bit (get_or having (64 * p + k) 0) x) (up_to (value_count having p)) ≡ (valued p y && (valued p x && eqb (value p y) (value p x)))
  both_have p y x hp hy hx =
      same (any (λ k. bit (get_or having (64 * p + k) 0) y && bit (get_or having (64 * p + k) 0) x) (up_to (value_count having p))) (valued p y && (valued p x && eqb (value p y) (value p x)))
      (λ h. let s = any_out (λ k. bit (get_or having (64 * p + k) 0) y && bit (get_or having (64 * p + k) 0) x) (up_to (value_count having p)) h in
      let m = up_to-out (value_count having p) s.1 in
      let mp = number-most having p (value_count having p) refl in
      let f = R.has p s.0 y hp (omega arith) hy (and_l (bit (get_or having (64 * p + s.0) 0) y) _ s.2) in
      let g = R.has p s.0 x hp (omega arith) hx (and_r (bit (get_or having (64 * p + s.0) 0) y) _ s.2) in
      and_in f.0 (and_in g.0 (eq-eqb (value p y) (value p x) (sym f.1 ∙ g.1))))
      (λ h. let r = and_r (valued p y) _ h in
      let s = R.numbered p y hp hy (and_l (valued p y) _ h) in
      any_in (λ k. bit (get_or having (64 * p + k) 0) y && bit (get_or having (64 * p + k) 0) x) (up_to_in s.1)
      (and_in s.3 (R.like p s.0 x y hp s.2 hx hy s.3 (eqb-true (value p y) (value p x) (and_r (valued p x) _ r)) (and_l (valued p x) _ r))))

-- a member has a number
in_place : (l : List ℕ) {a : ℕ} → a is_in l → (k : ℕ) × (k < length l) × (get_or l k 0 ≡ a)
in_place [] m = absurd (Memᴰ.not-nil m)
in_place (x ∷ xs) (Memᴰ.head e) = (0, omega arith, sym e)
in_place (x ∷ xs) (Memᴰ.tail m) = let t = in_place xs m in (suc t.0, omega arith, t.2)

-- a search that finds something finds one that passes
lowest-passes : (f : ℕ → Bool) (k n : ℕ) → lowest_from f k n < k + n → Is (f (lowest_from f k n))
lowest-passes f k zero h = absurd (omega arith)
lowest-passes f k (suc n) h = go (f k) refl (lowest-passes f (suc k) n) h
  where
    go : (b : Bool) → f k ≡ b → (lowest_from f (suc k) n < suc k + n → Is (f (lowest_from f (suc k) n))) → cond b k (lowest_from f (suc k) n) < k + suc n → Is (f (cond b k (lowest_from f (suc k) n)))
    go true e r h = e
    go false e r h = r (omega arith)

-- a number is one of those of a place, if somebody has each up to it
number_past : (having : List ℕ) (p k : ℕ) → k < 64 → ((j : ℕ) → j ≤ k → get_or having (64 * p + j) 0 ≡ 0 → ⊥) → k < value_count having p
unfolding value_count
number_past having p k l h = test (ltb k (lowest_from nobody 0 64)) (λ e. ltb-true k (lowest_from nobody 0 64) e)
    (λ e. let q = ltb-false k (lowest_from nobody 0 64) e in
    absurd (h (lowest_from nobody 0 64) q (eqb-true (get_or having (64 * p + lowest_from nobody 0 64) 0) 0 (lowest-passes nobody 0 64 (omega arith)))))
  where
    nobody : ℕ → Bool
    nobody k = eqb (get_or having (64 * p + k) 0) 0

module _ (known values holders : List ℕ) (users resources roles : ℕ) where
  abbrev pub valued_by : ℕ → ℕ → Bool
  valued_by p x = bit (knowing users resources known p) x

  abbrev value : ℕ → ℕ → ℕ
  value = value_for values holders roles

  abbrev listed : ℕ → List ℕ
  listed p = distinct_at known values holders users resources roles p

  abbrev having : List ℕ
  having = having_table known values holders users resources roles

  has-bit : (p k x : ℕ) → p < 14 → k < 64 → x < 64 → bit (get_or having (64 * p + k) 0) x ≡ (ltb k (length (listed p)) && (valued_by p x && eqb (value p x) (get_or (listed p) k 0)))
  has-bit p k x hp hk hx =
      having-bit known values holders users resources roles p hp k hk x hx
      ∙ ap (λ (v : ℕ). ltb k (length (listed p)) && (valued_by p x && eqb v (get_or (listed p) k 0))) (value-word values holders roles p x hx)

  -- each value of a place is listed, and somebody has each that is
  value-listed : (p x : ℕ) → x < 64 → Is (valued_by p x) → value p x is_in listed p
  unfolding distinct_at
  value-listed p x hx h = rw (sym (value-word values holders roles p x hx)) (among_in (values_at values holders roles p) (knowing users resources known p) x hx h)

  listed-value : (p j : ℕ) → j < length (listed p) → (x : ℕ) × (x < 64) × Is (valued_by p x) × (get_or (listed p) j 0 ≡ value p x)
  unfolding distinct_at
  listed-value p j h =
      let t = among-out (values_at values holders roles p) (knowing users resources known p) (get_d_in (listed p) 0 j h) in
      (t.0, t.1, t.2, t.3 ∙ value-word values holders roles p t.0 t.1)

  pub tables_ranked : Ranked (distinct_table known values holders users resources roles) having valued_by value
  tables_ranked = record {
    has = λ p k x hp hk hx b. let t = has_value p k x hp hk hx b in (t.0, distinct-word known values holders users resources roles p hp k hk ∙ sym t.1);
    like = λ p k x y hp hk hx hy b e h.
        has-bit p k x hp hk hx ∙ and_in (and_l (ltb k (length (listed p))) _ (sym (has-bit p k y hp hk hy) ∙ b)) (and_in h (eq-eqb (value p x) (get_or (listed p) k 0) (sym e ∙ (has_value p k y hp hk hy b).1)));
    numbered = λ p x hp hx h. number p x hp hx h (in_place (listed p) (value-listed p x hx h));
  }
    where
      has_value : (p k x : ℕ) → p < 14 → k < 64 → x < 64 → Is (bit (get_or having (64 * p + k) 0) x) → Is (valued_by p x) × (value p x ≡ get_or (listed p) k 0)
      has_value p k x hp hk hx b =
          let s = and_r (ltb k (length (listed p))) _ (sym (has-bit p k x hp hk hx) ∙ b) in
          (and_l (valued_by p x) _ s, eqb-true (value p x) (get_or (listed p) k 0) (and_r (valued_by p x) _ s))

      somebody : (p j : ℕ) → p < 14 → j < length (listed p) → get_or having (64 * p + j) 0 ≡ 0 → ⊥
      somebody p j hp h z =
          let r = distinct-length known values holders users resources roles p hp in
          let t = listed-value p j h in
          never (has-bit p j t.0 hp (omega arith) t.1 ∙ and_in (lt-ltb j (length (listed p)) h) (and_in t.2 (eq-eqb (value p t.0) (get_or (listed p) j 0) (sym t.3)))) (ap (λ (m : ℕ). bit m t.0) z ∙ bit-none t.0)

      number : (p x : ℕ) → p < 14 → x < 64 → Is (valued_by p x) → (k : ℕ) × (k < length (listed p)) × (get_or (listed p) k 0 ≡ value p x)
          → (k : ℕ) × (k < value_count having p) × (k < 64) × Is (bit (get_or having (64 * p + k) 0) x)
      number p x hp hx h t =
          let r = distinct-length known values holders users resources roles p hp in
          let l : t.0 < 64 = omega arith in
          (t.0, number_past having p t.0 l (λ j q. somebody p j hp (omega arith)), l, has-bit p t.0 x hp l hx ∙ and_in (lt-ltb t.0 (length (listed p)) t.1) (and_in h (eq-eqb (value p x) (get_or (listed p) t.0 0) (sym t.2))))
