-- The laws of the code's steps: what is worked out place by place.
-- Assumes nothing.
use Prim.Native.Nat.{ℕ, ◌+◌, ◌*◌, ◌%◌, ◌^◌, ◌-◌, ◌<◌}
use Rattle.std.proofs.Common.{lt-ltb, ltb-true, ltb-false, shl_exact, ap₂, ◌∙◌, subst, add-one, arith}
use Rattle.std.specs.Prelude.{eqb, length, get_or, true, false, ◌&&◌, ◌||◌, not, List, ◌≡◌}
use Rattle.std.proofs.Math.Dec.{ltb}
use Rattle.std.proofs.Math.Bool.{Bool, cond, or-false}
use Rattle.std.proofs.Math.Path.{refl, sym, ap}
use Rattle.role_record.specs.Places.{place_side}
use Rattle.role_record.specs.Record.{table_of}
use Rattle.mine_matches.specs.Matches.{met_of}
use Rattle.sets.specs.LoopLaws.{table-unique}
use Rattle.sets.specs.MaskLaws.{bit-out, bit-mask_of, mask_lt, mask_same, mask_wide}
use Rattle.sets.specs.Sets.{bit, subset, mask_of, less_one}
use Rattle.sets.specs.SetLaws.{bit-none, bit_mask, bit_up, bit-under}
use Rattle.sets.specs.TestLaws.{test, same}
use Rattle.mine_theory.specs.Words.Words.{Words, members_of}
use Rattle.mine_rows.specs.KeptPlaces.{met_at, met_places, allowed_at, conjunct_at, present_places, grants_same, thin_by, thin_to, kept_in}

-- ---- who meets the conjunct of a place

module _ (matches : List ℕ) (W : Words) (places i : ℕ) where
  -- a place of the set
  pub met-there : {v r : ℕ} → bit places i ≡ true → v ≡ members_of W (place_side i) → r ≡ met_of matches i v → r ≡ met_at matches W places i
  unfolding met_at
  met-there e q h = rw e (h ∙ ap (met_of matches i) q)

  -- any other place
  pub met-nobody : bit places i ≡ false → 0 ≡ met_at matches W places i
  unfolding met_at
  met-nobody e = rw e refl

-- a table with the right words is the table
pub met-unique : (matches : List ℕ) (W : Words) (places : ℕ) (t : List ℕ) → length t ≡ 14 → ((i : ℕ) → i < 14 → get_or t i 0 ≡ met_at matches W places i) → t ≡ met_places matches W places
unfolding met_places table_of
met-unique matches W places t e h = table-unique 14 t (met_at matches W places) e h

-- ---- where the covering rule has a condition

module _ (known attributes : List ℕ) (W : Words) (l : ℕ) where
  -- where the level allows a conjunct, the members decide
  pub conjunct-allowed : (i v : ℕ) {a r : Bool} → a ≡ allowed_at attributes l i → a ≡ true → v ≡ members_of W (place_side i) → r ≡ subset v (get_or known i 0) → r ≡ conjunct_at known attributes W l i
  unfolding conjunct_at
  conjunct-allowed i v e h q k = rw (sym e ∙ h) (k ∙ ap (λ (x : ℕ). subset x (get_or known i 0)) q)

  -- where it does not, there is none
  pub conjunct-refused : (i : ℕ) {a : Bool} → a ≡ allowed_at attributes l i → a ≡ false → false ≡ conjunct_at known attributes W l i
  unfolding conjunct_at
  conjunct-refused i e h = rw (sym e ∙ h) refl

  -- the conjuncts of 14 places and behind them the atoms
  pub present_joined : (m s r : ℕ) → m ≡ mask_of 14 (conjunct_at known attributes W l) → s ≡ mask_of 36 (bit W.atoms) → r ≡ mask_of 64 (λ k. bit m k || bit ((s * 2 ^ 14) % 2 ^ 64) k) → r ≡ present_places known attributes W l
  unfolding present_places
  present_joined m s r e q k = k ∙ mask_same 64 (λ k. bit m k || bit ((s * 2 ^ 14) % 2 ^ 64) k) (λ k. ltb k 50 && there k) at ∙ sym (mask_wide 50 64 there (omega arith))
    where
      there : ℕ → Bool
      there i = cond (ltb i 14) (conjunct_at known attributes W l i) (bit W.atoms (i - 14))

      exact : (s * 2 ^ 14) % 2 ^ 64 ≡ s * 2 ^ 14
      exact = shl_exact 36 14 64 (subst (λ (x : ℕ). x < 2 ^ 36) (sym q) (mask_lt 36 (bit W.atoms))) (omega arith)

      shifted : (j : ℕ) → bit ((s * 2 ^ 14) % 2 ^ 64) (14 + j) ≡ (ltb (14 + j) 50 && bit W.atoms j)
      shifted j =
          ap (λ (x : ℕ). bit x (14 + j)) exact ∙ bit_up s 14 j ∙ ap (λ (x : ℕ). bit x j) q ∙ bit-mask_of 36 (bit W.atoms) j
          ∙ ap (λ (b : Bool). b && bit W.atoms j) (same (ltb j 36) (ltb (14 + j) 50) (λ h. let t = ltb-true j 36 h in lt-ltb (14 + j) 50 (omega arith)) (λ h. let t = ltb-true (14 + j) 50 h in lt-ltb j 36 (omega arith)))

      at : (i : ℕ) → i < 64 → (bit m i || bit ((s * 2 ^ 14) % 2 ^ 64) i) ≡ (ltb i 50 && there i)
      at i h = test (ltb i 14)
          (λ p. let t = ltb-true i 14 p in
          ap₂ ◌||◌ (ap (λ (x : ℕ). bit x i) e ∙ bit_mask 14 (conjunct_at known attributes W l) i t) (ap (λ (x : ℕ). bit x i) exact ∙ bit-under s 14 i t)
          ∙ or-false (conjunct_at known attributes W l i)
          ∙ sym (ap₂ (λ (a b : Bool). a && cond b (conjunct_at known attributes W l i) (bit W.atoms (i - 14))) (lt-ltb i 50 (omega arith)) p))
          (λ p. let t = ltb-false i 14 p in
          let n : 14 + (i - 14) ≡ i = omega arith in
          ap₂ ◌||◌ (ap (λ (x : ℕ). bit x i) e ∙ bit-out 14 (mask_of 14 (conjunct_at known attributes W l)) i (mask_lt 14 (conjunct_at known attributes W l)) t)
          (ap (bit ((s * 2 ^ 14) % 2 ^ 64)) (sym n) ∙ shifted (i - 14) ∙ ap (λ (x : ℕ). ltb x 50 && bit W.atoms (i - 14)) n)
          ∙ sym (ap (λ (b : Bool). ltb i 50 && cond b (conjunct_at known attributes W l i) (bit W.atoms (i - 14))) p))

-- ---- one turn of thinning

-- `without(m, with(0, i))`
pub less-one : (m i : ℕ) {s r : ℕ} → s ≡ mask_of 64 (λ k. bit 0 k || eqb k i) → r ≡ mask_of 64 (λ k. bit m k && not (bit s k)) → r ≡ less_one m i
unfolding less_one
less-one m i {s} e q =
    q
    ∙ mask_same 64 (λ k. bit m k && not (bit s k)) (λ k. bit m k && not (eqb k i)) (λ k l. ap (λ (b : Bool). bit m k && not b)
    (ap (λ (x : ℕ). bit x k) e ∙ bit_mask 64 (λ k. bit 0 k || eqb k i) k l ∙ ap (λ (b : Bool). b || eqb k i) (bit-none k)))

module _ (links met : List ℕ) (us rs os : ℕ) (W : Words) (m : ℕ) where
  -- no condition stands there
  pub thin_absent : (i : ℕ) → bit m i ≡ false → m ≡ thin_by links met us rs os W m i
  unfolding thin_by
  thin_absent i e = rw e refl

  -- it goes
  pub thin-goes : (i : ℕ) {f : ℕ} {g : Bool} → bit m i ≡ true → f ≡ less_one m i → g ≡ grants_same links met us rs os W f → g ≡ true → f ≡ thin_by links met us rs os W m i
  unfolding thin_by
  thin-goes i e q h k = rw (e, sym (ap (grants_same links met us rs os W) q) ∙ sym h ∙ k) q

  -- it stays
  pub thin-stays : (i : ℕ) {f : ℕ} {g : Bool} → bit m i ≡ true → f ≡ less_one m i → g ≡ grants_same links met us rs os W f → g ≡ false → m ≡ thin_by links met us rs os W m i
  unfolding thin_by
  thin-stays i e q h k = rw (e, sym (ap (grants_same links met us rs os W) q) ∙ sym h ∙ k) refl

-- ---- the turns together

-- one turn more
pub thin-more : (links met : List ℕ) (us rs os : ℕ) (W : Words) (p n : ℕ) {m r : ℕ} → m ≡ thin_to links met us rs os W p n → r ≡ thin_by links met us rs os W m n → r ≡ thin_to links met us rs os W p (n + 1)
thin-more links met us rs os W p n e q = q ∙ ap (λ (x : ℕ). thin_by links met us rs os W x n) e ∙ sym (ap (thin_to links met us rs os W p) (add-one n))

-- all of them
pub thin-end : (links matches known attributes met : List ℕ) (us rs os : ℕ) (W : Words) (l n : ℕ) {m : ℕ} → met ≡ met_places matches W (present_places known attributes W l) → m ≡ thin_to links met us rs os W (present_places known attributes W l) n → n ≡ 50
    → m ≡ kept_in links matches known attributes us rs os W l
unfolding kept_in
thin-end links matches known attributes met us rs os W l n e q h = q ∙ ap₂ (λ (t : List ℕ) (k : ℕ). thin_to links t us rs os W (present_places known attributes W l) k) e h
