-- The tables are worked out word by word.
-- Assumes nothing.
use Rattle.std.specs.Prelude.{ℕ, ◌+◌, ◌*◌, ◌/◌, ◌%◌, ◌≤◌, ◌<◌, length, get_or, drop, Bool, cond, ◌||◌, List, ◌≡◌}
use borrow.Author.Tests.{eq-eqb, ne_eqb, ltb-true, ltb-false}
use Rattle.std.proofs.Math.Dec.{eqb, ltb}
use Rattle.std.proofs.Math.Bool.{true, false, ◌&&◌, and-true}
use Rattle.std.proofs.Math.Path.{refl, sym, ap₂}
use Rattle.std.proofs.Common.{ap, ◌∙◌, get_or-drop}
use native.Mathlib.Omega.{arith}
use Rattle.role_record.specs.Record.{table_of}
use Rattle.mine_matches.specs.Matches.{known_for, known_places, met_of, Met, passing_of}
use Rattle.sets.specs.ListLaws.{all_ext}
use Rattle.sets.specs.LoopLaws.{table-unique}
use Rattle.sets.specs.Sets.{narrowing, bit, subset, mask_of}
use Rattle.sets.specs.MaskLaws.{mask_same, mask_wide, bit-mask_of}
use Rattle.sets.specs.SetLaws.{bit_mask}
use Rattle.sets.specs.Tests.{imp, all, up_to, Is}
use Rattle.sets.specs.TestLaws.{up_to-out, and_l, and_r, test}
use Rattle.grant_values.specs.PlaceValues.{count_at, knowing}

-- the tables have room for a side
pub count_room : (users resources i : ℕ) → users ≤ 64 → resources ≤ 64 → count_at users resources i ≤ 64
count_room users resources i hu hr = go (ltb i 7)
  where
    go : (b : Bool) → cond b users resources ≤ 64
    go true = hu
    go false = hr

module _ (users resources : ℕ) (known : List ℕ) where
  known-wide : (i : ℕ) → count_at users resources i ≤ 64
      → mask_of 64 (λ k. ltb k (count_at users resources i) && (eqb (i % 7) 6 || bit (get_or known (6 * (i / 7) + i % 7) 0) k)) ≡ known_for users resources known i
  unfolding known_for
  known-wide i l = sym (mask_wide (count_at users resources i) 64 (λ x. eqb (i % 7) 6 || bit (get_or known (6 * (i / 7) + i % 7) 0) x) l)

  -- who has a value at the place, of those there are
  pub known-there : (i there m r : ℕ) → count_at users resources i ≤ 64 → there ≡ mask_of 64 (λ k. ltb k (count_at users resources i)) → m ≡ knowing users resources known i → r ≡ mask_of 64 (λ k. bit there k && bit m k)
      → r ≡ known_for users resources known i
  unfolding knowing
  known-there i there m r l p q e =
      e
      ∙ mask_same 64 (λ k. bit there k && bit m k) (λ k. ltb k (count_at users resources i) && (eqb (i % 7) 6 || bit (get_or known (6 * (i / 7) + i % 7) 0) k))
      (λ k h. ap₂ ◌&&◌ (ap (λ (x : ℕ). bit x k) p ∙ bit_mask 64 (λ k. ltb k (count_at users resources i)) k h) (ap (λ (x : ℕ). bit x k) q)
      ∙ at k h)
      ∙ known-wide i l
    where
      at : (k : ℕ) → k < 64
          → (ltb k (count_at users resources i) && bit (cond (ltb (i % 7) 6) (get_or known (6 * (i / 7) + i % 7) 0) (mask_of 64 (λ x. ltb x (count_at users resources i)))) k)
          ≡ (ltb k (count_at users resources i) && (eqb (i % 7) 6 || bit (get_or known (6 * (i / 7) + i % 7) 0) k))
      at k h = test (ltb (i % 7) 6)
          (λ e. let d = ltb-true (i % 7) 6 e in rw (e, ne_eqb (i % 7) 6 (λ z. omega arith)) refl)
          (λ e. let d = ltb-false (i % 7) 6 e in
          let z : i % 7 ≡ 6 = omega arith in
          rw (e, eq-eqb (i % 7) 6 z) (ap (λ (b : Bool). ltb k (count_at users resources i) && b) (bit_mask 64 (λ x. ltb x (count_at users resources i)) k h) ∙ twice (ltb k (count_at users resources i))))
        where
          twice : (b : Bool) → (b && b) ≡ (b && true)
          twice true = refl
          twice false = refl

  -- a table with these words is the table
  pub known-unique : (t : List ℕ) → length t ≡ 14 → ((i : ℕ) → i < 14 → get_or t i 0 ≡ known_for users resources known i) → t ≡ known_places users resources known
  unfolding known_places table_of
  known-unique t e h = table-unique 14 t (known_for users resources known) e h

-- whoever knows an attribute has a value there
pub known_valued : (users resources : ℕ) (known : List ℕ) (p x : ℕ) → x < 64 → Is (bit (known_for users resources known p) x) → Is (bit (knowing users resources known p) x)
unfolding known_for knowing
known_valued users resources known p x hx h =
    let s = sym (bit-mask_of (count_at users resources p) (λ x. eqb (p % 7) 6 || bit (get_or known (6 * (p / 7) + p % 7) 0) x) x) ∙ h in
    let there = and_l (ltb x (count_at users resources p)) _ s in
    let knows = and_r (ltb x (count_at users resources p)) _ s in
    test (ltb (p % 7) 6)
    (λ e. let l = ltb-true (p % 7) 6 e in rw e (sym (ap (λ (b : Bool). b || bit (get_or known (6 * (p / 7) + p % 7) 0) x) (ne_eqb (p % 7) 6 (λ z. omega arith))) ∙ knows))
    (λ e. rw e (bit_mask 64 (λ x. ltb x (count_at users resources p)) x hx ∙ there))

-- ---- who passes the conjuncts of some members

-- who is left after the attributes before n
abbrev pub passing_to : (met known : List ℕ) → (side members count n : ℕ) → ℕ → Bool
passing_to met known side members count n =
    narrowing (mask_of 64 (λ x. ltb x count)) (λ a. subset members (get_or known (7 * side + a) 0)) (λ a. get_or met (6 * side + a) 0) n

-- by the table of some members that is who passes, without the 255
pub passing_so : (matches met known : List ℕ) (attributes side members count : ℕ) → attributes ≤ 6 → count ≤ 64 → Met matches side members (drop (6 * side) met)
    → mask_of 64 (passing_to met known side members count attributes) ≡ passing_of matches known attributes side false members count
unfolding passing_of
passing_so matches met known attributes side members count few l h =
    mask_same 64 (passing_to met known side members count attributes) (λ x. ltb x count && (asked x && true))
    (λ x lx. ap₂ ◌&&◌ (bit_mask 64 (λ x. ltb x count) x lx) (all_alike x) ∙ sym (ap (λ (b : Bool). ltb x count && b) (and-true (asked x))))
    ∙ sym (mask_wide count 64 (λ x. asked x && true) l)
  where
    asked : ℕ → Bool
    asked x = all (λ a. imp (subset members (get_or known (7 * side + a) 0)) (bit (met_of matches (7 * side + a) members) x)) (up_to attributes)

    all_alike : (x : ℕ) → all (λ a. imp (subset members (get_or known (7 * side + a) 0)) (bit (get_or met (6 * side + a) 0) x)) (up_to attributes) ≡ asked x
    all_alike x = all_ext (λ a. imp (subset members (get_or known (7 * side + a) 0)) (bit (get_or met (6 * side + a) 0) x)) (λ a. imp (subset members (get_or known (7 * side + a) 0)) (bit (met_of matches (7 * side + a) members) x)) (up_to attributes)
        (λ a m. let k = up_to-out attributes m in ap (λ (n : ℕ). imp (subset members (get_or known (7 * side + a) 0)) (bit n x)) (sym (get_or-drop (6 * side) met a 0) ∙ h a (omega arith)))
