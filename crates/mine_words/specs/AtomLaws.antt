-- The atoms true of all pairs, found user by user from the declared ones on, and the first operation of a class.
-- Assumes nothing.
use Rattle.std.specs.Prelude.{ℕ, zero, suc, ◌+◌, ◌*◌, ◌/◌, ◌%◌, ◌^◌, ◌≤◌, ◌<◌, eqb, ltb, get_or, Bool, true, false, ◌&&◌, ◌||◌, List, ◌≡◌, refl}
use Rattle.std.proofs.Common.{eqb-true, ltb-true, ltb-false, lt-ltb, sym, ap, ap₂, ◌∙◌, arith}
use Rattle.std.proofs.Math.Bool.{and-false, and_assoc, and-true, or-false}
use Rattle.mine_words.specs.PartWords.{true_of_all, is_atom_of, atoms_of, at_most_six, declared_atoms, true_of_user}
use Rattle.sets.specs.MemberLaws.{least_in, bit-less, all-turn, all_left, all_done}
use Rattle.sets.specs.Lowest.{lowest_from}
use Rattle.sets.specs.MaskLaws.{bit-out, bit-mask_of, mask_lt, mask_unique, mask_same, mask_wide}
use Rattle.sets.specs.Sets.{bit, subset, mask_of, less_one}
use Rattle.sets.specs.SetLaws.{bit-none, bit_mask}
use Rattle.sets.specs.Tests.{Is}
use Rattle.sets.specs.TestLaws.{never, test, same}

-- ---- the declared atoms

pub six-most : (n : ℕ) → at_most_six n ≤ 6
unfolding at_most_six
six-most n = test (ltb n 6) (λ e. let l = ltb-true n 6 e in rw e (omega arith)) (λ e. rw e (omega arith))

-- below six the cut is not seen
six-test : (x n : ℕ) → x < 6 → ltb x (at_most_six n) ≡ ltb x n
unfolding at_most_six
six-test x n h = test (ltb n 6) (λ e. rw e refl) (λ e. let l = ltb-false n 6 e in rw e (lt-ltb x 6 h ∙ sym (lt-ltb x n (omega arith))))

row-test : (i n : ℕ) → i < 36 → ltb i (6 * at_most_six n) ≡ ltb (i / 6) n
row-test i n h =
    same (ltb i (6 * at_most_six n)) (ltb (i / 6) (at_most_six n))
    (λ e. let l = ltb-true i (6 * at_most_six n) e in lt-ltb (i / 6) (at_most_six n) (omega arith))
    (λ e. let l = ltb-true (i / 6) (at_most_six n) e in lt-ltb i (6 * at_most_six n) (omega arith))
    ∙ six-test (i / 6) n (omega arith)

-- six copies of up to six columns, by a product
spread_columns : (n : ℕ) → n ≤ 6 → mask_of 64 (λ k. ltb k n) * 1090785345 ≡ mask_of 36 (λ i. ltb (i % 6) n)
unfolding mask_of
spread_columns zero h = refl
spread_columns (suc zero) h = refl
spread_columns (suc (suc zero)) h = refl
spread_columns (suc (suc (suc zero))) h = refl
spread_columns (suc (suc (suc (suc zero)))) h = refl
spread_columns (suc (suc (suc (suc (suc zero))))) h = refl
spread_columns (suc (suc (suc (suc (suc (suc zero)))))) h = refl
spread_columns (suc (suc (suc (suc (suc (suc (suc n))))))) h = absurd (omega arith)

-- and it has room
pub columns_room : (n m : ℕ) → m ≡ mask_of 64 (λ k. ltb k (at_most_six n)) → m * 1090785345 < 2 ^ 64
columns_room n m e = let d = ap (λ (x : ℕ). x * 1090785345) e ∙ spread_columns (at_most_six n) (six-most n) in omega (arith, d, mask_lt 36 (λ i. ltb (i % 6) (at_most_six n)))

pub declared_law : (attributes : List ℕ) (rows columns m : ℕ) → rows ≡ mask_of 64 (λ k. ltb k (6 * at_most_six (get_or attributes 0 0))) → columns ≡ mask_of 64 (λ k. ltb k (at_most_six (get_or attributes 1 0)))
    → m ≡ mask_of 64 (λ k. bit rows k && bit (columns * 1090785345) k) → m ≡ declared_atoms attributes
unfolding declared_atoms
declared_law attributes rows columns m er ec q = q
    ∙ mask_same 64 (λ k. bit rows k && bit (columns * 1090785345) k) (λ i. ltb i 36 && (ltb (i / 6) (get_or attributes 0 0) && ltb (i % 6) (get_or attributes 1 0))) at
    ∙ sym (mask_wide 36 64 (λ i. ltb (i / 6) (get_or attributes 0 0) && ltb (i % 6) (get_or attributes 1 0)) (omega arith))
  where
    row-bit : (i : ℕ) → i < 64 → bit rows i ≡ ltb i (6 * at_most_six (get_or attributes 0 0))
    row-bit i l = ap (λ (x : ℕ). bit x i) er ∙ bit_mask 64 (λ k. ltb k (6 * at_most_six (get_or attributes 0 0))) i l

    column-bit : (i : ℕ) → bit (columns * 1090785345) i ≡ (ltb i 36 && ltb (i % 6) (at_most_six (get_or attributes 1 0)))
    column-bit i =
        ap (λ (x : ℕ). bit x i) (ap (λ (x : ℕ). x * 1090785345) ec ∙ spread_columns (at_most_six (get_or attributes 1 0)) (six-most (get_or attributes 1 0)))
        ∙ bit-mask_of 36 (λ i. ltb (i % 6) (at_most_six (get_or attributes 1 0))) i

    at : (i : ℕ) → i < 64 → (bit rows i && bit (columns * 1090785345) i) ≡ (ltb i 36 && (ltb (i / 6) (get_or attributes 0 0) && ltb (i % 6) (get_or attributes 1 0)))
    at i l = ap₂ ◌&&◌ (row-bit i l) (column-bit i) ∙ test (ltb i 36)
        (λ e. rw e (ap₂ ◌&&◌ (row-test i (get_or attributes 0 0) (ltb-true i 36 e)) (six-test (i % 6) (get_or attributes 1 0) (omega arith))))
        (λ e. rw e (and-false (ltb i (6 * at_most_six (get_or attributes 0 0)))))

pub declared-low : (attributes : List ℕ) (m : ℕ) → m ≡ declared_atoms attributes → m < 2 ^ 36
unfolding declared_atoms
declared-low attributes m e = omega (arith, e, mask_lt 36 (λ i. ltb (i / 6) (get_or attributes 0 0) && ltb (i % 6) (get_or attributes 1 0)))

-- ---- the atoms that a user leaves

-- a set of atoms that is not empty has its least, and it is an atom
pub least-atom : (m y : ℕ) → m < 2 ^ 36 → y ≡ lowest_from (bit m) 0 64 → 0 < m → (y < 36) × Is (bit m y)
least-atom m y h q z =
    let t = least_in m (omega arith) y q z in
    (test (ltb y 36) (λ e. ltb-true y 36 e) (λ e. never t.1 (bit-out 36 m y h (ltb-false y 36 e))), t.1)

-- a set that took one in still fits
pub with_low : (m y found : ℕ) → found ≡ mask_of 64 (λ k. bit m k || eqb k y) → found < 2 ^ 64
with_low m y found e = omega (arith, e, mask_lt 64 (λ k. bit m k || eqb k y))

-- those found, and those left that pass
abbrev pub keeping : (ℕ → Bool) → ℕ → ℕ → ℕ → Bool
keeping f m rest k = bit m k || (bit rest k && f k)

module _ (f : ℕ → Bool) where
  pub keep-begin : (atoms : ℕ) → atoms < 2 ^ 36 → mask_of 64 (keeping f 0 atoms) ≡ mask_of 36 (λ i. bit atoms i && f i)
  keep-begin atoms h =
      mask_same 64 (keeping f 0 atoms) (λ i. ltb i 36 && (bit atoms i && f i)) (λ i l. ap (λ (b : Bool). b || (bit atoms i && f i)) (bit-none i) ∙ at i)
      ∙ sym (mask_wide 36 64 (λ i. bit atoms i && f i) (omega arith))
    where
      at : (i : ℕ) → (bit atoms i && f i) ≡ (ltb i 36 && (bit atoms i && f i))
      at i = test (ltb i 36) (λ e. rw e refl) (λ e. rw (e, bit-out 36 atoms i h (ltb-false i 36 e)) refl)

  module _ (m rest y : ℕ) (h : rest < 2 ^ 64) (b : Is (bit rest y)) where
    -- whatever the turn did with y
    turned : (found : ℕ) → ((k : ℕ) → k < 64 → bit found k ≡ (bit m k || (eqb k y && f y))) → mask_of 64 (keeping f found (less_one rest y)) ≡ mask_of 64 (keeping f m rest)
    turned found e = mask_same 64 (keeping f found (less_one rest y)) (keeping f m rest) λ k l.
        ap₂ (λ (c d : Bool). c || (d && f k)) (e k l) (bit-less rest h y k) ∙ test (eqb k y)
        (λ q. let d = eqb-true k y q in rw (q, d, b) (one (bit m y) (f y)))
        (λ q. rw q (other (bit m k) (bit rest k) (f k)))
      where
        one : (c d : Bool) → ((c || d) || ((true && false) && d)) ≡ (c || d)
        one true d = refl
        one false d = or-false d

        other : (c d e : Bool) → ((c || false) || ((d && true) && e)) ≡ (c || (d && e))
        other c d e = ap₂ (λ (x z : Bool). x || (z && e)) (or-false c) (and-true d)

    -- a turn that takes one in by a call, `m = with(m, y)`
    pub keep_in : (found : ℕ) → f y ≡ true → found ≡ mask_of 64 (λ k. bit m k || eqb k y) → mask_of 64 (keeping f found (less_one rest y)) ≡ mask_of 64 (keeping f m rest)
    keep_in found e q = turned found λ k l. ap (λ (x : ℕ). bit x k) q ∙ bit_mask 64 (λ k. bit m k || eqb k y) k l ∙ ap (λ (c : Bool). bit m k || c) (sym (ap (λ (d : Bool). eqb k y && d) e ∙ and-true (eqb k y)))

    -- a turn that passes one by
    pub keep_out : (found : ℕ) → f y ≡ false → found ≡ m → mask_of 64 (keeping f found (less_one rest y)) ≡ mask_of 64 (keeping f m rest)
    keep_out found e q = turned found λ k l. ap (λ (x : ℕ). bit x k) q ∙ sym (ap (λ (c : Bool). bit m k || c) (ap (λ (d : Bool). eqb k y && d) e ∙ and-false (eqb k y)) ∙ or-false (bit m k))

  pub keep-done : (m rest : ℕ) → m < 2 ^ 64 → rest ≡ 0 → mask_of 64 (keeping f m rest) ≡ m
  keep-done m rest h e = sym (mask_unique 64 m (keeping f m rest) h λ k l. sym (ap (λ (b : Bool). bit m k || (b && f k)) (ap (λ (x : ℕ). bit x k) e ∙ bit-none k) ∙ or-false (bit m k)))

-- ---- user by user

-- the atoms of a set that are true of all of some users
abbrev pub true_still : List ℕ → (m rest resources : ℕ) → ℕ
true_still links m rest resources = mask_of 36 (λ i. bit m i && true_of_all links i rest resources)

pub still-begin : (links attributes : List ℕ) (users resources m : ℕ) → m ≡ declared_atoms attributes → true_still links m users resources ≡ atoms_of links attributes users resources
unfolding atoms_of is_atom_of declared_atoms
still-begin links attributes users resources m e =
    mask_same 36 (λ i. bit m i && true_of_all links i users resources) (is_atom_of links attributes users resources) λ i l.
    ap (λ (b : Bool). b && true_of_all links i users resources) (ap (λ (x : ℕ). bit x i) e ∙ bit_mask 36 (λ i. ltb (i / 6) (get_or attributes 0 0) && ltb (i % 6) (get_or attributes 1 0)) i l)
    ∙ and_assoc (ltb (i / 6) (get_or attributes 0 0)) (ltb (i % 6) (get_or attributes 1 0)) (true_of_all links i users resources)

pub still-low : (links : List ℕ) (atoms u resources m : ℕ) → m ≡ true_of_user links atoms u resources → m < 2 ^ 36
unfolding true_of_user
still-low links atoms u resources m e = omega (arith, e, mask_lt 36 (λ i. bit atoms i && subset resources (get_or links (64 * i + u) 0)))

pub still-turn : (links : List ℕ) (m found rest y resources : ℕ) → rest < 2 ^ 64 → y < 64 → Is (bit rest y) → found ≡ true_of_user links m y resources
    → true_still links found (less_one rest y) resources ≡ true_still links m rest resources
unfolding true_of_all true_of_user
still-turn links m found rest y resources h l b e = mask_same 36 (λ i. bit found i && true_of_all links i (less_one rest y) resources) (λ i. bit m i && true_of_all links i rest resources) λ i k.
    ap (λ (c : Bool). c && true_of_all links i (less_one rest y) resources) (ap (λ (x : ℕ). bit x i) e ∙ bit_mask 36 (λ i. bit m i && subset resources (get_or links (64 * i + y) 0)) i k)
    ∙ and_assoc (bit m i) (subset resources (get_or links (64 * i + y) 0)) (true_of_all links i (less_one rest y) resources)
    ∙ ap (λ (c : Bool). bit m i && c) (test (subset resources (get_or links (64 * i + y) 0))
    (λ q. rw q (all-turn rest h (λ u. subset resources (get_or links (64 * i + u) 0)) y q))
    (λ q. rw q (sym (all_left rest h (λ u. subset resources (get_or links (64 * i + u) 0)) y l b q))))

pub still-done : (links : List ℕ) (m rest resources : ℕ) → m < 2 ^ 36 → rest ≡ 0 → true_still links m rest resources ≡ m
unfolding true_of_all
still-done links m rest resources h e = sym (mask_unique 36 m (λ i. bit m i && true_of_all links i rest resources) h λ i l.
    sym (ap (λ (b : Bool). bit m i && b) (all_done (λ u. subset resources (get_or links (64 * i + u) 0)) rest e) ∙ and-true (bit m i)))
