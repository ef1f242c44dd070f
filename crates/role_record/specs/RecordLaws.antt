-- How each command changes the record's tables.
-- Assumes nothing.
use Prim.Native.Nat.{ℕ, zero, suc, ◌+◌, ◌*◌, ◌/◌, ◌%◌, ◌≤◌, ◌<◌}
use Rattle.std.proofs.Common.{eqb-true, eq-eqb, ne_eqb, ltb-true, ltb-false, lt-ltb, le-ltb, length-append, ◌∙◌, subst}
use Rattle.std.proofs.lemmas.Bool.{eqb-false}
use Rattle.std.proofs.Math.Dec.{eqb}
use Rattle.std.specs.Prelude.{ltb, set, replicate, Bool, ◌&&◌, ◌||◌, List, [], ◌∷◌, ◌++◌, map, ◌≡◌}
use Rattle.std.proofs.Math.ListN.{length, get_or, get_or-eq_default}
use Rattle.std.proofs.Math.Bool.{true, false, cond, or_comm, and-false, and-true, and_assoc}
use Rattle.std.proofs.Math.Option.{Option, some}
use Rattle.std.proofs.Math.Path.{refl, sym, ap, ap₂}
use native.Mathlib.Omega.{arith}
use Rattle.files.specs.RoleFile.{side_by, same_side, with_table, with_kind, with_value, with_assigned, with_permitted, with_line}
use Rattle.role_record.specs.Cells.{most_operations, permission_at, permission_role, permission_operation, permission_cells}
use Rattle.role_record.specs.CellsLaws.{permission_same}
use Rattle.role_record.specs.Record.{table_of, column_side, number_or, marked, marked_if, known_table, value_table, assigned_table, line_table, permission_table, attribute_table, kind_table, Sized, domain_table, same_domain}
use Rattle.policy.specs.Policy.{Table, Policy, kind_of, one, setting_of, side_of}
use Rattle.policy.specs.Rules.{Which, user, resource}
use Rattle.sets.specs.LoopLaws.{table-long, table_at, table_same}
use Rattle.sets.specs.MaskLaws.{bit-mask_of, mask_same}
use Rattle.sets.specs.Sets.{bit, mask_of}
use Rattle.sets.specs.SetLaws.{bit-none, bit_mask}
use Rattle.sets.specs.Tests.{Is, from, is_some}
use Rattle.sets.specs.TestLaws.{and_in, and_l, and_r, never, test, fails, same}

-- ---- tables

pub table_get : (n : ℕ) (f : ℕ → ℕ) (i : ℕ) → i < n → get_or (table_of n f) i 0 ≡ f i
unfolding table_of
table_get n f i h = table_at n f i h

pub table-length : (n : ℕ) (f : ℕ → ℕ) → length (table_of n f) ≡ n
unfolding table_of
table-length n f = table-long n f

-- a table cleared, whose length is known
pub cleared : (n : ℕ) (out after : List ℕ) → length out ≡ n → after ≡ table_of (length out) (λ i. 0) → after ≡ table_of n (λ i. 0)
cleared n out after e q = q ∙ ap (λ (k : ℕ). table_of k (λ i. 0)) e

pub cleared-long : (n : ℕ) (out after : List ℕ) → length out ≡ n → after ≡ table_of (length out) (λ i. 0) → length after ≡ n
cleared-long n out after e q = ap length q ∙ table-length (length out) (λ i. 0) ∙ e

pub table_ext : (n : ℕ) (f g : ℕ → ℕ) → ((j : ℕ) → j < n → f j ≡ g j) → table_of n f ≡ table_of n g
unfolding table_of
table_ext n f g h = table_same n f g h

from_ext : (f g : ℕ → ℕ) (k n : ℕ) → ((j : ℕ) → k ≤ j → j < k + n → f j ≡ g j) → map f (from k n) ≡ map g (from k n)
from_ext f g k zero h = refl
from_ext f g k (suc n) h = ap₂ ◌∷◌ (h k (omega arith) (omega arith)) (from_ext f g (suc k) n (λ j a b. h j (omega arith) (omega arith)))

from-set : (f g : ℕ → ℕ) (k n i : ℕ) → i < n → ((j : ℕ) → k ≤ j → j < k + n → (j ≡ k + i → ⊥) → f j ≡ g j) → set (map f (from k n)) i (g (k + i)) ≡ map g (from k n)
from-set f g k zero i h e = absurd (omega arith)
from-set f g k (suc n) zero h e =
    ap₂ ◌∷◌ (let d : k + 0 ≡ k = omega arith in ap g d) (from_ext f g (suc k) n (λ j a b. e j (omega arith) (omega arith) (omega arith)))
from-set f g k (suc n) (suc i) h e =
    ap₂ ◌∷◌ (e k (omega arith) (omega arith) (omega arith))
    ((let d : k + suc i ≡ suc k + i = omega arith in ap (λ (x : ℕ). set (map f (from (suc k) n)) i (g x)) d)
    ∙ from-set f g (suc k) n i (omega arith) (λ j a b c. e j (omega arith) (omega arith) (λ q. c (omega arith))))

-- one entry of a table stored
pub table-set : (n : ℕ) (f g : ℕ → ℕ) (i v : ℕ) → i < n → v ≡ g i → ((j : ℕ) → j < n → (j ≡ i → ⊥) → f j ≡ g j) → set (table_of n f) i v ≡ table_of n g
unfolding table_of
table-set n f g i v h e q =
    ap (set (table_of n f) i) (e ∙ (let d : i ≡ 0 + i = omega arith in ap g d)) ∙ from-set f g 0 n i h (λ j a b c. q j (omega arith) (λ d. c (omega arith)))

pub table_none : (n : ℕ) → replicate {A = ℕ} n 0 ≡ table_of n (λ i. 0)
unfolding table_of
table_none n = go 0 n
  where
    go : (k n : ℕ) → replicate {A = ℕ} n 0 ≡ map (λ i. 0) (from k n)
    go k zero = refl
    go k (suc n) = ap (λ (l : List ℕ). 0 ∷ l) (go (suc k) n)

-- ---- one element more in one set of a table of sets

marked_mask : (f : ℕ → Bool) (x : ℕ) → marked (mask_of 64 f) x ≡ mask_of 64 (λ k. eqb k x || f k)
marked_mask f x = mask_same 64 (λ k. bit (mask_of 64 f) k || eqb k x) (λ k. eqb k x || f k) (λ k l. ap (λ (b : Bool). b || eqb k x) (bit_mask 64 f k l) ∙ or_comm (f k) (eqb k x))

pub table_mark : (n : ℕ) (f : ℕ → ℕ → Bool) (i x : ℕ) → i < n
    → set (table_of n (λ k. mask_of 64 (f k))) i (marked (get_or (table_of n (λ k. mask_of 64 (f k))) i 0) x) ≡ table_of n (λ k. mask_of 64 (λ v. (eqb k i && eqb v x) || f k v))
table_mark n f i x h =
    table-set n (λ k. mask_of 64 (f k)) (λ k. mask_of 64 (λ v. (eqb k i && eqb v x) || f k v)) i (marked (get_or (table_of n (λ k. mask_of 64 (f k))) i 0) x) h
    (ap (λ (m : ℕ). marked m x) (table_get n (λ k. mask_of 64 (f k)) i h) ∙ marked_mask (f i) x ∙ mask_same 64 (λ k. eqb k x || f i k) (λ v. (eqb i i && eqb v x) || f i v) (λ k l. rw (eq-eqb i i refl) refl))
    (λ j l d. mask_same 64 (f j) (λ v. (eqb j i && eqb v x) || f j v) (λ v k. rw (ne_eqb j i d) refl))

-- a relation within the limits, and its table
pub table-bits : (n : ℕ) (f : ℕ → ℕ → Bool) → ((i j : ℕ) → Is (f i j) → (i < n) × (j < 64)) → (i j : ℕ) → f i j ≡ bit (get_or (table_of n (λ k. mask_of 64 (f k))) i 0) j
table-bits n f h i j =
    test (ltb i n)
    (λ e. sym (ap (λ (m : ℕ). bit m j) (table_get n (λ k. mask_of 64 (f k)) i (ltb-true i n e)) ∙ bit-mask_of 64 (f i) j ∙ inside (ltb j 64) refl))
    (λ e. same (f i j) (bit (get_or (table_of n (λ k. mask_of 64 (f k))) i 0) j) (λ q. absurd (past (ltb-false i n e) (h i j q).0)) (λ q. never q (ap (λ (m : ℕ). bit m j) (get_or-eq_default (table_of n (λ k. mask_of 64 (f k))) 0 (subst (λ (x : ℕ). x ≤ i) (sym (table-length n (λ k. mask_of 64 (f k)))) (ltb-false i n e))) ∙ bit-none j)))
  where
    past : n ≤ i → i < n → ⊥
    past a b = omega arith

    inside : (b : Bool) → ltb j 64 ≡ b → (b && f i j) ≡ f i j
    inside true e = refl
    inside false e = sym (fails (f i j) λ q. let a = (h i j q).1 in let b = ltb-false j 64 e in omega arith)

-- ---- each command's table

module _ (F : Policy) where
  pub assigned-marked : (k u : ℕ) → k < 32 → set (assigned_table F) k (marked (get_or (assigned_table F) k 0) u) ≡ assigned_table (with_assigned F k u)
  unfolding assigned_table with_assigned
  assigned-marked k u h = table_mark 32 F.assigned k u h

  pub line_marked : (j s : ℕ) → j < 32 → set (line_table F) j (marked (get_or (line_table F) j 0) s) ≡ line_table (with_line F j s)
  unfolding line_table with_line
  line_marked j s h = table_mark 32 F.line j s h

  pub permission_marked : (k r o : ℕ) → k < 32 → o < most_operations → set (permission_table F) (permission_at k o) (marked (get_or (permission_table F) (permission_at k o) 0) r) ≡ permission_table (with_permitted F k r o)
  unfolding permission_table with_permitted
  permission_marked k r o hk ho =
      table_mark (permission_cells most_operations) (λ i q. F.permitted (permission_role i) q (permission_operation i)) (permission_at k o) r (omega arith)
      ∙ table_ext (permission_cells most_operations) (λ i. mask_of 64 (λ v. (eqb i (permission_at k o) && eqb v r) || F.permitted (permission_role i) v (permission_operation i))) (λ i. mask_of 64 (λ q. (eqb (permission_role i) k && (eqb q r && eqb (permission_operation i) o)) || F.permitted (permission_role i) q (permission_operation i)))
      (λ i l. mask_same 64 (λ v. (eqb i (permission_at k o) && eqb v r) || F.permitted (permission_role i) v (permission_operation i)) (λ q. (eqb (permission_role i) k && (eqb q r && eqb (permission_operation i) o)) || F.permitted (permission_role i) q (permission_operation i))
      (λ q m. ap (λ (b : Bool). b || F.permitted (permission_role i) q (permission_operation i)) (ap (λ (b : Bool). b && eqb q r) (permission_same i k o hk) ∙ shuffled (eqb (permission_role i) k) (eqb (permission_operation i) o) (eqb q r))))
    where
      shuffled : (a b c : Bool) → (a && b && c) ≡ (a && (c && b))
      shuffled true true true = refl
      shuffled true true false = refl
      shuffled true false true = refl
      shuffled true false false = refl
      shuffled false b c = refl

  -- the column of an attribute is its own alone
  column-of : (s side a : ℕ) → s < 12 → side < 2 → a < 6 → eqb s (6 * side + a) ≡ (same_side (column_side s) (side_by side) && eqb (s % 6) a)
  column-of s side a hs hd ha = go (eqb side 0) refl (ltb s 6) refl
    where
      wrong : (s ≡ 6 * side + a → ⊥) → eqb s (6 * side + a) ≡ false
      wrong h = ne_eqb s (6 * side + a) h

      right : (s % 6 ≡ a → s ≡ 6 * side + a) → (s ≡ 6 * side + a → s % 6 ≡ a) → eqb s (6 * side + a) ≡ eqb (s % 6) a
      right f g = same (eqb s (6 * side + a)) (eqb (s % 6) a) (λ e. eq-eqb (s % 6) a (g (eqb-true s (6 * side + a) e))) (λ e. eq-eqb s (6 * side + a) (f (eqb-true (s % 6) a e)))

      go : (x : Bool) → eqb side 0 ≡ x → (y : Bool) → ltb s 6 ≡ y → eqb s (6 * side + a) ≡ (same_side (cond y user resource) (cond x user resource) && eqb (s % 6) a)
      go true p true q = let d = eqb-true side 0 p in let e = ltb-true s 6 q in right (λ h. omega arith) (λ h. omega arith)
      go true p false q = let d = eqb-true side 0 p in let e = ltb-false s 6 q in wrong (λ h. omega arith)
      go false p true q = let d = eqb-false side 0 p in let e = ltb-true s 6 q in wrong (λ h. d (omega arith))
      go false p false q = let e = ltb-false s 6 q in let one = second side hd (eqb-false side 0 p) in right (λ h. omega arith) (λ h. omega arith)
        where
          second : (n : ℕ) → n < 2 → (n ≡ 0 → ⊥) → n ≡ 1
          second zero h k = absurd (k refl)
          second (suc n) h k = omega arith

  -- the value of an attribute after one was given
  value-given : (w s : Which) (b y a x v : ℕ) → ((with_value F s a x v).table w).value b y ≡ cond (same_side w s && (eqb b a && eqb y x)) (some v) ((F.table w).value b y)
  unfolding with_value with_table
  value-given user user b y a x v = refl
  value-given user resource b y a x v = refl
  value-given resource user b y a x v = refl
  value-given resource resource b y a x v = refl

  some-cond : (c : Bool) (v : ℕ) (o : Option ℕ) → is_some (cond c (some v) o) ≡ (c || is_some o)
  some-cond true v o = refl
  some-cond false v o = refl

  number-cond : (c : Bool) (v : ℕ) (o : Option ℕ) → number_or (cond c (some v) o) ≡ cond c v (number_or o)
  number-cond true v o = refl
  number-cond false v o = refl

  pub known-marked : (side a x v : ℕ) → side < 2 → a < 6 → set (known_table F) (6 * side + a) (marked (get_or (known_table F) (6 * side + a) 0) x) ≡ known_table (with_value F (side_by side) a x v)
  unfolding known_table
  known-marked side a x v hs ha =
      table_mark 12 (λ s y. is_some ((F.table (column_side s)).value (s % 6) y)) (6 * side + a) x (omega arith)
      ∙ table_ext 12 (λ s. mask_of 64 (λ y. (eqb s (6 * side + a) && eqb y x) || is_some ((F.table (column_side s)).value (s % 6) y))) (λ s. mask_of 64 (λ y. is_some (((with_value F (side_by side) a x v).table (column_side s)).value (s % 6) y)))
      (λ s l. mask_same 64 (λ y. (eqb s (6 * side + a) && eqb y x) || is_some ((F.table (column_side s)).value (s % 6) y)) (λ y. is_some (((with_value F (side_by side) a x v).table (column_side s)).value (s % 6) y))
      (λ y m. ap (λ (b : Bool). (b && eqb y x) || is_some ((F.table (column_side s)).value (s % 6) y)) (column-of s side a l hs ha)
      ∙ ap (λ (b : Bool). b || is_some ((F.table (column_side s)).value (s % 6) y)) (and_assoc (same_side (column_side s) (side_by side)) (eqb (s % 6) a) (eqb y x))
      ∙ sym (ap is_some (value-given (column_side s) (side_by side) (s % 6) y a x v) ∙ some-cond (same_side (column_side s) (side_by side) && (eqb (s % 6) a && eqb y x)) v ((F.table (column_side s)).value (s % 6) y))))

  pub value-stored : (side a x v : ℕ) → side < 2 → a < 6 → x < 64 → set (value_table F) (64 * (6 * side + a) + x) v ≡ value_table (with_value F (side_by side) a x v)
  unfolding value_table
  value-stored side a x v hs ha hx =
      table-set 768 (λ i. number_or ((F.table (column_side (i / 64))).value (i / 64 % 6) (i % 64))) (λ i. number_or (((with_value F (side_by side) a x v).table (column_side (i / 64))).value (i / 64 % 6) (i % 64))) (64 * (6 * side + a) + x) v (omega arith)
      (sym (after (64 * (6 * side + a) + x) (omega arith) ∙ ap (λ (b : Bool). cond b v (before (64 * (6 * side + a) + x))) (here (64 * (6 * side + a) + x) refl)))
      (λ j l d. sym (after j l ∙ ap (λ (b : Bool). cond b v (before j)) (elsewhere j l d)))
    where
      before : ℕ → ℕ
      before i = number_or ((F.table (column_side (i / 64))).value (i / 64 % 6) (i % 64))

      at-column : (i : ℕ) → i < 768 → (same_side (column_side (i / 64)) (side_by side) && (eqb (i / 64 % 6) a && eqb (i % 64) x)) ≡ (eqb (i / 64) (6 * side + a) && eqb (i % 64) x)
      at-column i l = sym (and_assoc (same_side (column_side (i / 64)) (side_by side)) (eqb (i / 64 % 6) a) (eqb (i % 64) x)) ∙ ap (λ (b : Bool). b && eqb (i % 64) x) (sym (column-of (i / 64) side a (omega arith) hs ha))

      after : (i : ℕ) → i < 768 → number_or (((with_value F (side_by side) a x v).table (column_side (i / 64))).value (i / 64 % 6) (i % 64)) ≡ cond (eqb (i / 64) (6 * side + a) && eqb (i % 64) x) v (before i)
      after i l =
          ap number_or (value-given (column_side (i / 64)) (side_by side) (i / 64 % 6) (i % 64) a x v)
          ∙ number-cond (same_side (column_side (i / 64)) (side_by side) && (eqb (i / 64 % 6) a && eqb (i % 64) x)) v ((F.table (column_side (i / 64))).value (i / 64 % 6) (i % 64))
          ∙ ap (λ (b : Bool). cond b v (before i)) (at-column i l)

      here : (i : ℕ) → i ≡ 64 * (6 * side + a) + x → (eqb (i / 64) (6 * side + a) && eqb (i % 64) x) ≡ true
      here i e = and_in (eq-eqb (i / 64) (6 * side + a) (omega arith)) (eq-eqb (i % 64) x (omega arith))

      elsewhere : (i : ℕ) → i < 768 → (i ≡ 64 * (6 * side + a) + x → ⊥) → (eqb (i / 64) (6 * side + a) && eqb (i % 64) x) ≡ false
      elsewhere i l d = fails (eqb (i / 64) (6 * side + a) && eqb (i % 64) x) λ h.
          let p = eqb-true (i / 64) (6 * side + a) (and_l (eqb (i / 64) (6 * side + a)) (eqb (i % 64) x) h) in
          let q = eqb-true (i % 64) x (and_r (eqb (i / 64) (6 * side + a)) (eqb (i % 64) x) h) in
          d (omega arith)

  -- ---- one attribute more

  -- the kind of the attribute declared last, and those before it
  kind_more : (l : List Bool) (k : Bool) (a : ℕ) → get_or (l ++ (k ∷ [])) a false ≡ ((eqb a (length l) && k) || get_or l a false)
  kind_more [] k zero = rw (or_comm k false) refl
  kind_more [] k (suc a) = rw (ne_eqb (suc a) 0 (omega arith)) refl
  kind_more (x ∷ xs) k zero = rw (ne_eqb 0 (suc (length xs)) (omega arith)) refl
  kind_more (x ∷ xs) k (suc a) = kind_more xs k a ∙ ap (λ (b : Bool). (b && k) || get_or xs a false) (same (eqb a (length xs)) (eqb (suc a) (suc (length xs))) (λ e. let d = eqb-true a (length xs) e in eq-eqb (suc a) (suc (length xs)) (omega arith)) (λ e. let d = eqb-true (suc a) (suc (length xs)) e in eq-eqb a (length xs) (omega arith)))

  kind_mask : (t : Table) (k : Bool) → marked_if k (mask_of 64 (kind_of t)) (length t.kinds) ≡ mask_of 64 (λ a. get_or (t.kinds ++ (k ∷ [])) a false)
  kind_mask t true = marked_mask (kind_of t) (length t.kinds) ∙ mask_same 64 (λ a. eqb a (length t.kinds) || kind_of t a) (λ a. get_or (t.kinds ++ (true ∷ [])) a false) (λ a l. sym (kind_more t.kinds true a ∙ ap (λ (b : Bool). b || kind_of t a) (and-true (eqb a (length t.kinds)))))
  kind_mask t false = mask_same 64 (kind_of t) (λ a. get_or (t.kinds ++ (false ∷ [])) a false) (λ a l. sym (kind_more t.kinds false a ∙ ap (λ (b : Bool). b || kind_of t a) (and-false (eqb a (length t.kinds)))))

  pub kind_marked : (side : ℕ) (k : Bool) (d : ℕ) → side < 2 → set (kind_table F) side (marked_if k (get_or (kind_table F) side 0) (get_or (attribute_table F) side 0)) ≡ kind_table (with_kind F (side_by side) k d)
  unfolding kind_table attribute_table with_kind with_table
  kind_marked zero k d h = ap (λ (m : ℕ). m ∷ mask_of 64 (kind_of (F.table resource)) ∷ []) (kind_mask (F.table user) k)
  kind_marked (suc zero) k d h = ap (λ (m : ℕ). mask_of 64 (kind_of (F.table user)) ∷ m ∷ []) (kind_mask (F.table resource) k)
  kind_marked (suc (suc n)) k d h = absurd (omega arith)

  pub attribute-counted : (side : ℕ) (k : Bool) (d : ℕ) → side < 2 → set (attribute_table F) side (get_or (attribute_table F) side 0 + 1) ≡ attribute_table (with_kind F (side_by side) k d)
  unfolding attribute_table with_kind with_table
  attribute-counted zero k d h = ap (λ (n : ℕ). n ∷ length (F.table resource).kinds ∷ []) (sym (length-append (F.table user).kinds (k ∷ [])))
  attribute-counted (suc zero) k d h = ap (λ (n : ℕ). length (F.table user).kinds ∷ n ∷ []) (sym (length-append (F.table resource).kinds (k ∷ [])))
  attribute-counted (suc (suc n)) k d h = absurd (omega arith)

  -- declaring an attribute changes no value
  pub kind_values : (side : ℕ) (k : Bool) (d : ℕ) → (known_table (with_kind F (side_by side) k d) ≡ known_table F) × (value_table (with_kind F (side_by side) k d) ≡ value_table F)
  unfolding known_table value_table with_kind with_table
  kind_values side k d = (
    table_ext 12 (λ s. mask_of 64 (λ x. is_some (((with_kind F (side_by side) k d).table (column_side s)).value (s % 6) x))) (λ s. mask_of 64 (λ x. is_some ((F.table (column_side s)).value (s % 6) x)))
        (λ s l. ap (λ (f : ℕ → ℕ → Option ℕ). mask_of 64 (λ x. is_some (f (s % 6) x))) (value-kept (column_side s) (side_by side))),
    table_ext 768 (λ i. number_or (((with_kind F (side_by side) k d).table (column_side (i / 64))).value (i / 64 % 6) (i % 64))) (λ i. number_or ((F.table (column_side (i / 64))).value (i / 64 % 6) (i % 64)))
        (λ i l. ap (λ (f : ℕ → ℕ → Option ℕ). number_or (f (i / 64 % 6) (i % 64))) (value-kept (column_side (i / 64)) (side_by side))),
  )
    where
      value-kept : (w s : Which) → ((with_kind F s k d).table w).value ≡ (F.table w).value
      value-kept user user = refl
      value-kept user resource = refl
      value-kept resource user = refl
      value-kept resource resource = refl

  -- ---- domains

  attributes-told : (side : ℕ) → side < 2 → get_or (attribute_table F) side 0 ≡ length (F.table (side_by side)).kinds
  unfolding attribute_table
  attributes-told zero h = refl
  attributes-told (suc zero) h = refl
  attributes-told (suc (suc n)) h = absurd (omega arith)

  -- the domain of an attribute after one was declared
  domain-declared : (w s : Which) (k : Bool) (d a : ℕ) → ((with_kind F s k d).table w).domain a ≡ cond (same_side w s && eqb a (length (F.table s).kinds)) d ((F.table w).domain a)
  unfolding with_kind with_table
  domain-declared user user k d a = refl
  domain-declared user resource k d a = refl
  domain-declared resource user k d a = refl
  domain-declared resource resource k d a = refl

  pub domain-stored : (side : ℕ) (k : Bool) (d : ℕ) → side < 2 → get_or (attribute_table F) side 0 < 6
      → set (domain_table F) (6 * side + get_or (attribute_table F) side 0) d ≡ domain_table (with_kind F (side_by side) k d)
  unfolding domain_table
  domain-stored side k d hs hn =
      table-set 12 former (λ s. ((with_kind F (side_by side) k d).table (column_side s)).domain (s % 6)) (6 * side + n) d (omega arith)
      (sym (at-column (6 * side + n) (omega arith) ∙ ap (λ (b : Bool). cond b d (former (6 * side + n))) (eq-eqb (6 * side + n) (6 * side + n) refl)))
      (λ j l e. sym (at-column j l ∙ ap (λ (b : Bool). cond b d (former j)) (ne_eqb j (6 * side + n) e)))
    where
      n : ℕ
      n = get_or (attribute_table F) side 0

      former : ℕ → ℕ
      former s = (F.table (column_side s)).domain (s % 6)

      at-column : (s : ℕ) → s < 12 → ((with_kind F (side_by side) k d).table (column_side s)).domain (s % 6) ≡ cond (eqb s (6 * side + n)) d (former s)
      at-column s l =
          domain-declared (column_side s) (side_by side) k d (s % 6)
          ∙ ap (λ (x : ℕ). cond (same_side (column_side s) (side_by side) && eqb (s % 6) x) d (former s)) (sym (attributes-told side hs))
          ∙ ap (λ (b : Bool). cond b d (former s)) (sym (column-of s side n l hs hn))

  -- giving a value changes no domain
  pub value_domains : (side a x v : ℕ) → domain_table (with_value F (side_by side) a x v) ≡ domain_table F
  unfolding domain_table with_value with_table
  value_domains side a x v =
      table_ext 12 (λ s. ((with_value F (side_by side) a x v).table (column_side s)).domain (s % 6)) (λ s. (F.table (column_side s)).domain (s % 6)) (λ s l. ap (λ (f : ℕ → ℕ). f (s % 6)) (domain-kept (column_side s) (side_by side)))
    where
      domain-kept : (w s : Which) → ((with_value F s a x v).table w).domain ≡ (F.table w).domain
      domain-kept user user = refl
      domain-kept user resource = refl
      domain-kept resource user = refl
      domain-kept resource resource = refl

  pub domains_same : (a b : ℕ) → a < 6 → b < 6 → same_domain (domain_table F) a b ≡ eqb ((F.table user).domain a) ((F.table resource).domain b)
  unfolding domain_table
  domains_same a b ha hb = ap₂ eqb (of-user a ha) (of-resource b hb)
    where
      of-user : (c : ℕ) → c < 6 → get_or (domain_table F) c 0 ≡ (F.table user).domain c
      of-user c h =
          let p : c % 6 ≡ c = omega arith in
          table_get 12 (λ s. (F.table (column_side s)).domain (s % 6)) c (omega arith) ∙ rw (lt-ltb c 6 h, p) refl

      of-resource : (c : ℕ) → c < 6 → get_or (domain_table F) (6 + c) 0 ≡ (F.table resource).domain c
      of-resource c h =
          let p : (6 + c) % 6 ≡ c = omega arith in
          table_get 12 (λ s. (F.table (column_side s)).domain (s % 6)) (6 + c) (omega arith) ∙ rw (le-ltb (6 + c) 6 (omega arith), p) refl

-- ---- what the tables show

-- the side of a column
pub column-side : (side a : ℕ) → side < 2 → a < 6 → column_side (6 * side + a) ≡ side_by side
column-side zero a h ha = rw (lt-ltb (6 * 0 + a) 6 (omega arith)) refl
column-side (suc zero) a h ha = rw (le-ltb (6 * 1 + a) 6 (omega arith)) refl
column-side (suc (suc n)) a h ha = absurd (omega arith)

module _ (F : Policy) where
  -- a value
  pub value-shown : (side a x : ℕ) → side < 2 → a < 6 → x < 64 → get_or (value_table F) (64 * (6 * side + a) + x) 0 ≡ number_or ((F.table (side_by side)).value a x)
  unfolding value_table
  value-shown side a x hs ha hx =
      table_get 768 (λ i. number_or ((F.table (column_side (i / 64))).value (i / 64 % 6) (i % 64))) (64 * (6 * side + a) + x) (omega arith)
      ∙ ap₂ (λ (s y : ℕ). number_or ((F.table (column_side s)).value (s % 6) y)) (let e : (64 * (6 * side + a) + x) / 64 ≡ 6 * side + a = omega arith in e) (let e : (64 * (6 * side + a) + x) % 64 ≡ x = omega arith in e)
      ∙ ap₂ (λ (w : Which) (b : ℕ). number_or ((F.table w).value b x)) (column-side side a hs ha) (let e : (6 * side + a) % 6 ≡ a = omega arith in e)

  -- how many there are of what an accepted policy has two of
  pub side-room : Sized F → (w : Which) → ((setting_of F).side w).count ≤ 64
  unfolding setting_of side_of
  side-room Z w = Z.many w

  pub attributes-room : Sized F → (w : Which) → ((setting_of F).side w).attrs ≤ 6
  unfolding setting_of side_of
  attributes-room Z w = Z.declared w
