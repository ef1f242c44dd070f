-- The laws of tables that loops change word by word.
-- Assumes nothing.
use Rattle.std.specs.Prelude.{ℕ, ◌+◌, ◌^◌, ◌≤◌, ◌<◌, Bool, ◌&&◌, ◌||◌, ◌≡◌}
use borrow.Author.Tests.{eqb-true, eqb-false, eq-eqb, ne_eqb, ltb-true, ltb-false, lt-ltb, le-ltb, not-true}
use Rattle.std.proofs.Math.Dec.{eqb, ltb}
use Rattle.std.proofs.Math.ListN.{length, get_or, set}
use Rattle.std.proofs.Math.Bool.{true, false, cond, not, and-false, and-true, or-false}
use Rattle.std.proofs.lemmas.Bool.{false≢true}
use mathlib.Core.List.{List}
use Rattle.std.proofs.Math.Path.{refl, sym, ap}
use Rattle.std.proofs.Common.{◌∙◌, arith}
use Rattle.role_record.specs.Cells.{permission_at, grid_at, grid_user, grid_operation, grid_cells}
use Rattle.role_record.specs.CellsLaws.{grid_parts}
use Rattle.role_record.specs.Record.{table_of}
use Rattle.role_record.specs.RecordLaws.{table_get, table-length, table_ext, table-set}
use Rattle.sets.specs.LoopLaws.{any-more, table-unique}
use Rattle.sets.specs.MaskLaws.{mask_same}
use Rattle.sets.specs.MemberLaws.{bit-less}
use Rattle.sets.specs.Sets.{bit, mask_of, less_one}
use Rattle.sets.specs.SetLaws.{bit-none, bit_mask}
use Rattle.sets.specs.Tests.{Is, any, up_to}
use Rattle.sets.specs.TestLaws.{and_in, and_l, and_r, test, fails, same, not_in, below_next}
use Rattle.grant_grids.specs.Grid.{grid_of, granted_by}
use Rattle.grant_grids.specs.Updates.{updated, span, joined_word, permitted_to, added_column, added_part}

-- ---- any test

-- a word changed at most once
once : (a b : Bool) (w : ℕ → ℕ) (x : ℕ) → (a ≡ true → b ≡ false) → cond b (w (cond a (w x) x)) (cond a (w x) x) ≡ cond (a || b) (w x) x
once true true w x h = absurd (false≢true (sym (h refl)))
once true false w x h = refl
once false true w x h = refl
once false false w x h = refl

module _ (n : ℕ) (w : ℕ → ℕ → ℕ) where
  -- the table keeps its length
  pub updated-long : (f : ℕ → Bool) (t : List ℕ) → length (updated n f w t) ≡ n
  unfolding updated
  updated-long f t = table-length n (λ i. cond (f i) (w i (get_or t i 0)) (get_or t i 0))

  -- what a word is
  pub updated_get : (f : ℕ → Bool) (t : List ℕ) (i : ℕ) → i < n → get_or (updated n f w t) i 0 ≡ cond (f i) (w i (get_or t i 0)) (get_or t i 0)
  unfolding updated
  updated_get f t i l = table_get n (λ i. cond (f i) (w i (get_or t i 0)) (get_or t i 0)) i l

  -- no word passes
  pub updated_none : (f : ℕ → Bool) (t : List ℕ) → length t ≡ n → ((i : ℕ) → i < n → f i ≡ false) → t ≡ updated n f w t
  unfolding updated table_of
  updated_none f t e h = table-unique n t (λ i. cond (f i) (w i (get_or t i 0)) (get_or t i 0)) e (λ i l. sym (ap (λ (b : Bool). cond b (w i (get_or t i 0)) (get_or t i 0)) (h i l)))

  -- tests that pass together change the same words
  pub updated-same : (f g : ℕ → Bool) (t : List ℕ) → ((i : ℕ) → i < n → f i ≡ g i) → updated n f w t ≡ updated n g w t
  unfolding updated
  updated-same f g t h = table_ext n (λ i. cond (f i) (w i (get_or t i 0)) (get_or t i 0)) (λ i. cond (g i) (w i (get_or t i 0)) (get_or t i 0)) (λ i l. ap (λ (b : Bool). cond b (w i (get_or t i 0)) (get_or t i 0)) (h i l))

  -- one word more is changed
  pub updated-next : (f g : ℕ → Bool) (t : List ℕ) (i v : ℕ) → i < n → f i ≡ false → g i ≡ true → ((j : ℕ) → j < n → (j ≡ i → ⊥) → f j ≡ g j)
      → v ≡ w i (get_or (updated n f w t) i 0) → set (updated n f w t) i v ≡ updated n g w t
  unfolding updated
  updated-next f g t i v l p q h e =
      table-set n (λ i. cond (f i) (w i (get_or t i 0)) (get_or t i 0)) (λ i. cond (g i) (w i (get_or t i 0)) (get_or t i 0)) i v l
      (e ∙ ap (w i) (updated_get f t i l ∙ ap (λ (b : Bool). cond b (w i (get_or t i 0)) (get_or t i 0)) p) ∙ sym (ap (λ (b : Bool). cond b (w i (get_or t i 0)) (get_or t i 0)) q))
      (λ j k d. ap (λ (b : Bool). cond b (w j (get_or t j 0)) (get_or t j 0)) (h j k d))

  -- other words than before are changed
  pub updated-twice : (f g h : ℕ → Bool) (t : List ℕ) → ((i : ℕ) → i < n → g i ≡ true → f i ≡ false) → ((i : ℕ) → i < n → (g i || f i) ≡ h i)
      → updated n f w (updated n g w t) ≡ updated n h w t
  unfolding updated
  updated-twice f g h t apart either =
      table_ext n (λ i. cond (f i) (w i (get_or (updated n g w t) i 0)) (get_or (updated n g w t) i 0)) (λ i. cond (h i) (w i (get_or t i 0)) (get_or t i 0))
      (λ i l. ap (λ (x : ℕ). cond (f i) (w i x) x) (updated_get g t i l) ∙ once (g i) (f i) (w i) (get_or t i 0) (apart i l) ∙ ap (λ (b : Bool). cond b (w i (get_or t i 0)) (get_or t i 0)) (either i l))

-- a test of the numbers below a bound: none, and all
pub below_zero : (b : Bool) (x : ℕ) → (b && ltb x 0) ≡ false
below_zero b x = ap (λ (c : Bool). b && c) (le-ltb x 0 (omega arith)) ∙ and-false b

pub below_all : (b : Bool) (x n : ℕ) → x < n → (b && ltb x n) ≡ b
below_all b x n l = ap (λ (c : Bool). b && c) (lt-ltb x n l) ∙ and-true b

-- ---- a loop over the words from s on

pub span_in : (s n i : ℕ) → s ≤ i → i < s + n → span s n i ≡ true
unfolding span
span_in s n i a b = and_in (not_in (ltb i s) (le-ltb i s a)) (lt-ltb i (s + n) b)

-- what it says of a number to be in a span
pub span-out : (s n i : ℕ) → span s n i ≡ true → (s ≤ i) × (i < s + n)
unfolding span
span-out s n i h = (ltb-false i s (not-true (ltb i s) (and_l (not (ltb i s)) (ltb i (s + n)) h)), ltb-true i (s + n) (and_r (not (ltb i s)) (ltb i (s + n)) h))

span_same : (s n s' n' i : ℕ) → (s ≤ i → i < s + n → (s' ≤ i) × (i < s' + n')) → (s' ≤ i → i < s' + n' → (s ≤ i) × (i < s + n)) → span s n i ≡ span s' n' i
span_same s n s' n' i f g =
    same (span s n i) (span s' n' i)
    (λ h. let k = span-out s n i h in let m = f k.0 k.1 in span_in s' n' i m.0 m.1)
    (λ h. let k = span-out s' n' i h in let m = g k.0 k.1 in span_in s n i m.0 m.1)

module _ (n : ℕ) (w : ℕ → ℕ → ℕ) (t : List ℕ) (s : ℕ) where
  -- before the first word
  pub span_none : length t ≡ n → t ≡ updated n (span s 0) w t
  span_none e = updated_none n w (span s 0) t e (λ i l. fails (span s 0 i) (λ h. let k = span-out s 0 i h in absurd (omega arith)))

  -- one word more
  pub span-next : (m : ℕ) (out : List ℕ) (v : ℕ) → s + m < n → out ≡ updated n (span s m) w t → v ≡ w (s + m) (get_or out (s + m) 0) → set out (s + m) v ≡ updated n (span s (m + 1)) w t
  span-next m out v l e q =
      ap (λ (x : List ℕ). set x (s + m) v) e
      ∙ updated-next n w (span s m) (span s (m + 1)) t (s + m) v l (fails (span s m (s + m)) (λ h. let k = span-out s m (s + m) h in absurd (omega arith))) (span_in s (m + 1) (s + m) (omega arith) (omega arith))
      (λ j k d. span_same s m s (m + 1) j (λ a b. omega arith) (λ a b. omega arith))
      (q ∙ ap (λ (x : List ℕ). w (s + m) (get_or x (s + m) 0)) e)

  -- the loop's end
  pub span-end : (m k : ℕ) (out : List ℕ) → out ≡ updated n (span s m) w t → m ≡ k → out ≡ updated n (span s k) w t
  span-end m k out e q = e ∙ ap (λ (x : ℕ). updated n (span s x) w t) q

  -- the length stays
  pub span-long : (m : ℕ) (out : List ℕ) → out ≡ updated n (span s m) w t → length out ≡ n
  span-long m out e = ap length e ∙ updated-long n w (span s m) t

-- ---- words joined to what a role is permitted

-- the word of a user and an operation
pub word-permitted : (permissions : List ℕ) (role user o old new : ℕ) → user < 64 → new ≡ mask_of 64 (λ r. bit old r || bit (get_or permissions (permission_at role o) 0) r) → new ≡ permitted_to permissions role (grid_at user o) old
unfolding permitted_to joined_word
word-permitted permissions role user o old new l e = e ∙ sym (grid_parts (λ x y. mask_of 64 (λ r. bit old r || bit (get_or permissions (permission_at role y) 0) r)) user o l)

module _ (n : ℕ) (permissions : List ℕ) (role holding : ℕ) (grid : List ℕ) where
  -- one operation's words so far: for the holders but those that are left
  abbrev passed : ℕ → ℕ → ℕ → Bool
  passed o rest i = eqb (grid_operation i) o && (bit holding (grid_user i) && not (bit rest (grid_user i)))

  unfoldable pub column_so_far : ℕ → ℕ → List ℕ
  column_so_far o rest = updated (grid_cells n) (passed o rest) (permitted_to permissions role) grid

  -- those left are holders
  abbrev pub Left : ℕ → Type 0
  Left rest = (k : ℕ) → Is (bit rest k) → Is (bit holding k)

  pub column-none : (o : ℕ) → length grid ≡ grid_cells n → grid ≡ column_so_far o holding
  unfolding column_so_far
  column-none o e = updated_none (grid_cells n) (permitted_to permissions role) (passed o holding) grid e (λ i l. ap (λ (b : Bool). eqb (grid_operation i) o && b) (excluded (bit holding (grid_user i))) ∙ and-false (eqb (grid_operation i) o))
    where
      excluded : (b : Bool) → (b && not b) ≡ false
      excluded true = refl
      excluded false = refl

  -- one of them
  pub column-next : (o rest y v : ℕ) (out : List ℕ) → o < n → y < 64 → rest < 2 ^ 64 → Left rest → Is (bit rest y) → out ≡ column_so_far o rest
      → v ≡ mask_of 64 (λ r. bit (get_or out (grid_at y o) 0) r || bit (get_or permissions (permission_at role o) 0) r) → set out (grid_at y o) v ≡ column_so_far o (less_one rest y)
  unfolding column_so_far
  column-next o rest y v out lo ly lt left b e q =
      ap (λ (t : List ℕ). set t (grid_at y o) v) e
      ∙ updated-next (grid_cells n) (permitted_to permissions role) (passed o rest) (passed o (less_one rest y)) grid (grid_at y o) v (omega arith)
      (grid_parts (λ u p. eqb p o && (bit holding u && not (bit rest u))) y o ly ∙ ap (λ (c : Bool). eqb o o && (bit holding y && not c)) b ∙ ap (λ (c : Bool). eqb o o && c) (and-false (bit holding y)) ∙ and-false (eqb o o))
      (grid_parts (λ u p. eqb p o && (bit holding u && not (bit (less_one rest y) u))) y o ly ∙ and_in (eq-eqb o o refl) (and_in (left y b) (not_in (bit (less_one rest y) y) (bit-less rest lt y y ∙ ap (λ (c : Bool). bit rest y && not c) (eq-eqb y y refl) ∙ and-false (bit rest y)))))
      other
      (word-permitted permissions role y o _ v ly q ∙ ap (λ (t : List ℕ). permitted_to permissions role (grid_at y o) (get_or t (grid_at y o) 0)) e)
    where
      other : (j : ℕ) → j < grid_cells n → (j ≡ grid_at y o → ⊥) → passed o rest j ≡ passed o (less_one rest y) j
      other j l d = test (eqb (grid_operation j) o)
          (λ t. let k = eqb-true (grid_operation j) o t in
          ap (λ (c : Bool). eqb (grid_operation j) o && (bit holding (grid_user j) && not c))
          (sym (bit-less rest lt y (grid_user j) ∙ ap (λ (c : Bool). bit rest (grid_user j) && not c) (ne_eqb (grid_user j) y (λ z. d (omega (arith, k, z)))) ∙ and-true (bit rest (grid_user j)))))
          (λ t. rw t refl)

  -- those left are fewer
  pub left-fewer : (rest y : ℕ) → rest < 2 ^ 64 → Left rest → Left (less_one rest y)
  left-fewer rest y lt left k b = left k (and_l (bit rest k) (not (eqb k y)) (sym (bit-less rest lt y k) ∙ b))

  -- none is left
  pub column-end : (o rest : ℕ) (out : List ℕ) → out ≡ column_so_far o rest → rest ≡ 0 → out ≡ added_column n o permissions role holding grid
  unfolding column_so_far added_column
  column-end o rest out e z =
      e ∙ updated-same (grid_cells n) (permitted_to permissions role) (passed o rest) (λ i. eqb (grid_operation i) o && bit holding (grid_user i)) grid
      (λ i l. ap (λ (c : Bool). eqb (grid_operation i) o && (bit holding (grid_user i) && not c)) (ap (λ (m : ℕ). bit m (grid_user i)) z ∙ bit-none (grid_user i)) ∙ ap (λ (c : Bool). eqb (grid_operation i) o && c) (and-true (bit holding (grid_user i))))

  pub column_so_long : (o rest : ℕ) (out : List ℕ) → out ≡ column_so_far o rest → length out ≡ grid_cells n
  unfolding column_so_far
  column_so_long o rest out e = ap length e ∙ updated-long (grid_cells n) (permitted_to permissions role) (passed o rest) grid

  -- a part so far: at the operations below m
  abbrev reached : ℕ → ℕ → ℕ → Bool
  reached class m i = (bit class (grid_operation i) && bit holding (grid_user i)) && ltb (grid_operation i) m

  unfoldable pub part_so_far : ℕ → ℕ → List ℕ
  part_so_far class m = updated (grid_cells n) (reached class m) (permitted_to permissions role) grid

  pub part_none : (class : ℕ) → length grid ≡ grid_cells n → grid ≡ part_so_far class 0
  unfolding part_so_far
  part_none class e = updated_none (grid_cells n) (permitted_to permissions role) (reached class 0) grid e (λ i l. below_zero (bit class (grid_operation i) && bit holding (grid_user i)) (grid_operation i))

  -- an operation of the class
  pub part_in : (class m : ℕ) (out after : List ℕ) → out ≡ part_so_far class m → bit class m ≡ true → after ≡ added_column n m permissions role holding out → after ≡ part_so_far class (m + 1)
  unfolding part_so_far added_column
  part_in class m out after e h q =
      q ∙ ap (updated (grid_cells n) (λ i. eqb (grid_operation i) m && bit holding (grid_user i)) (permitted_to permissions role)) e
      ∙ updated-twice (grid_cells n) (permitted_to permissions role) (λ i. eqb (grid_operation i) m && bit holding (grid_user i)) (reached class m) (reached class (m + 1)) grid apart either
    where
      apart : (i : ℕ) → i < grid_cells n → reached class m i ≡ true → (eqb (grid_operation i) m && bit holding (grid_user i)) ≡ false
      apart i l t =
          let k = ltb-true (grid_operation i) m (and_r (bit class (grid_operation i) && bit holding (grid_user i)) (ltb (grid_operation i) m) t) in
          ap (λ (c : Bool). c && bit holding (grid_user i)) (ne_eqb (grid_operation i) m (λ z. omega (arith, k, z)))

      here : (b c : Bool) → b ≡ true → (((b && c) && false) || (true && c)) ≡ ((b && c) && true)
      here b c p = rw p (at c)
        where
          at : (c : Bool) → (((true && c) && false) || (true && c)) ≡ ((true && c) && true)
          at true = refl
          at false = refl

      either : (i : ℕ) → i < grid_cells n → (reached class m i || (eqb (grid_operation i) m && bit holding (grid_user i))) ≡ reached class (m + 1) i
      either i l =
          test (eqb (grid_operation i) m)
          (λ t. let k = eqb-true (grid_operation i) m t in
          rw (t, le-ltb (grid_operation i) m (omega arith), lt-ltb (grid_operation i) (m + 1) (omega arith)) (here (bit class (grid_operation i)) (bit holding (grid_user i)) (ap (bit class) k ∙ h)))
          (λ t. rw t (or-false ((bit class (grid_operation i) && bit holding (grid_user i)) && ltb (grid_operation i) m) ∙ ap (λ (c : Bool). (bit class (grid_operation i) && bit holding (grid_user i)) && c) (below_next (grid_operation i) m (eqb-false (grid_operation i) m t))))

  -- an operation outside it
  pub part_out : (class m : ℕ) (out after : List ℕ) → out ≡ part_so_far class m → bit class m ≡ false → after ≡ out → after ≡ part_so_far class (m + 1)
  unfolding part_so_far
  part_out class m out after e h q = q ∙ e ∙ updated-same (grid_cells n) (permitted_to permissions role) (reached class m) (reached class (m + 1)) grid at
    where
      at : (j : ℕ) → j < grid_cells n → reached class m j ≡ reached class (m + 1) j
      at j l =
          test (eqb (grid_operation j) m)
          (λ t. let none : (bit class (grid_operation j) && bit holding (grid_user j)) ≡ false = ap (λ (c : Bool). c && bit holding (grid_user j)) (ap (bit class) (eqb-true (grid_operation j) m t) ∙ h) in rw none refl)
          (λ t. ap (λ (c : Bool). (bit class (grid_operation j) && bit holding (grid_user j)) && c) (below_next (grid_operation j) m (eqb-false (grid_operation j) m t)))

  pub part_end : (class m : ℕ) (out : List ℕ) → out ≡ part_so_far class m → m ≡ n → out ≡ added_part n holding permissions role class grid
  unfolding part_so_far added_part
  part_end class m out e q =
      e ∙ updated-same (grid_cells n) (permitted_to permissions role) (reached class m) (λ i. bit class (grid_operation i) && bit holding (grid_user i)) grid
      (λ i l. below_all (bit class (grid_operation i) && bit holding (grid_user i)) (grid_operation i) m (omega (arith, l, q)))

  pub part_so_long : (class m : ℕ) (out : List ℕ) → out ≡ part_so_far class m → length out ≡ grid_cells n
  unfolding part_so_far
  part_so_long class m out e = ap length e ∙ updated-long (grid_cells n) (permitted_to permissions role) (reached class m) grid

-- ---- the grid of what the roles grant, role by role

module _ (n : ℕ) (holders permissions : List ℕ) where
  -- no role grants anything
  pub roles-none : (out : List ℕ) → out ≡ grid_of n (λ u r o. false) → out ≡ grid_of n (granted_by holders permissions 0)
  unfolding grid_of granted_by
  roles-none out e = e

  -- what the roles below k grant
  abbrev below : ℕ → ℕ → ℕ → Bool
  below k i r = any (λ j. bit (get_or holders j 0) (grid_user i) && bit (get_or permissions (permission_at j (grid_operation i)) 0) r) (up_to k)

  -- one role more, at all operations
  pub roles-next : (k class : ℕ) (out after : List ℕ) → n ≤ 64 → out ≡ grid_of n (granted_by holders permissions k) → class ≡ mask_of 64 (λ o. ltb o n) → after ≡ added_part n (get_or holders k 0) permissions k class out → after ≡ grid_of n (granted_by holders permissions (k + 1))
  unfolding grid_of granted_by added_part updated permitted_to joined_word
  roles-next k class out after h e c q =
      q ∙ table_ext (grid_cells n) (λ i. cond (bit class (grid_operation i) && bit (get_or holders k 0) (grid_user i)) (mask_of 64 (λ r. bit (get_or out i 0) r || bit (get_or permissions (permission_at k (grid_operation i)) 0) r)) (get_or out i 0))
      (λ i. mask_of 64 (below (k + 1) i))
      (λ i l. ap (λ (b : Bool). cond (b && bit (get_or holders k 0) (grid_user i)) (mask_of 64 (λ r. bit (get_or out i 0) r || bit (get_or permissions (permission_at k (grid_operation i)) 0) r)) (get_or out i 0)) (in_class (grid_operation i) (omega arith))
      ∙ one-role (bit (get_or holders k 0) (grid_user i)) (get_or out i 0) (get_or permissions (permission_at k (grid_operation i)) 0) (below k i)
      (ap (λ (x : List ℕ). get_or x i 0) e ∙ table_get (grid_cells n) (λ i. mask_of 64 (below k i)) i l)
      ∙ mask_same 64 (λ r. below k i r || (bit (get_or holders k 0) (grid_user i) && bit (get_or permissions (permission_at k (grid_operation i)) 0) r)) (below (k + 1) i)
      (λ r lr. sym (any-more (λ j. bit (get_or holders j 0) (grid_user i) && bit (get_or permissions (permission_at j (grid_operation i)) 0) r) k)))
    where
      in_class : (o : ℕ) → o < n → bit class o ≡ true
      in_class o l = ap (λ (m : ℕ). bit m o) c ∙ bit_mask 64 (λ o. ltb o n) o (omega arith) ∙ lt-ltb o n l

      one-role : (b : Bool) (x y : ℕ) (f : ℕ → Bool) → x ≡ mask_of 64 f → cond b (mask_of 64 (λ r. bit x r || bit y r)) x ≡ mask_of 64 (λ r. f r || (b && bit y r))
      one-role true x y f h = mask_same 64 (λ r. bit x r || bit y r) (λ r. f r || bit y r) (λ r l. ap (λ (b : Bool). b || bit y r) (ap (λ (m : ℕ). bit m r) h ∙ bit_mask 64 f r l))
      one-role false x y f h = h ∙ mask_same 64 f (λ r. f r || false) (λ r l. sym (or-false (f r)))

  -- all roles are passed
  pub roles-end : (k m : ℕ) (out : List ℕ) → out ≡ grid_of n (granted_by holders permissions k) → k ≡ m → out ≡ grid_of n (granted_by holders permissions m)
  roles-end k m out e q = e ∙ ap (λ (x : ℕ). grid_of n (granted_by holders permissions x)) q
