-- The laws of the words of a summary: the steps of the code come to them, and a table is filled user by user.
-- Assumes nothing.
use Rattle.std.specs.Prelude.{ℕ, ◌+◌, ◌^◌, ◌≤◌, ◌<◌, get_or, Bool, ◌&&◌, ◌||◌, List, ◌≡◌}
use borrow.Author.Tests.{eqb-true, eqb-false, eq-eqb, ne_eqb, ltb-true, lt-ltb, le-ltb}
use Rattle.std.proofs.Math.Dec.{eqb, ltb}
use Rattle.std.proofs.Math.ListN.{length}
use Rattle.std.proofs.Math.Bool.{true, false, cond, or-false, or-true}
use Rattle.std.proofs.Math.Path.{refl, sym, ap}
use Rattle.std.proofs.Common.{◌∙◌, subst}
use native.Mathlib.Omega.{arith}
use Rattle.grant_grids.specs.Grid.{granted_by}
use Rattle.grant_grids.specs.Updates.{updated, span}
use Rattle.grant_grids.proofs.UpdateLaws.{updated-long, updated_none, updated-same, updated-twice, span_in, span-out}
use Rattle.grant_values.specs.PlaceValues.{held_roles}
use Rattle.right_words.specs.Rights.{rights_word, rights_table, refreshed, held_within, permitted_by, word_by}
use Rattle.role_record.specs.Cells.{permission_at, row_cells, row_start, cell_at, cell_row, cell_operation, user_cells}
use Rattle.role_record.specs.CellsLaws.{cell_parts}
use Rattle.role_record.specs.Record.{WithinLimits}
use Rattle.role_record.specs.RecordLaws.{table_ext, table-length}
use Rattle.role_record.specs.declared.Sizes.{Sizes}
use Rattle.sets.specs.MaskLaws.{bit-mask_of, mask_lt, mask_wide, mask_none, mask_same, cut_law}
use Rattle.sets.specs.Sets.{bit, mask_of}
use Rattle.sets.specs.SetLaws.{bit_mask, bit-none}
use Rattle.sets.specs.Tests.{Is, any, up_to}
use Rattle.sets.specs.TestLaws.{and_in, and_l, and_r, never, test, fails, same, any_in, any_out, up_to_in, up_to-out, below_next}

-- a mask of fewer is a mask of more
mask_below : (n w : ℕ) (f : ℕ → Bool) → n ≤ w → mask_of n f < 2 ^ w
mask_below n w f h = subst (λ (x : ℕ). x < 2 ^ w) (sym (mask_wide n w f h)) (mask_lt w (λ i. ltb i n && f i))

module _ (n : Sizes) (W : WithinLimits n) (holders permissions : List ℕ) where
  -- the roles of a user are below 32
  pub held_low : (u : ℕ) → held_within n holders u < 2 ^ 32
  unfolding held_within held_roles
  held_low u = go (ltb u n.users)
    where
      go : (b : Bool) → cond b (mask_of n.roles (λ k. bit (get_or holders k 0) u)) 0 < 2 ^ 32
      go true = mask_below n.roles 32 (λ k. bit (get_or holders k 0) u) W.3
      go false = omega arith

  -- a role is one that the user holds
  held-bit : (u k : ℕ) → ltb u n.users ≡ true → bit (held_within n holders u) k ≡ (ltb k n.roles && bit (get_or holders k 0) u)
  unfolding held_within held_roles
  held-bit u k h = ap (λ (b : Bool). bit (cond b (mask_of n.roles (λ k. bit (get_or holders k 0) u)) 0) k) h ∙ bit-mask_of n.roles (λ k. bit (get_or holders k 0) u) k

  -- what the roles that a user holds are permitted is what is granted
  permitted-granted : (u r o : ℕ) → ltb u n.users ≡ true → r < 64 → bit (permitted_by (held_within n holders u) permissions o) r ≡ granted_by holders permissions n.roles u r o
  unfolding permitted_by granted_by
  permitted-granted u r o h l =
      bit_mask 64 (λ r. any (λ k. bit (held_within n holders u) k && bit (get_or permissions (permission_at k o) 0) r) (up_to 64)) r l
      ∙ same (any (λ k. bit (held_within n holders u) k && bit (get_or permissions (permission_at k o) 0) r) (up_to 64)) (any (λ k. bit (get_or holders k 0) u && bit (get_or permissions (permission_at k o) 0) r) (up_to n.roles)) there back
    where
      there : Is (any (λ k. bit (held_within n holders u) k && bit (get_or permissions (permission_at k o) 0) r) (up_to 64)) → Is (any (λ k. bit (get_or holders k 0) u && bit (get_or permissions (permission_at k o) 0) r) (up_to n.roles))
      there p =
          let t = any_out (λ k. bit (held_within n holders u) k && bit (get_or permissions (permission_at k o) 0) r) (up_to 64) p in
          let k = t.0 in
          let held = sym (held-bit u k h) ∙ and_l (bit (held_within n holders u) k) (bit (get_or permissions (permission_at k o) 0) r) t.2 in
          any_in (λ k. bit (get_or holders k 0) u && bit (get_or permissions (permission_at k o) 0) r) (up_to_in (ltb-true k n.roles (and_l (ltb k n.roles) (bit (get_or holders k 0) u) held)))
          (and_in (and_r (ltb k n.roles) (bit (get_or holders k 0) u) held) (and_r (bit (held_within n holders u) k) (bit (get_or permissions (permission_at k o) 0) r) t.2))

      back : Is (any (λ k. bit (get_or holders k 0) u && bit (get_or permissions (permission_at k o) 0) r) (up_to n.roles)) → Is (any (λ k. bit (held_within n holders u) k && bit (get_or permissions (permission_at k o) 0) r) (up_to 64))
      back p =
          let t = any_out (λ k. bit (get_or holders k 0) u && bit (get_or permissions (permission_at k o) 0) r) (up_to n.roles) p in
          let k = t.0 in
          let low = up_to-out n.roles t.1 in
          let few = W.3 in
          any_in (λ k. bit (held_within n holders u) k && bit (get_or permissions (permission_at k o) 0) r) (up_to_in {n = 64} {i = k} (omega (arith, low, few)))
          (and_in (held-bit u k h ∙ and_in (lt-ltb k n.roles low) (and_l (bit (get_or holders k 0) u) (bit (get_or permissions (permission_at k o) 0) r) t.2)) (and_r (bit (get_or holders k 0) u) (bit (get_or permissions (permission_at k o) 0) r) t.2))

  -- no role, nothing permitted
  none-permitted : (r o : ℕ) → r < 64 → bit (permitted_by 0 permissions o) r ≡ false
  unfolding permitted_by
  none-permitted r o l =
      bit_mask 64 (λ r. any (λ k. bit 0 k && bit (get_or permissions (permission_at k o) 0) r) (up_to 64)) r l
      ∙ fails (any (λ k. bit 0 k && bit (get_or permissions (permission_at k o) 0) r) (up_to 64))
      (λ p. let t = any_out (λ k. bit 0 k && bit (get_or permissions (permission_at k o) 0) r) (up_to 64) p in never (and_l (bit 0 t.0) (bit (get_or permissions (permission_at t.0 o) 0) r) t.2) (bit-none t.0))

  none-held : (u : ℕ) → ltb u n.users ≡ false → held_within n holders u ≡ 0
  unfolding held_within
  none-held u h = ap (λ (b : Bool). cond b (held_roles holders n.roles u) 0) h

  -- the steps of the code come to the word
  pub word_means : (u o : ℕ) → word_by n (held_within n holders u) permissions o ≡ rights_word n holders permissions u o
  unfolding word_by rights_word
  word_means u o = test (ltb u n.users)
      (λ h. ap (λ (m : ℕ). cond (ltb o n.operations) m 0) (mask_same n.resources (bit (permitted_by (held_within n holders u) permissions o)) (λ r. granted_by holders permissions n.roles u r o) (λ r l. let few = W.1 in permitted-granted u r o h (omega (arith, l, few))))
      ∙ sym (ap (λ (b : Bool). cond (b && ltb o n.operations) (mask_of n.resources (λ r. granted_by holders permissions n.roles u r o)) 0) h))
      (λ h. nobody h ∙ sym (ap (λ (b : Bool). cond (b && ltb o n.operations) (mask_of n.resources (λ r. granted_by holders permissions n.roles u r o)) 0) h))
    where
      zeros : (b : Bool) (m : ℕ) → m ≡ 0 → cond b m 0 ≡ 0
      zeros true m e = e
      zeros false m e = refl

      nobody : ltb u n.users ≡ false → cond (ltb o n.operations) (mask_of n.resources (bit (permitted_by (held_within n holders u) permissions o))) 0 ≡ 0
      nobody h =
          zeros (ltb o n.operations) (mask_of n.resources (bit (permitted_by (held_within n holders u) permissions o)))
          (ap (λ (m : ℕ). mask_of n.resources (bit (permitted_by m permissions o))) (none-held u h) ∙ mask_none n.resources (bit (permitted_by 0 permissions o)) (λ r l. let few = W.1 in none-permitted r o (omega (arith, l, few))))

-- what `word` has worked out: an operation within the sizes, and one beyond them
module _ (n : Sizes) (held o : ℕ) (permissions : List ℕ) where
  pub word_in : (m b v : ℕ) → n.resources ≤ 64 → o < n.operations → m ≡ permitted_by held permissions o → b ≡ mask_of 64 (λ k. ltb k n.resources) → v ≡ mask_of 64 (λ k. bit m k && bit b k) → v ≡ word_by n held permissions o
  unfolding word_by
  word_in m b v few l e p q =
      cut_law n.resources m b v few p q ∙ ap (λ (x : ℕ). mask_of n.resources (bit x)) e
      ∙ sym (ap (λ (c : Bool). cond c (mask_of n.resources (bit (permitted_by held permissions o))) 0) (lt-ltb o n.operations l))

  pub word_out : n.operations ≤ o → 0 ≡ word_by n held permissions o
  unfolding word_by
  word_out l = sym (ap (λ (c : Bool). cond c (mask_of n.resources (bit (permitted_by held permissions o))) 0) (le-ltb o n.operations l))

-- and `held_within`
module _ (n : Sizes) (holders : List ℕ) (u : ℕ) where
  pub held_in : (v : ℕ) → u < n.users → v ≡ held_roles holders n.roles u → v ≡ held_within n holders u
  unfolding held_within
  held_in v l e = e ∙ sym (ap (λ (c : Bool). cond c (held_roles holders n.roles u) 0) (lt-ltb u n.users l))

  pub held_out : n.users ≤ u → 0 ≡ held_within n holders u
  unfolding held_within
  held_out l = sym (ap (λ (c : Bool). cond c (held_roles holders n.roles u) 0) (le-ltb u n.users l))

-- ---- tables

module _ (n : Sizes) (holders permissions : List ℕ) where
  -- what a word becomes, whatever it held
  abbrev pub afresh : ℕ → ℕ → ℕ
  afresh i old = rights_word n holders permissions (cell_row i) (cell_operation i)

  pub refreshed-long : (u : ℕ) (t : List ℕ) → length (refreshed n holders permissions u t) ≡ user_cells
  unfolding refreshed
  refreshed-long u t = table-length user_cells (λ i. cond (eqb (cell_row i) u) (rights_word n holders permissions (cell_row i) (cell_operation i)) (get_or t i 0))

  -- the word stored for an operation
  pub word-afresh : (u o v : ℕ) → WithinLimits n → o < row_cells → v ≡ word_by n (held_within n holders u) permissions o → v ≡ afresh (cell_at u o) 0
  word-afresh u o v W l e = e ∙ word_means n W holders permissions u o ∙ sym (cell_parts (λ x y. rights_word n holders permissions x y) u o l)

  -- the words of a user
  row-cells : (u i : ℕ) → span (row_start u) row_cells i ≡ eqb (cell_row i) u
  row-cells u i =
      same (span (row_start u) row_cells i) (eqb (cell_row i) u)
      (λ h. let k = span-out (row_start u) row_cells i h in eq-eqb (cell_row i) u (omega (arith, k.0, k.1)))
      (λ h. let d = eqb-true (cell_row i) u h in span_in (row_start u) row_cells i (omega arith) (omega arith))

  pub row_done : (u o : ℕ) (t out : List ℕ) → out ≡ updated user_cells (span (row_start u) o) afresh t → o ≡ row_cells → out ≡ refreshed n holders permissions u t
  unfolding refreshed updated
  row_done u o t out e q =
      e ∙ ap (λ (x : ℕ). updated user_cells (span (row_start u) x) afresh t) q ∙ updated-same user_cells afresh (span (row_start u) row_cells) (λ i. eqb (cell_row i) u) t (λ i l. row-cells u i)

  -- the table with the words of the users below u filled
  unfoldable pub filled_so_far : ℕ → List ℕ → List ℕ
  filled_so_far u t = updated user_cells (λ i. ltb (cell_row i) u) afresh t

  pub filled-long : (u : ℕ) (t out : List ℕ) → out ≡ filled_so_far u t → length out ≡ user_cells
  unfolding filled_so_far
  filled-long u t out e = ap length e ∙ updated-long user_cells afresh (λ i. ltb (cell_row i) u) t

  pub filled_none : (t : List ℕ) → length t ≡ user_cells → t ≡ filled_so_far 0 t
  unfolding filled_so_far
  filled_none t e = updated_none user_cells afresh (λ i. ltb (cell_row i) 0) t e (λ i l. le-ltb (cell_row i) 0 (omega arith))

  -- one user more
  pub filled_next : (u : ℕ) (t out after : List ℕ) → out ≡ filled_so_far u t → after ≡ refreshed n holders permissions u out → after ≡ filled_so_far (u + 1) t
  unfolding filled_so_far refreshed updated
  filled_next u t out after e q =
      q ∙ ap (refreshed n holders permissions u) e
      ∙ updated-twice user_cells afresh (λ i. eqb (cell_row i) u) (λ i. ltb (cell_row i) u) (λ i. ltb (cell_row i) (u + 1)) t
      (λ i l h. let k = ltb-true (cell_row i) u h in ne_eqb (cell_row i) u (λ d. absurd (omega (arith, k, d))))
      (λ i l. one_more_lem (cell_row i) u)
    where
      one_more_lem : (x u : ℕ) → (ltb x u || eqb x u) ≡ ltb x (u + 1)
      one_more_lem x u = test (eqb x u)
          (λ h. let d = eqb-true x u h in ap (λ (b : Bool). ltb x u || b) h ∙ or-true (ltb x u) ∙ sym (lt-ltb x (u + 1) (omega arith)))
          (λ h. ap (λ (b : Bool). ltb x u || b) h ∙ or-false (ltb x u) ∙ below_next x u (eqb-false x u h))

  pub filled-end : (u : ℕ) (t out : List ℕ) → out ≡ filled_so_far u t → u ≡ 64 → out ≡ rights_table n holders permissions
  unfolding filled_so_far updated rights_table
  filled-end u t out e q =
      e ∙ table_ext user_cells (λ i. cond (ltb (cell_row i) u) (rights_word n holders permissions (cell_row i) (cell_operation i)) (get_or t i 0)) (λ i. rights_word n holders permissions (cell_row i) (cell_operation i))
      (λ i l. ap (λ (b : Bool). cond b (rights_word n holders permissions (cell_row i) (cell_operation i)) (get_or t i 0)) (lt-ltb (cell_row i) u (omega arith)))
