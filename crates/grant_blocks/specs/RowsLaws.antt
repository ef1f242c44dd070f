-- Rows joined to a grid and compared with one: how loops do it, and what it means.
-- Assumes nothing.
use Prim.Native.Nat.{ℕ, ◌+◌, ◌^◌, ◌≤◌, ◌<◌}
use borrow.Author.Tests.{eqb-true, eqb-false, eq-eqb, ltb-true, lt-ltb, le-ltb, ne_eqb}
use Rattle.std.proofs.Math.Dec.{eqb, ltb}
use Rattle.std.proofs.Math.ListN.{length}
use Rattle.std.specs.Prelude.{get_or, set, replicate, ◌&&◌, ◌||◌, List, ◌≡◌}
use Rattle.std.proofs.Math.Bool.{Bool, true, false, cond, and-false, and-true, or-false}
use Rattle.std.proofs.Math.Path.{refl, ap}
use Rattle.std.proofs.Common.{sym, ap₂, ◌∙◌}
use native.Mathlib.Omega.{arith}
use Rattle.files.proofs.CallLaws.{triple-of}
use Rattle.files.specs.Calls.{is_triple}
use Rattle.grant_grids.specs.Grid.{grid_of, in_grid}
use Rattle.grant_grids.proofs.GridLaws.{in-grid}
use Rattle.grant_grids.proofs.UpdateLaws.{updated-long, updated_none, updated-same, updated-next, updated-twice, below_zero, below_all, span_in, span-out}
use Rattle.grant_grids.specs.Updates.{updated, span, joined_word}
use Rattle.policy.proofs.RuleLaws.{same_in, same_out}
use Rattle.policy.specs.Rules.{Setting, Block, Triple, same_block, user, resource}
use Rattle.role_record.specs.Cells.{grid_at, grid_user, grid_operation, grid_cells}
use Rattle.role_record.specs.CellsLaws.{grid_parts}
use Rattle.role_record.specs.RecordLaws.{table_get, table_ext}
use Rattle.sets.specs.MaskLaws.{mask_same, mask_bits}
use Rattle.sets.specs.Sets.{bit, mask_of}
use Rattle.sets.specs.SetLaws.{bit_mask, bit-none}
use Rattle.sets.specs.Tests.{Is, all, up_to}
use Rattle.sets.specs.TestLaws.{and_in, and_l, and_r, test, same, all_in, all-out, up_to_in, up_to-out, below_next}
use Rattle.grant_blocks.specs.Rows.{cell_of, with_row, added_row, added_rows, rows_at, same_at, same_rows}

-- ---- joining, operation by operation

-- the word of a user and an operation
pub word_with_row : (rows : List ℕ) (u o old new : ℕ) → u < 64 → new ≡ mask_of 64 (λ r. bit old r || bit (get_or rows u 0) r) → new ≡ with_row rows (grid_at u o) old
unfolding with_row joined_word
word_with_row rows u o old new l e = e ∙ sym (grid_parts (λ x y. mask_of 64 (λ r. bit old r || bit (get_or rows x 0) r)) u o l)

-- the words of one operation stand behind each other
pub one-operation : (n o m : ℕ) (rows grid out : List ℕ) → out ≡ updated (grid_cells n) (span (grid_cells o) m) (with_row rows) grid → m ≡ 64 → out ≡ added_row n rows o grid
unfolding added_row
one-operation n o m rows grid out e q =
    e ∙ updated-same (grid_cells n) (with_row rows) (span (grid_cells o) m) (λ i. eqb (grid_operation i) o) grid
    (λ i l. same (span (grid_cells o) m i) (eqb (grid_operation i) o)
    (λ h. let k = span-out (grid_cells o) m i h in eq-eqb (grid_operation i) o (omega (arith, k.0, k.1, q)))
    (λ h. let d = eqb-true (grid_operation i) o h in span_in (grid_cells o) m i (omega (arith, d)) (omega (arith, d, q))))

module _ (n : ℕ) (rows : List ℕ) (acts : ℕ) (grid : List ℕ) where
  abbrev reached : ℕ → ℕ → Bool
  reached m i = bit acts (grid_operation i) && ltb (grid_operation i) m

  -- at the operations below m
  unfoldable pub rows_so_far : ℕ → List ℕ
  rows_so_far m = updated (grid_cells n) (reached m) (with_row rows) grid

  pub rows_none : length grid ≡ grid_cells n → grid ≡ rows_so_far 0
  unfolding rows_so_far
  rows_none e = updated_none (grid_cells n) (with_row rows) (reached 0) grid e (λ i l. below_zero (bit acts (grid_operation i)) (grid_operation i))

  -- one of the operations
  pub rows_in : (m : ℕ) (out after : List ℕ) → out ≡ rows_so_far m → bit acts m ≡ true → after ≡ added_row n rows m out → after ≡ rows_so_far (m + 1)
  unfolding rows_so_far added_row
  rows_in m out after e h q =
      q ∙ ap (updated (grid_cells n) (λ i. eqb (grid_operation i) m) (with_row rows)) e
      ∙ updated-twice (grid_cells n) (with_row rows) (λ i. eqb (grid_operation i) m) (reached m) (reached (m + 1)) grid
      (λ i l t. let k = ltb-true (grid_operation i) m (and_r (bit acts (grid_operation i)) (ltb (grid_operation i) m) t) in ne_eqb (grid_operation i) m (λ z. omega (arith, k, z)))
      (λ i l. test (eqb (grid_operation i) m)
      (λ t. let k = eqb-true (grid_operation i) m t in
      rw (t, le-ltb (grid_operation i) m (omega arith), lt-ltb (grid_operation i) (m + 1) (omega arith)) (here (bit acts (grid_operation i)) (ap (bit acts) k ∙ h)))
      (λ t. rw t (or-false (bit acts (grid_operation i) && ltb (grid_operation i) m) ∙ ap (λ (c : Bool). bit acts (grid_operation i) && c) (below_next (grid_operation i) m (eqb-false (grid_operation i) m t)))))
    where
      here : (b : Bool) → b ≡ true → ((b && false) || true) ≡ (b && true)
      here b p = rw p refl

  -- another
  pub rows_out : (m : ℕ) (out after : List ℕ) → out ≡ rows_so_far m → bit acts m ≡ false → after ≡ out → after ≡ rows_so_far (m + 1)
  unfolding rows_so_far
  rows_out m out after e h q =
      q ∙ e ∙ updated-same (grid_cells n) (with_row rows) (reached m) (reached (m + 1)) grid
      (λ i l. test (eqb (grid_operation i) m)
      (λ t. let none : bit acts (grid_operation i) ≡ false = ap (bit acts) (eqb-true (grid_operation i) m t) ∙ h in rw none refl)
      (λ t. ap (λ (c : Bool). bit acts (grid_operation i) && c) (below_next (grid_operation i) m (eqb-false (grid_operation i) m t))))

  pub rows_end : (m : ℕ) (out : List ℕ) → out ≡ rows_so_far m → m ≡ n → out ≡ added_rows n rows acts grid
  unfolding rows_so_far added_rows
  rows_end m out e q = e ∙ updated-same (grid_cells n) (with_row rows) (reached m) (λ i. bit acts (grid_operation i)) grid (λ i l. below_all (bit acts (grid_operation i)) (grid_operation i) m (omega (arith, l, q)))

  pub rows_so_long : (m : ℕ) (out : List ℕ) → out ≡ rows_so_far m → length out ≡ grid_cells n
  unfolding rows_so_far
  rows_so_long m out e = ap length e ∙ updated-long (grid_cells n) (with_row rows) (reached m) grid

-- ---- comparing, operation by operation

-- an operation of the rule, and another
pub compared_in : (rows : List ℕ) (acts o : ℕ) (grid : List ℕ) {s : Bool} → bit acts o ≡ true → s ≡ rows_at rows o grid → s ≡ same_at rows acts grid o
unfolding rows_at same_at cell_of
compared_in rows acts o grid h e = e ∙ sym (rw h refl)

pub compared-out : (rows : List ℕ) (acts o : ℕ) (grid : List ℕ) {s : Bool} → bit acts o ≡ false → s ≡ rows_at (replicate 64 0) o grid → s ≡ same_at rows acts grid o
unfolding rows_at same_at cell_of
compared-out rows acts o grid h e = e ∙ sym (rw h refl)

-- ---- THE LAWS: what rows and operations grant

-- joined to a grid, they are granted too
pub rows_added : (n : ℕ) (rows : List ℕ) (acts : ℕ) (G H : Block) → ((u r o : ℕ) → u < 64 → r < 64 → o < n → bit (cell_of rows acts u o) r ≡ G u r o)
    → added_rows n rows acts (grid_of n H) ≡ grid_of n (λ u r o. H u r o || G u r o)
unfolding added_rows updated with_row joined_word grid_of cell_of
rows_added n rows acts G H means =
    table_ext (grid_cells n) (λ i. cond (bit acts (grid_operation i)) (mask_of 64 (λ r. bit (get_or (grid_of n H) i 0) r || bit (get_or rows (grid_user i) 0) r)) (get_or (grid_of n H) i 0)) (λ i. mask_of 64 (λ r. H (grid_user i) r (grid_operation i) || G (grid_user i) r (grid_operation i)))
    (λ i l. one (bit acts (grid_operation i)) (get_or (grid_of n H) i 0) (get_or rows (grid_user i) 0) (λ r. H (grid_user i) r (grid_operation i)) (λ r. G (grid_user i) r (grid_operation i))
    (table_get (grid_cells n) (λ i. mask_of 64 (λ r. H (grid_user i) r (grid_operation i))) i l)
    (λ r k. means (grid_user i) r (grid_operation i) (omega arith) k (omega arith)))
  where
    one : (b : Bool) (old row : ℕ) (f g : ℕ → Bool) → old ≡ mask_of 64 f → ((r : ℕ) → r < 64 → bit (cond b row 0) r ≡ g r) → cond b (mask_of 64 (λ r. bit old r || bit row r)) old ≡ mask_of 64 (λ r. f r || g r)
    one true old row f g e h = mask_same 64 (λ r. bit old r || bit row r) (λ r. f r || g r) (λ r l. ap₂ ◌||◌ (ap (λ (m : ℕ). bit m r) e ∙ bit_mask 64 f r l) (h r l))
    one false old row f g e h = e ∙ mask_same 64 f (λ r. f r || g r) (λ r l. sym (ap (λ (b : Bool). f r || b) (sym (h r l) ∙ bit-none r) ∙ or-false (f r)))

-- a triple has numbers within the sizes
pub triple-is : (P : Setting) (u r o : ℕ) → Triple P u r o → Is (is_triple P u r o)
unfolding is_triple
triple-is P u r o t = and_in (lt-ltb u (P.side user).count t.user) (and_in (lt-ltb r (P.side resource).count t.resource) (lt-ltb o P.slots t.op))

-- a grid has just the same where it stands for the same triples
module _ (P : Setting) (n : ℕ) (rows : List ℕ) (acts : ℕ) (G H : Block)
    (few-users : (P.side user).count ≤ 64) (few-resources : (P.side resource).count ≤ 64) (slots : P.slots ≡ n)
    (low : (u : ℕ) → u < 64 → get_or rows u 0 < 2 ^ 64)
    (means : (u r o : ℕ) → u < 64 → r < 64 → o < n → bit (cell_of rows acts u o) r ≡ (is_triple P u r o && G u r o))
    (within : (u r o : ℕ) → Is (H u r o) → Triple P u r o) where
  cell_low : (u o : ℕ) → u < 64 → cell_of rows acts u o < 2 ^ 64
  unfolding cell_of
  cell_low u o l = go (bit acts o)
    where
      go : (b : Bool) → cond b (get_or rows u 0) 0 < 2 ^ 64
      go true = low u l
      go false = omega arith

  -- the word of a grid
  word_at : (u o : ℕ) → u < 64 → o < n → get_or (grid_of n H) (grid_at u o) 0 ≡ mask_of 64 (λ r. H u r o)
  unfolding grid_of
  word_at u o lu lo = table_get (grid_cells n) (λ i. mask_of 64 (λ r. H (grid_user i) r (grid_operation i))) (grid_at u o) (omega arith) ∙ grid_parts (λ x y. mask_of 64 (λ r. H x r y)) u o lu

  pub rows_same : (grid : List ℕ) → grid ≡ grid_of n H → same_rows n rows acts grid ≡ same_block P G H
  unfolding same_rows same_at in_grid
  rows_same grid e = ap (same_rows n rows acts) e ∙ same (same_rows n rows acts (grid_of n H)) (same_block P G H) there back
    where
      cells : ℕ → ℕ → Bool
      cells o u = eqb (cell_of rows acts u o) (get_or (grid_of n H) (grid_at u o) 0)

      there : Is (same_rows n rows acts (grid_of n H)) → Is (same_block P G H)
      there h = same_in P G H λ u r o t.
          let lu = t.user in
          let lr = t.resource in
          let lo = t.op in
          let u64 : u < 64 = omega (arith, lu, few-users) in
          let r64 : r < 64 = omega (arith, lr, few-resources) in
          let on : o < n = omega (arith, lo, slots) in
          let w = eqb-true (cell_of rows acts u o) (get_or (grid_of n H) (grid_at u o) 0) (all-out (cells o) (all-out (λ o. all (cells o) (up_to 64)) h (up_to_in {n = n} {i = o} on)) (up_to_in {n = 64} {i = u} u64)) in
          sym (ap (λ (b : Bool). b && G u r o) (triple-is P u r o t)) ∙ sym (means u r o u64 r64 on) ∙ ap (λ (m : ℕ). bit m r) w ∙ in-grid n H u r o u64 r64 on

      agree : Is (same_block P G H) → (u r o : ℕ) → (is_triple P u r o && G u r o) ≡ H u r o
      agree h u r o = same (is_triple P u r o && G u r o) (H u r o)
          (λ g. sym (same_out P G H h u r o (triple-of P u r o (and_l (is_triple P u r o) (G u r o) g))) ∙ and_r (is_triple P u r o) (G u r o) g)
          (λ g. let t = within u r o g in and_in (triple-is P u r o t) (same_out P G H h u r o t ∙ g))

      back : Is (same_block P G H) → Is (same_rows n rows acts (grid_of n H))
      back h = all_in (λ o. all (cells o) (up_to 64)) (up_to n) λ o mo. all_in (cells o) (up_to 64) λ u mu.
          let lo = up_to-out n mo in
          let lu = up_to-out 64 mu in
          eq-eqb (cell_of rows acts u o) (get_or (grid_of n H) (grid_at u o) 0)
          (mask_bits 64 (cell_of rows acts u o) (cell_low u o lu)
          ∙ mask_same 64 (bit (cell_of rows acts u o)) (λ r. H u r o) (λ r lr. means u r o lu lr lo ∙ agree h u r o)
          ∙ sym (word_at u o lu lo))
