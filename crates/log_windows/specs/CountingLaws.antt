-- The loop over a log's records: which of them were seen, what they come to so far, and what all come to.
-- Assumes nothing.
use Rattle.std.specs.Prelude.{ℕ, ◌+◌, ◌*◌, ◌-◌, ◌≤◌, ◌<◌, min, get_or, Bool, true, false, cond, List, ◌≡◌, Result, Ok, Err}
use Rattle.std.proofs.Common.{le-leb, sym, ap, ◌∙◌, subst}
use Rattle.std.proofs.lemmas.Bool.{lt-leb}
use Rattle.std.proofs.Math.Path.{refl}
use native.Mathlib.Omega.{arith}
use Rattle.files.specs.Denials.{of_record, record_count, denied_by}
use Rattle.files.proofs.WindowLaws.{SoFar, slides, all_seen}
use Rattle.files.specs.Windows.{Worst as WorstWindow, worst_values, plain_count}
use Rattle.files.specs.declared.refusal.Refusal.TheVariants.{Beyond}
use Rattle.log_records.specs.RecordLaws.{user-inside, operation-inside}
use Rattle.policy.specs.Rules.{Block}
use Rattle.role_record.specs.Cells.{grid_at, grid_cells}
use Rattle.role_record.specs.Record.{in_sizes}
use Rattle.role_record.specs.declared.Sizes.{Sizes}
use Rattle.sets.specs.LoopLaws.{all_none, all-on, all_found, all_end}
use Rattle.sets.specs.Tests.{Is, all, up_to}
use Rattle.sets.specs.TestLaws.{all-out, up_to_in}
use Rattle.log_windows.specs.Counting.{worst_of, worst_numbers, counted_of, leaving_of}

-- ---- what comes and what leaves

pub one-comes : (b : Bool) (x : ℕ) → x ≡ cond b 1 0 → x ≤ 1
one-comes true x e = omega arith
one-comes false x e = omega arith

module _ (f : ℕ → Bool) (w i : ℕ) where
  pub none_leaves : i < w → 0 ≡ leaving_of f w i
  unfolding leaving_of
  none_leaves h = rw (lt-leb w i h) refl

  pub first_leaves : (x : ℕ) → w ≤ i → x ≡ cond (f (i - w)) 1 0 → x ≡ leaving_of f w i
  unfolding leaving_of
  first_leaves x h e = e ∙ rw (le-leb w i h) refl

  -- one comes and one may leave: no fewer are counted than leave, and the next window's are left
  pub leaves_some : (count most start x : ℕ) → SoFar f w i count most start → x ≡ cond (f i) 1 0 → leaving_of f w i ≤ count + x
  unfolding leaving_of
  leaves_some count most start x h e = let a = slides f w i in let b = h.counted in omega arith

  pub next-count : (count most start x : ℕ) → SoFar f w i count most start → x ≡ cond (f i) 1 0 → (count + x) - leaving_of f w i ≡ plain_count f ((i + 1) - w) (min w (i + 1))
  unfolding leaving_of
  next-count count most start x h e = let a = slides f w i in let b = h.counted in omega arith

-- the same window under other names
pub so : (f : ℕ → Bool) (w i count most start m s : ℕ) → most ≡ m → start ≡ s → SoFar f w i count m s → SoFar f w i count most start
so f w i count most start m s p q h = subst (λ (x : ℕ). SoFar f w i count x start) (sym p) (subst (λ (x : ℕ). SoFar f w i count m x) (sym q) h)

-- ---- the records seen

module _ (s : Sizes) (log : List ℕ) where
  -- the first i records are within the sizes
  abbrev pub Within : ℕ → Type 0
  Within i = Is (all (of_record (in_sizes s) log) (up_to i))

  -- so that each of them has a cell in a grid
  pub has_cell : (i j n : ℕ) → j < i → s.users ≤ 64 → n ≡ grid_cells s.operations → Within i → grid_at (get_or log (3 * j) 0) (get_or log (3 * j + 2) 0) < n
  has_cell i j n l p q h =
      let a = all-out (of_record (in_sizes s) log) h (up_to_in l) in
      let u = user-inside s (get_or log (3 * j) 0) (get_or log (3 * j + 1) 0) (get_or log (3 * j + 2) 0) a in
      let o = operation-inside s (get_or log (3 * j) 0) (get_or log (3 * j + 1) 0) (get_or log (3 * j + 2) 0) a in
      omega arith

  pub within_none : Within 0
  within_none = all_none (of_record (in_sizes s) log)

  pub within-next : (i : ℕ) → Within i → of_record (in_sizes s) log i ≡ true → Within (i + 1)
  within-next i h e = all-on (of_record (in_sizes s) log) i h e

  -- ---- what is handed back

  module _ (G : Block) (w : ℕ) where
    pub one-beyond : (i : ℕ) → i < record_count log → of_record (in_sizes s) log i ≡ false → Err Beyond ≡ counted_of G s log w
    unfolding counted_of
    one-beyond i l e = rw (all_found (of_record (in_sizes s) log) i (record_count log) l e) refl

    pub all-counted : (i count most start : ℕ) → Within i → SoFar (denied_by G log) w i count most start → i ≡ record_count log → Ok (record { most = most; start = start }) ≡ counted_of G s log w
    unfolding counted_of
    all-counted i count most start h k e =
        rw (all_end (of_record (in_sizes s) log) i (record_count log) h e)
        (sym (ap (λ x. Ok (worst_of x)) (all_seen (denied_by G log) w i (record_count log) count most start k e)))

-- ---- the values of what is handed back

pub worst_told : (x : WorstWindow) → worst_numbers (worst_of x) ≡ worst_values x
worst_told x = refl
