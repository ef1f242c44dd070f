-- The invariant: the words from w on, with the parts among them numbered from here on, have the answer. Assumes nothing.
use Prim.Native.Nat.{ℕ, ◌-◌, ◌≤◌}
use mathlib.Core.Bool.{Bool}
use mathlib.Core.List.{List}
use mathlib.Core.Path.{◌≡◌}
use Rattle.grant_parts.specs.Parts.{is_part_in}
use Rattle.rule_listings.specs.Listed.{once_in, stray_from, stray_of}
use Rattle.role_record.specs.Cells.{row_start, cell_row, cell_operation}
use Rattle.sets.specs.Tests.{from}
use Rattle.rule_listings.proofs.first_stray.Given as goal

abbrev pub is_one : List ℕ → List ℕ → ℕ → ℕ → Bool
is_one holders permissions ops w = is_part_in holders permissions ops (cell_row w) (cell_operation w)

abbrev pub listed_once : List ℕ → List ℕ → ℕ → Bool
listed_once seen again w = once_in seen again (cell_row w) (cell_operation w)

abbrev pub invariant-loop-w : goal.invariant-loop-w
invariant-loop-w l = (l.w ≤ row_start l.f.roles) × (l.number ≤ l.w) × (stray_from (is_one l.f.holders l.f.permissions l.f.operations) (listed_once l.seen l.again) l.number (from l.w (row_start l.f.roles - l.w)) ≡ stray_of l.f.holders l.f.permissions l.f.roles l.f.operations l.seen l.again)
