-- The invariant: the user's words of the operations before o are worked out. Assumes nothing.
use Prim.Native.Nat.{◌≤◌}
use lib.ListN.{length}
use mathlib.Core.Path.{◌≡◌}
use Rattle.grant_grids.specs.Updates.{updated, span}
use Rattle.right_words.specs.RightLaws.{afresh}
use Rattle.role_record.specs.Cells.{row_cells, row_start, user_cells}
use Rattle.right_words.proofs.refresh.Given as goal

abbrev pub invariant-loop-o : goal.invariant-loop-o
invariant-loop-o l = (l.o ≤ row_cells) × (length l.table ≡ user_cells) × (l.table ≡ updated user_cells (span (row_start l.user) l.o) (afresh l.sizes l.holders l.permissions) l.initial.table)
