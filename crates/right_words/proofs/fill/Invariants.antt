-- The invariant: the words of the users before u are worked out. Assumes nothing.
use Prim.Native.Nat.{◌≤◌}
use lib.ListN.{length}
use mathlib.Core.Path.{◌≡◌}
use Rattle.right_words.specs.RightLaws.{filled_so_far}
use Rattle.role_record.specs.Cells.{user_cells}
use Rattle.right_words.proofs.fill.Given as goal

abbrev pub invariant-loop-u : goal.invariant-loop-u
invariant-loop-u l = (l.u ≤ 64) × (length l.table ≡ user_cells) × (l.table ≡ filled_so_far l.sizes l.holders l.permissions l.u l.initial.table)
