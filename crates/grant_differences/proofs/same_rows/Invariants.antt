-- The invariant: the grid has just what the rule grants at the operations before o. Assumes nothing.
use Prim.Native.Nat.{◌≤◌}
use mathlib.Core.Bool.{true}
use mathlib.Core.Path.{◌≡◌}
use Rattle.grant_blocks.specs.Rows.{same_at}
use Rattle.sets.specs.Tests.{all, up_to}
use Rattle.grant_differences.proofs.same_rows.Given as goal

abbrev pub invariant-loop-o : goal.invariant-loop-o
invariant-loop-o l = (l.o ≤ l.operations) × (all (same_at l.rows l.acts l.grid) (up_to l.o) ≡ true)
