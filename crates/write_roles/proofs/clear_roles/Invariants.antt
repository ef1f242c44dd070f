-- The invariant: the words before i are 0. Assumes nothing.
use Prim.Native.Nat.{ℕ, ◌≤◌, ◌<◌}
use lib.ListN.{length, get_or}
use mathlib.Core.Path.{◌≡◌}
use Rattle.mine_parts.specs.Layout.{most_parts}
use Rattle.write_roles.proofs.clear_roles.Given as goal

abbrev pub invariant-loop-i : goal.invariant-loop-i
invariant-loop-i l = (l.i ≤ l.parts) × (length l.out ≡ most_parts) × ((j : ℕ) → j < l.i → get_or l.out j 0 ≡ 0)
