-- The invariant: the words before i are right. Assumes nothing.
use Prim.Native.Nat.{ℕ, ◌≤◌, ◌<◌}
use lib.ListN.{length, get_or}
use mathlib.Core.Path.{◌≡◌}
use Rattle.write_kept.specs.Kept.{kept_head}
use Rattle.mine_parts.specs.Layout.{most_parts}
use Rattle.write_kept.proofs.kept_places.Given as goal

abbrev pub invariant-loop-i : goal.invariant-loop-i
invariant-loop-i l = (l.i ≤ l.parts) × (length l.out ≡ most_parts) × ((j : ℕ) → j < l.i → get_or l.out j 0 ≡ kept_head l.links l.matches l.knowing l.attributes l.sizes.users l.sizes.resources l.sizes.operations l.scratch j)
