-- The invariant: the words before w are right. Assumes nothing.
use Prim.Native.Nat.{ℕ, ◌/◌, ◌%◌, ◌≤◌, ◌<◌}
use lib.ListN.{length, get_or}
use mathlib.Core.Path.{◌≡◌}
use Rattle.mine_distinct.specs.InsideFilling.{inside_word}
use Rattle.mine_distinct.proofs.inside_values.Given as goal

abbrev pub invariant-loop-w : goal.invariant-loop-w
invariant-loop-w l = (l.w ≤ 896) × (length l.inside ≡ 896) × ((j : ℕ) → j < l.w → get_or l.inside j 0 ≡ inside_word l.kinds l.distinct l.having (j / 64) (j % 64))
