-- The invariant: the rows before u have all. Assumes nothing.
use Prim.Native.Nat.{ℕ, ◌≤◌, ◌<◌}
use lib.ListN.{length, get_or}
use mathlib.Core.Path.{◌≡◌}
use Rattle.mine_rows.specs.Rows.{everything}
use Rattle.mine_rows.proofs.widen_rows.Given as goal

abbrev pub invariant-loop-u : goal.invariant-loop-u
invariant-loop-u l = (l.u ≤ 64) × (length l.out ≡ 64) × ((j : ℕ) → j < l.u → get_or l.out j 0 ≡ everything)
