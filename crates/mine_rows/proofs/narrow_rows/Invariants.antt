-- The invariant: the rows before u are narrowed, and the others are as they were. Assumes nothing.
use Prim.Native.Nat.{ℕ, ◌+◌, ◌*◌, ◌≤◌, ◌<◌}
use lib.ListN.{length, get_or}
use mathlib.Core.List.{List}
use mathlib.Core.Path.{◌≡◌}
use Rattle.mine_rows.specs.Rows.{shared}
use Rattle.mine_rows.proofs.narrow_rows.Given as goal

abbrev pub narrowed : List ℕ → ℕ → List ℕ → ℕ → ℕ
narrowed links atom rows u = shared (get_or rows u 0) (get_or links (64 * atom + u) 0)

abbrev pub invariant-loop-u : goal.invariant-loop-u
invariant-loop-u l = (l.u ≤ 64) × (length l.out ≡ 64) × ((j : ℕ) → j < l.u → get_or l.out j 0 ≡ narrowed l.links l.atom l.initial.out j) × ((j : ℕ) → l.u ≤ j → get_or l.out j 0 ≡ get_or l.initial.out j 0)
