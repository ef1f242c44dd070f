-- The invariant: the words before i are right. Assumes nothing.
use Prim.Native.Nat.{ℕ, ◌≤◌, ◌<◌}
use lib.ListN.{length, get_or}
use mathlib.Core.Path.{◌≡◌}
use Rattle.mine_matches.specs.Matches.{known_for}
use Rattle.mine_matches.proofs.known_places.Given as goal

abbrev pub invariant-loop-i : goal.invariant-loop-i
invariant-loop-i l = (l.i ≤ 14) × (length l.out ≡ 14) × ((j : ℕ) → j < l.i → get_or l.out j 0 ≡ known_for l.users l.resources l.known j)
