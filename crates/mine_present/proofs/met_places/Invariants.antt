-- The invariant: the words before i are right. Assumes nothing.
use Prim.Native.Nat.{ℕ, ◌≤◌, ◌<◌}
use lib.ListN.{length, get_or}
use mathlib.Core.Path.{◌≡◌}
use Rattle.mine_corners.specs.Pairing.{words_in}
use Rattle.mine_rows.specs.KeptPlaces.{met_at}
use Rattle.mine_present.proofs.met_places.Given as goal

abbrev pub invariant-loop-i : goal.invariant-loop-i
invariant-loop-i l = (l.i ≤ 14) × (length l.out ≡ 14) × ((j : ℕ) → j < l.i → get_or l.out j 0 ≡ met_at l.matches (words_in l.g) l.places j)
