-- The invariant: the members that are left, joined to the table as it is, give the table of all. What is left falls. Assumes nothing.
use Prim.Native.Nat.{ℕ, ◌^◌, ◌<◌}
use lib.ListN.{length}
use mathlib.Core.Path.{◌≡◌}
use Rattle.mine_matches.specs.Matches.{both_members, Met}
use Rattle.mine_widen.specs.MetLaws.{Adds}
use Rattle.mine_widen.proofs.add_members.Given as goal

abbrev pub invariant-loop-left : goal.invariant-loop-left
invariant-loop-left l = (l.left < 2 ^ 64) × (length l.met ≡ 6) × ((m : ℕ) → Met l.matches l.side m l.initial.met → Adds l.matches l.side l.met l.left (both_members m l.members))

abbrev pub decreases-loop-left : goal.decreases-loop-left
decreases-loop-left l = l.left
