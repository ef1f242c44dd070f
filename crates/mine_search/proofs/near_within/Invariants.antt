-- The invariant: the parts that are left give the same answer as all that were asked for. Assumes nothing.
use Prim.Native.Nat.{ℕ, ◌^◌, ◌<◌}
use Rattle.sets.specs.Sets.{bit}
use Rattle.sets.specs.Tests.{Is}
use Rattle.mine_search.specs.PartnerSearchLaws.{LeftOf}
use Rattle.mine_corners.specs.Pairing.{words_in}
use Rattle.mine_search.proofs.near_within.Given as goal

abbrev pub invariant-loop-i : goal.invariant-loop-i
invariant-loop-i l = (l.i-iterator.rest < 2 ^ 64) × LeftOf l.scratch (words_in l.g) l.word l.marked l.i-iterator.rest × ((k : ℕ) → Is (bit l.i-iterator.rest k) → Is (bit l.marked k))
