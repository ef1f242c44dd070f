-- The invariant: the set has those who pass the conjuncts of the attributes before a. Assumes nothing.
use Prim.Native.Nat.{◌≤◌}
use mathlib.Core.Path.{◌≡◌}
use Rattle.mine_matches.specs.MatchTableLaws.{passing_to}
use Rattle.sets.specs.Sets.{mask_of}
use Rattle.mine_matches.proofs.passing.Given as goal

abbrev pub invariant-loop-a : goal.invariant-loop-a
invariant-loop-a l = (l.a ≤ l.attributes) × (l.m ≡ mask_of 64 (passing_to l.met l.knowing l.side l.members l.count l.a))
