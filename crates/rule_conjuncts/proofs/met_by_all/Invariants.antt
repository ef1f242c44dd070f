-- The invariant: the set has those who meet the conjuncts of the places before i. Assumes nothing.
use mathlib.Core.Path.{◌≡◌}
use Prim.Native.Nat.{◌+◌, ◌*◌, ◌≤◌}
use Rattle.sets.specs.Sets.{narrowing, bit, mask_of}
use lib.Dec.{ltb}
use lib.ListN.{get_or}
use Rattle.rule_conjuncts.proofs.met_by_all.Given as goal

abbrev pub invariant-loop-i : goal.invariant-loop-i
invariant-loop-i l = (l.i ≤ 7) × (l.m ≡ mask_of 64 (narrowing (mask_of 64 (λ x. ltb x l.count)) (λ j. bit l.asked (7 * l.side + j)) (λ j. get_or l.met (7 * l.side + j) 0) l.i))
