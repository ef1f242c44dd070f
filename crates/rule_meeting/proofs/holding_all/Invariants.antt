-- The invariant: the set has the users who hold all roles of the set before k. Assumes nothing.
use mathlib.Core.Path.{◌≡◌}
use Prim.Native.Nat.{◌≤◌}
use Rattle.sets.specs.Sets.{narrowing, bit, mask_of}
use lib.Dec.{ltb}
use lib.ListN.{get_or}
use Rattle.rule_meeting.proofs.holding_all.Given as goal

abbrev pub invariant-loop-k : goal.invariant-loop-k
invariant-loop-k l = (l.k ≤ l.roles) × (l.m ≡ mask_of 64 (narrowing (mask_of 64 (λ x. ltb x l.users)) (bit l.v) (λ j. get_or l.holders j 0) l.k))
