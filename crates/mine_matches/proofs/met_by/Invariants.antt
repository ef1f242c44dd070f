-- The invariant: the words of the members that are left, joined to what is found, give the answer. What is left falls. Assumes nothing.
use Prim.Native.Nat.{ℕ, ◌+◌, ◌*◌, ◌^◌, ◌<◌}
use lib.ListN.{get_or}
use mathlib.Core.List.{List}
use mathlib.Core.Path.{◌≡◌}
use Rattle.mine_matches.specs.Matches.{met_of}
use Rattle.sets.specs.Sets.{joining, bit, mask_of}
use Rattle.mine_matches.proofs.met_by.Given as goal

abbrev pub word : List ℕ → ℕ → ℕ → ℕ
word matches place y = get_or matches (64 * place + y) 0

abbrev pub invariant-loop-rest : goal.invariant-loop-rest
invariant-loop-rest l = (l.met < 2 ^ 64) × (l.rest < 2 ^ 64) × (mask_of 64 (joining l.met (bit l.rest) (word l.matches l.place) 64) ≡ met_of l.matches l.place l.members)

abbrev pub decreases-loop-rest : goal.decreases-loop-rest
decreases-loop-rest l = l.rest
