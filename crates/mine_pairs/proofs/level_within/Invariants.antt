-- The invariant: no level before l fits. Assumes nothing.
use Prim.Native.Nat.{◌+◌, ◌≤◌}
use mathlib.Core.Bool.{false}
use mathlib.Core.Path.{◌≡◌}
use Rattle.sets.specs.Tests.{any, up_to}
use Rattle.mine_pairs.specs.PairLevels.{tables_fit}
use Rattle.mine_corners.specs.Pairing.{words_in}
use Rattle.mine_pairs.proofs.level_within.Given as goal

abbrev pub invariant-loop-l : goal.invariant-loop-l
invariant-loop-l l = (l.l ≤ l.limit + 1) × (any (tables_fit l.links l.matches l.knowing l.attributes l.sizes.users l.sizes.resources l.sizes.operations (words_in l.g) (words_in l.h)) (up_to l.l) ≡ false)
