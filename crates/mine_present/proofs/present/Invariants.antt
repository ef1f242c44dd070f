-- The invariant: the set has the places before i that have a conjunct. Assumes nothing.
use Prim.Native.Nat.{◌≤◌}
use mathlib.Core.Path.{◌≡◌}
use Rattle.mine_corners.specs.Pairing.{words_in}
use Rattle.sets.specs.Sets.{mask_of}
use Rattle.mine_rows.specs.KeptPlaces.{conjunct_at}
use Rattle.mine_present.proofs.present.Given as goal

abbrev pub invariant-loop-i : goal.invariant-loop-i
invariant-loop-i l = (l.i ≤ 14) × (l.m ≡ mask_of l.i (conjunct_at l.knowing l.attributes (words_in l.g) l.level))
