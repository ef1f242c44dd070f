-- The invariant: the places are those that stay after the turns at the places before those left. Assumes nothing.
use Prim.Native.Nat.{◌^◌, ◌<◌}
use Rattle.mine_corners.specs.Pairing.{words_in}
use Rattle.mine_rows.specs.KeptPlaces.{present_places}
use Rattle.mine_thin.specs.PlaceVisitLaws.{Visited}
use Rattle.mine_thin.proofs.kept_places.Given as goal

abbrev pub invariant-loop-place : goal.invariant-loop-place
invariant-loop-place l = (l.place-iterator.rest < 2 ^ 64) × Visited l.links l.met l.sizes.users l.sizes.resources l.sizes.operations (words_in l.g) (present_places l.knowing l.attributes (words_in l.g) l.level) l.place-iterator.rest l.kept
