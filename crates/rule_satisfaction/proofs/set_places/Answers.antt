-- Assumes nothing.
use lib.ListN.{get_or}
use native.Mathlib.Omega.{arith}
use Rattle.rule_satisfaction.proofs.HalvesLaws.{places_joined}
use Rattle.sets.specs.MaskLaws.{cut_law}
use Rattle.rule_satisfaction.proofs.set_places.Goals as goal

pub returns : goal.returns
returns c =
    let kinds = c.args.kinds.now in
    places_joined kinds c.meet.result c.with-users.result c.meet-resources.result c.union.result
    (cut_law 6 (get_or kinds 0 0) c.below-declared.result c.meet.result (omega arith) c.below-declared.ensures c.meet.ensures)
    c.with-users.ensures
    (cut_law 6 (get_or kinds 1 0) c.below-declared.result c.meet-resources.result (omega arith) c.below-declared.ensures c.meet-resources.ensures)
    c.union.ensures
