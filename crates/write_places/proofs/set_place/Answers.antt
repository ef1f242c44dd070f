-- Assumes nothing.
use Rattle.role_record.specs.PlacesLaws.{set_own_user, set_own_resource, set-declared}
use Rattle.write_places.proofs.set_place.Goals as goal

pub returns-then-place-eq-ATTRIBUTES : goal.returns-then-place-eq-ATTRIBUTES
returns-then-place-eq-ATTRIBUTES c = let a = c.args in set_own_user a.kinds.now a.place c.if-place-eq-ATTRIBUTES.true

pub returns-then-place-eq-LAST_PLACE : goal.returns-then-place-eq-LAST_PLACE
returns-then-place-eq-LAST_PLACE c = let a = c.args in set_own_resource a.kinds.now a.place c.if-place-eq-ATTRIBUTES.false c.if-place-eq-LAST_PLACE.true

pub returns : goal.returns
returns c =
    let a = c.args in
    set-declared a.kinds.now a.place c.has.result c.if-place-eq-ATTRIBUTES.false c.if-place-eq-LAST_PLACE.false c.has.ensures
