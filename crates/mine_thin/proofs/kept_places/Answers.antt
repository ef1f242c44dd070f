use borrow.Author.Rules.{rules}
use mathlib.Core.Path.{refl, sym, ap, ◌∙◌}
use Rattle.sets.specs.declared.Ascending.{Ascending}
use Rattle.mine_corners.specs.Pairing.{words_in}
use Rattle.mine_rows.specs.KeptPlaces.{present_places, met_places}
use Rattle.mine_present.specs.PlaceLaws.{thin-end}
use Rattle.mine_thin.specs.PlaceVisitLaws.{present_low, visit_begin, visit_turn, visit_done}
use Rattle.mine_thin.proofs.kept_places.Goals as goal

pub loop-place-init : goal.loop-place-init
loop-place-init c =
    let a = c.args in
    let r = ap (λ (s : Ascending). s.rest) c.into_iter-place-iterator.ensures.into_iter_gives ∙ c.members-place-items.ensures in
    (search rules, visit_begin a.links.now _ a.sizes.users a.sizes.resources a.sizes.operations (words_in a.g) (present_places a.knowing.now a.attributes.now (words_in a.g) a.level) _ _ r c.present-kept.ensures)

pub loop-place-preserved : goal.loop-place-preserved
loop-place-preserved c =
    let turn = c.loop-place in
    let a = c.args in
    let t = c.in-Some.ensures.steps in (
      search rules,
      visit_turn a.links.now _ a.sizes.users a.sizes.resources a.sizes.operations (words_in a.g) (present_places a.knowing.now a.attributes.now (words_in a.g) a.level) turn.place-iterator.rest turn.kept turn.invariant.1 c.in-Some.place _ _
          (present_low a.knowing.now a.attributes.now (words_in a.g) a.level) turn.invariant.0 t.least t.member t.others c.thinned-kept.ensures,
    )

pub returns : goal.returns
returns c =
    let a = c.args in
    thin-end a.links.now a.matches.now a.knowing.now a.attributes.now _ a.sizes.users a.sizes.resources a.sizes.operations (words_in a.g) a.level 50
    (c.met_places.ensures ∙ ap (met_places a.matches.now (words_in a.g)) c.present-kept.ensures)
    (visit_done a.links.now _ a.sizes.users a.sizes.resources a.sizes.operations (words_in a.g) (present_places a.knowing.now a.attributes.now (words_in a.g) a.level) c.loop-place.place-iterator.rest c.loop-place.kept c.loop-place.invariant.1 c.in-None.ensures.steps.0)
    refl
