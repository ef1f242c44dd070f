-- Assumes nothing.
use lib.ListN.{length}
use mathlib.Core.Path.{sym, ◌∙◌}
use native.Mathlib.Omega.{arith}
use Rattle.write_theory.proofs.ListingLaws.{listed-most}
use Rattle.write_theory.proofs.SectionLaws.{written_as, room_as, place_off, place-on}
use Rattle.role_record.specs.Places.{place_side}
use Rattle.write_conjuncts.proofs.put_place.Goals as goal

pub put_values-requires : goal.put_values-requires
put_values-requires c =
    let a = c.args in
    let m = listed-most a.distinct.now a.having.now a.inside.now a.scratch.now a.rule.head a.place in
    let e = c.list_values-count.ensures.0 in
    (omega arith, room_as _ _ (length a.out.now) (place-on a.distinct.now a.having.now a.inside.now a.kinds.now a.scratch.now a.rule.head a.rule.kept (place_side a.place) a.set a.place _ _ c.list_values-count.result (sym c.kept_as.ensures ∙ c.if-kept_as.true) e c.list_values-count.ensures.1) c.requires.place_in_bounds)

pub returns-then-kept_as : goal.returns-then-kept_as
returns-then-kept_as c =
    let a = c.args in
    written_as _ _ _ a.out.now c.put_values.result
    (place-on a.distinct.now a.having.now a.inside.now a.kinds.now a.scratch.now a.rule.head a.rule.kept (place_side a.place) a.set a.place _ _ c.list_values-count.result (sym c.kept_as.ensures ∙ c.if-kept_as.true) c.list_values-count.ensures.0 c.list_values-count.ensures.1)
    c.put_values.ensures

pub returns : goal.returns
returns c =
    let a = c.args in
    place_off a.distinct.now a.having.now a.inside.now a.kinds.now a.scratch.now a.rule.head a.rule.kept (place_side a.place) a.set a.place a.out.now (sym c.kept_as.ensures ∙ c.if-kept_as.false)
