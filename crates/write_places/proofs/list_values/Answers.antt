-- Assumes nothing.
use Rattle.write_theory.proofs.ListingLaws.{listed-place}
use Rattle.write_places.proofs.list_values.Goals as goal

pub returns : goal.returns
returns c =
    let a = c.args in
    listed-place a.distinct.now a.having.now a.inside.now a.scratch.now a.head a.place _ _ _ _ c.requires.1 c.members_at-members.ensures c.listed.ensures
