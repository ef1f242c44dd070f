-- Assumes nothing.
use Rattle.write_answer.proofs.AssemblyLaws.{merged_by, written-by}
use Rattle.mine_policy.proofs.mine_record.Goals as goal

pub write_groups-requires : goal.write_groups-requires
write_groups-requires c =
    (c.requires.0, (c.requires.1, c.requires.2), c.merge_parts-merging.ensures.1)

pub shape_of-scratch : goal.shape_of-scratch
shape_of-scratch c =
    c.merge_parts-merging.ensures.0

pub returns : goal.returns
returns c F Z S =
    let a = c.args in
    let v = c.distinct_values.ensures in
    let i = c.inside_values.ensures a.known.now a.values.now a.holders.now a.sizes.users a.sizes.resources a.sizes.roles v.0 v.1 in
    let m = c.merge_parts-merging.ensures.2 F Z (merged_by F a.known.now a.values.now a.kinds.now a.domains.now a.attributes.now a.holders.now a.permissions.now a.sizes.users a.sizes.resources a.sizes.operations a.sizes.roles S _ _ _ v.0 v.1 i) in
    c.write_groups.ensures F a.cuts.now Z (written-by F a.known.now a.values.now a.kinds.now a.domains.now a.attributes.now a.holders.now a.permissions.now a.sizes.users a.sizes.resources a.sizes.operations a.sizes.roles S _ _ _ v.0 v.1 i a.cuts.now _ _ _ m.1 m.2) m.0
