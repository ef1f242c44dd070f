-- Assumes nothing.
use lib.ListN.{drop}
use native.Mathlib.Omega.{arith}
use Rattle.mine_corners.specs.Pairing.{words_in}
use Rattle.mine_fill.specs.FillLaws.{part-atoms, part-level, filled_with}
use Rattle.mine_parts.specs.LayoutLaws.{name-low}
use Rattle.mine_widen.specs.MetLaws.{met-first, none-met}
use Rattle.mine_fill.proofs.words_of.Goals as goal

pub level_of_group-level-requires : goal.level_of_group-level-requires
level_of_group-level-requires c =
    let a = c.args in
    let p = c.requires in
    let m = c.widen.ensures 0 0 (none-met a.matches.now) in (
      p.0,
      p.1,
      p.2,
      (met-first a.matches.now 0 c.group_of-g.result.users c.widen.new.met m.0, met-first a.matches.now 1 c.group_of-g.result.resources (drop 6 c.widen.new.met) m.1),
    )

pub pack-rest-requires : goal.pack-rest-requires
pack-rest-requires c =
    let a = c.args in
    let few = part-atoms a.links.now a.matches.now a.knowing.now a.attributes.now a.holders.now a.permissions.now a.sizes.users a.sizes.resources a.sizes.operations (record { role = a.role; lead = a.lead }) c.group_of-g.ensures in
    let low = part-level a.links.now a.matches.now a.knowing.now a.attributes.now a.holders.now a.permissions.now a.sizes.users a.sizes.resources a.sizes.operations (words_in c.group_of-g.result) c.level_of_group-level.ensures in
    (few, low, omega (arith, c.name_of-name.ensures, name-low a.role a.lead c.requires.3 c.requires.4), c.requires.5)

pub returns : goal.returns
returns c =
    let a = c.args in
    filled_with a.links.now a.matches.now a.knowing.now a.attributes.now a.holders.now a.permissions.now a.sizes.users a.sizes.resources a.sizes.operations (record { role = a.role; lead = a.lead }) a.i
    c.group_of-g.ensures c.level_of_group-level.ensures c.name_of-name.ensures c.pack-rest.ensures
