-- Assumes nothing.
use Rattle.mine_corners.specs.Pairing.{words_in}
use Rattle.grant_links.specs.LinkedLaws.{atoms-cut}
use Rattle.mine_rows.specs.RowLaws.{told_by_triples, told_by_corners, told_by_rows}
use Rattle.mine_thin.proofs.grants_same.Goals as goal

pub returns-then-meet-atoms : goal.returns-then-meet-atoms
returns-then-meet-atoms c =
    let a = c.args in
    told_by_corners a.links.now a.met.now a.sizes.users a.sizes.resources a.sizes.operations (words_in a.g) a.places c.met_by_all-who.result c.met_by_all-what.result
    c.met_by_all-who.ensures c.met_by_all-what.ensures c.requires.0 c.requires.1 c.asks_no_more.ensures c.if-asks_no_more.true a.rows.now c.requires.2
    (atoms-cut a.g.atoms c.below.result c.meet.result c.below.ensures c.meet.ensures) c.if-meet-atoms.true c.corners_free.ensures

pub returns-then-asks_no_more : goal.returns-then-asks_no_more
returns-then-asks_no_more c =
    let a = c.args in
    told_by_rows a.links.now a.met.now a.sizes.users a.sizes.resources a.sizes.operations (words_in a.g) a.places c.met_by_all-who.result c.met_by_all-what.result
    c.met_by_all-who.ensures c.met_by_all-what.ensures c.requires.0 c.requires.1 c.asks_no_more.ensures c.if-asks_no_more.true a.rows.now c.requires.2 c.adds_none.ensures

pub returns : goal.returns
returns c =
    let a = c.args in
    told_by_triples a.links.now a.met.now a.sizes.users a.sizes.resources a.sizes.operations (words_in a.g) a.places c.met_by_all-who.result c.met_by_all-what.result
    c.met_by_all-who.ensures c.met_by_all-what.ensures c.no_other.ensures
