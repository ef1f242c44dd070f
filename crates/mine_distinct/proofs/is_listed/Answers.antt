-- Assumes nothing.
use Rattle.mine_distinct.specs.DistinctListedLaws.{nobody-has, somebody-has}
use Rattle.mine_distinct.proofs.is_listed.Goals as goal

pub returns-then-meet-eq0 : goal.returns-then-meet-eq0
returns-then-meet-eq0 c =
    let a = c.args in
    nobody-has a.having.now a.inside.now a.place a.members a.number c.meet.result c.meet.ensures c.if-meet-eq0.true

pub returns : goal.returns
returns c =
    let a = c.args in
    somebody-has a.having.now a.inside.now a.place a.members a.number c.meet.result c.meet.ensures c.meet-2.result c.if-meet-eq0.false c.meet-2.ensures
