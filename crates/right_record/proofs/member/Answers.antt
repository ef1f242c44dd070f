-- Assumes nothing.
use Rattle.right_record.specs.ReassignedLaws.{member_in, member-out}
use Rattle.right_record.proofs.member.Goals as goal

pub returns-then-gives : goal.returns-then-gives
returns-then-gives c =
    let a = c.args in
    member_in a.m a.i c.with.result a.gives c.if-gives.true c.with.ensures

pub returns : goal.returns
returns c =
    let a = c.args in
    member-out a.m a.i c.with-2.result c.without.result a.gives c.if-gives.false c.with-2.ensures c.without.ensures
