-- Assumes nothing.
use Rattle.mine_pairs.specs.PairLevelLaws.{own-asked, own_not_asked}
use Rattle.mine_pairs.proofs.with_own.Goals as goal

pub returns-then-own : goal.returns-then-own
returns-then-own c =
    let a = c.args in
    own-asked a.matches.now a.side a.members a.passing c.if-own.true c.met_by.ensures c.meet.ensures

pub returns : goal.returns
returns c =
    let a = c.args in
    own_not_asked a.matches.now a.side a.members a.passing c.if-own.false
