-- Assumes nothing.
use Rattle.mine_exact.specs.PairingLaws.{agree-words}
use Rattle.mine_exact.proofs.agree.Goals as goal

pub returns : goal.returns
returns c =
    let a = c.args in
    agree-words a.mine a.theirs a.c a.a a.b c.meet.ensures c.union.ensures c.without.ensures c.without-2.ensures
