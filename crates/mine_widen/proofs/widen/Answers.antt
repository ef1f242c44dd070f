-- Assumes nothing.
use Rattle.mine_matches.specs.Matches.{both_members}
use Rattle.mine_widen.specs.MetLaws.{met-cut, met-behind, sides-met}
use Rattle.mine_widen.proofs.widen.Goals as goal

pub returns : goal.returns
returns c m n h =
    let a = c.args in
    let front = c.add_members.ensures in
    let back = c.add_members-2.ensures in
    sides-met a.matches.now (both_members m a.users) (both_members n a.resources) a.met.now c.add_members.new.met c.add_members-2.new.met _ front.0 back.0
    (front.1 m (met-cut a.matches.now 0 m a.met.now h.0))
    (back.1 n (met-behind a.matches.now n a.met.now c.add_members.new.met front.0 h.1))
