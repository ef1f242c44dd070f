use Rattle.role_circles.specs.BackLaws.{next-so}
use Rattle.role_circles.proofs.next.Goals as goal

pub returns : goal.returns
returns c =
    let a = c.args in
    next-so a.lines.now a.low a.back a.x _ _ _ c.meet.ensures c.below.ensures c.without.ensures
