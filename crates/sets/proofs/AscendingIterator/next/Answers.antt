use Rattle.std.proofs.Common.{◌∙◌, sym, ap, arith}
use Rattle.sets.specs.MemberLaws.{least_in, less-less}
use Rattle.sets.specs.Members.{IsLeastOf}
use Rattle.sets.specs.Sets.{less_one}
use Rattle.sets.proofs.AscendingIterator.next.Goals as goal
use Rattle.sets.proofs.AscendingIterator.next.Goals.{After-without_least-self}

taken : (c : After-without_least-self) → IsLeastOf c.args.self.now.rest c.least-y.result c.without_least-self.result
taken c =
    let m = c.args.self.now.rest in
    let among = least_in m (omega arith) _ c.least-y.ensures (omega arith) in
    let fewer = less-less m (omega arith) _ among.1 in
    let left = c.without_least-self.ensures ∙ ap (less_one m) (sym c.least-y.ensures) in
    record { below = among.0; member = among.1; least = c.least-y.ensures; others = left; fewer = omega arith }

pub returns : goal.returns
returns c =
    let t = taken (goal.at.returns c).After-without_least-self in
    record { steps = t; goes = record { on = λ e. (tt, tt, t.fewer); keeps = tt; rests = λ e. tt } }
