-- Assumes nothing.
use Prim.Native.Nat.{◌+◌}
use borrow.Author.Rules.{rules}
use Rattle.grant_joins.specs.LinkTurnLaws.{number-most, linked_law}
use Rattle.grant_tables.proofs.linked_to.Goals as goal

pub joined-found-requires : goal.joined-found-requires
joined-found-requires c =
    (search rules, number-most c.args.having.now (7 + c.args.b) c.args.count c.requires.3)

pub returns : goal.returns
returns c =
    let a = c.args in
    linked_law a.distinct.now a.having.now a.kinds.now a.resources a.a a.b a.k a.count _ _ _ _ _
    c.requires.3 c.has-left.ensures c.has-right.ensures c.joined-found.ensures c.below.ensures c.meet.ensures
