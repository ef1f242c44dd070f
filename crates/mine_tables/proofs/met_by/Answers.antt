-- Assumes nothing.
use borrow.Author.Rules.{rules}
use Rattle.grant_joins.specs.LinkTurnLaws.{number-most}
use Rattle.mine_tables.specs.MatchingLaws.{met-least, met-other}
use Rattle.mine_tables.proofs.met_by.Goals as goal

pub joined-requires : goal.joined-requires
joined-requires c =
    (search rules, number-most c.args.having.now c.args.place c.args.count c.requires.2)

pub returns-then-lists_least : goal.returns-then-lists_least
returns-then-lists_least c =
    let a = c.args in
    met-least a.distinct.now a.having.now a.kinds.now a.kinds.now a.place a.k a.count _ _ c.requires.2 c.lists_least.ensures c.if-lists_least.true c.joined.ensures

pub returns : goal.returns
returns c =
    let a = c.args in
    met-other a.distinct.now a.having.now a.kinds.now a.kinds.now a.place a.k _ c.lists_least.ensures c.if-lists_least.false
