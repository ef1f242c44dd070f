use Rattle.std.proofs.Common.{get_or, eqb, rules, tests}
use Rattle.sets.specs.SearchLaws.{all_members}
use Rattle.mine_rows.specs.RowLaws.{corner_nothing}
use Rattle.mine_rows.specs.Rows.{shared, free_corner}
use Rattle.mine_thin.proofs.corner_free.Goals as goal

pub returns-then-resources-eq0 : goal.returns-then-resources-eq0
returns-then-resources-eq0 c = let a = c.args in corner_nothing a.rows.now a.users a.resources c.if-resources-eq0.true

pub returns : goal.returns
unfolding free_corner
returns c =
    let a = c.args in
    all_members (λ u. eqb (shared (get_or a.rows.now u 0) a.resources) 0) c.ranges.users.fits c.members.ensures c.all.ensures.ran (λ u b q k. search (rules, tests))
