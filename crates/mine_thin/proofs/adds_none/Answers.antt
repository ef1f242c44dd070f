use Rattle.std.proofs.Common.{eqb, rules, tests, ◌∙◌}
use Rattle.grant_links.specs.Linked.{linked_with}
use Rattle.sets.specs.SearchLaws.{all_members}
use Rattle.mine_corners.specs.Pairing.{words_in, less}
use Rattle.mine_rows.specs.RowLaws.{open_enough}
use Rattle.mine_rows.specs.Rows.{row_in}
use Rattle.mine_thin.proofs.adds_none.Goals as goal

pub returns : goal.returns
returns c =
    let a = c.args in
    all_members (λ u. eqb (linked_with a.links.now a.atoms u (less a.what (row_in a.rows.now (words_in a.g) u))) 0) (search rules) c.members.ensures c.all.ensures.ran (λ u b q k. search (rules, tests))
    ∙ open_enough a.rows.now (words_in a.g) a.full a.who a.what a.links.now a.atoms c.open_users.result c.requires c.open_users.ensures
