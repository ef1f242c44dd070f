use Rattle.std.proofs.Common.{eqb, rules, tests, sym, ◌∙◌}
use Rattle.grant_links.specs.Linked.{linked_with}
use Rattle.sets.specs.SearchLaws.{all_members}
use Rattle.mine_corners.specs.MayJoinLaws.{free-members, free-nothing}
use Rattle.mine_corners.proofs.corner_free.Goals as goal

pub returns-then-resources-eq0 : goal.returns-then-resources-eq0
returns-then-resources-eq0 c =
    let a = c.args in
    free-nothing a.links.now a.atoms a.users a.resources c.if-resources-eq0.true

pub returns : goal.returns
returns c =
    let a = c.args in
    all_members (λ u. eqb (linked_with a.links.now a.atoms u a.resources) 0) c.ranges.users.fits c.members.ensures c.all.ensures.ran (λ u b q k. search (rules, tests))
    ∙ sym (free-members a.links.now a.atoms a.users a.resources)
