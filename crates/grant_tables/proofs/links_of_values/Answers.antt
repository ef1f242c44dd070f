-- Assumes nothing.
use Rattle.grant_tables.proofs.links_of_values.Goals as goal

pub returns : goal.returns
returns c =
    let a = c.args in
    c.links.ensures a.known.now a.values.now a.holders.now a.users a.roles c.distinct_values.ensures.0 c.distinct_values.ensures.1
