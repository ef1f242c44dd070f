use native.Mathlib.Omega.{arith}
use Rattle.role_record.specs.Record.{table_of}
use Rattle.grant_joins.specs.Tables.{link_atom, links_by}
use Rattle.grant_joins.specs.LinkTurnLaws.{turns-end}
use Rattle.grant_tables.specs.LinkTableLaws.{links_means}
use Rattle.grant_tables.proofs.links.Goals as goal

pub returns : goal.returns
unfolding links_by
returns c =
    let end = c.loop-atom in
    let a = c.args in
    let filled = turns-end (link_atom a.distinct.now a.having.now a.kinds.now a.domains.now a.resources) (table_of 2304 (λ i. 0)) end.atom 36 end.out end.invariant.1 (omega arith) in
    λ known values holders users roles ed eh. links_means a.distinct.now a.having.now a.kinds.now a.domains.now known values holders users a.resources roles _ c.requires filled ed eh
