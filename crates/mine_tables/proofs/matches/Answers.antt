use native.Mathlib.Omega.{arith}
use Rattle.role_record.specs.Record.{table_of}
use Rattle.grant_joins.specs.LinkTurnLaws.{turns-end}
use Rattle.mine_tables.specs.Matching.{match_place, matches_by}
use Rattle.mine_tables.specs.TableLaws.{matches_means}
use Rattle.mine_tables.proofs.matches.Goals as goal

pub returns : goal.returns
unfolding matches_by
returns c =
    let end = c.loop-place in
    let a = c.args in
    let filled = turns-end (match_place a.distinct.now a.having.now a.knowing.now a.kinds.now) (table_of 896 (λ i. 0)) end.place 14 end.out end.invariant.1 (omega arith) in
    λ knowing values holders users resources roles hu hr ek ed eh. matches_means a.distinct.now a.having.now a.knowing.now a.kinds.now knowing values holders users resources roles _ hu hr filled ek ed eh
