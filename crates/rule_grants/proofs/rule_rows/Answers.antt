use native.Mathlib.Omega.{arith}
use Rattle.role_record.specs.Record.{table_of}
use Rattle.grant_links.specs.Linked.{row_of}
use mathlib.Core.Path.{ap₂, ◌∙◌}
use Prim.Native.Nat.{ℕ}
use Rattle.rule_grants.specs.RuleRows.{rule_rows}
use Rattle.sets.specs.LoopLaws.{table-unique}
use Rattle.rule_grants.proofs.rule_rows.Goals as goal

pub returns : goal.returns
unfolding table_of rule_rows
returns c =
    let a = c.args in
    table-unique 64 c.loop-u.out (λ j. row_of a.links.now a.atoms c.satisfying-who.result c.satisfying-what.result j) c.loop-u.invariant.1 (λ j l. c.loop-u.invariant.2 j (omega arith))
    ∙ ap₂ (λ (who what : ℕ). table_of 64 (row_of a.links.now a.atoms who what)) c.satisfying-who.ensures c.satisfying-what.ensures
