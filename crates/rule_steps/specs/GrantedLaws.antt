-- The grid that is kept of rules has the triples that they grant.
-- Assumes nothing.
use Rattle.std.specs.Prelude.{ℕ, Bool, ◌&&◌, List, ◌≡◌}
use Rattle.std.proofs.Common.{ap, ◌∙◌, arith}
use Rattle.role_record.specs.Record.{Sized}
use Rattle.files.specs.Calls.{is_triple, rules_grant}
use Rattle.grant_blocks.specs.RowsLaws.{triple-is}
use Rattle.files.specs.RuleFile.{Lines}
use Rattle.grant_grids.specs.Grid.{grid_of, in_grid}
use Rattle.grant_grids.proofs.GridLaws.{in-grid}
use Rattle.policy.specs.Policy.{Policy, side_of, setting_of}
use Rattle.policy.specs.Rules.{Triple, user, resource}
use Rattle.rule_steps.specs.Shows.{granted_within}

pub in_rules : (F : Policy) → Sized F → (rules : List Lines) (u r o : ℕ) → Triple (setting_of F) u r o → in_grid (grid_of F.operations (granted_within F rules)) u r o ≡ rules_grant (setting_of F) rules u r o
unfolding granted_within setting_of side_of
in_rules F Z rules u r o t =
    let a = t.user in
    let b = t.resource in
    let c = t.op in
    let d = Z.many user in
    let e = Z.many resource in
    in-grid F.operations (granted_within F rules) u r o (omega arith) (omega arith) (omega arith)
    ∙ ap (λ (x : Bool). x && rules_grant (setting_of F) rules u r o) (triple-is (setting_of F) u r o t)
