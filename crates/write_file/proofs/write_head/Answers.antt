-- Assumes nothing.
use mathlib.Core.Path.{sym, ap, ◌∙◌}
use mathlib.Core.List.{List}
use native.Mathlib.Omega.{arith}
use Prim.Native.Nat.{ℕ}
use lib.ListN.{length}
use Rattle.write_measure.specs.MeasureLaws.{rule-head, rule-none, nothing-wrote}
use Rattle.write_measure.specs.FileTable.{rule_with}
use Rattle.write_lines.specs.Writing.{wrote}
use Rattle.write_lines.proofs.WritingLaws.{length-wrote}
use Rattle.write_file.proofs.write_head.Goals as goal

pub write_rule-requires : goal.write_rule-requires
write_rule-requires c =
    let a = c.args in
    let l = ap length (rule-head a.distinct.now a.having.now a.inside.now a.kinds.now a.permissions.now a.operations a.starts.now a.scratch.now a.rule.head a.rule.kept (sym c.is_head.ensures ∙ c.if-is_head.true)) in
    let r = c.requires.4 in
    record { operations_bound = (c.requires.0, c.requires.1, c.requires.2, c.requires.3); kept_in_bounds = omega (arith, l, r) }

pub shape_of-out-then-is_head : goal.shape_of-out-then-is_head
shape_of-out-then-is_head c =
    let a = c.args in
    let e = rule-head a.distinct.now a.having.now a.inside.now a.kinds.now a.permissions.now a.operations a.starts.now a.scratch.now a.rule.head a.rule.kept (sym c.is_head.ensures ∙ c.if-is_head.true) in
    ap length (c.write_rule.ensures.1 ∙ ap (λ (b : List ℕ). wrote b a.out.now) e) ∙ length-wrote (rule_with a.distinct.now a.having.now a.inside.now a.kinds.now a.permissions.now a.operations a.starts.now a.scratch.now a.rule.head a.rule.kept) a.out.now c.requires.4

pub returns-then-is_head : goal.returns-then-is_head
returns-then-is_head c =
    let a = c.args in
    let e = rule-head a.distinct.now a.having.now a.inside.now a.kinds.now a.permissions.now a.operations a.starts.now a.scratch.now a.rule.head a.rule.kept (sym c.is_head.ensures ∙ c.if-is_head.true) in
    (c.write_rule.ensures.1 ∙ ap (λ (b : List ℕ). wrote b a.out.now) e, c.write_rule.ensures.0 ∙ ap length e)

pub returns : goal.returns
returns c =
    let a = c.args in
    let e = rule-none a.distinct.now a.having.now a.inside.now a.kinds.now a.permissions.now a.operations a.starts.now a.scratch.now a.rule.head a.rule.kept (sym c.is_head.ensures ∙ c.if-is_head.false) in
    (nothing-wrote _ _ e, sym (ap length e))
