-- Assumes nothing.
use lib.ListN.{length}
use mathlib.Core.Path.{sym, ap, ◌∙◌}
use Rattle.write_measure.specs.MeasureLaws.{rule-head, rule-none, sums_head, sums_none}
use Rattle.write_measure.proofs.size_head.Goals as goal

pub rule_size-requires : goal.rule_size-requires
rule_size-requires c =
    (c.requires.0, c.requires.1, c.requires.2, c.requires.3)

pub returns-then-is_head : goal.returns-then-is_head
returns-then-is_head c =
    let a = c.args in
    let e = sym c.is_head.ensures ∙ c.if-is_head.true in (
      c.rule_size.ensures.0 ∙ ap length (rule-head a.distinct.now a.having.now a.inside.now a.kinds.now a.permissions.now a.operations a.starts.now a.scratch.now a.rule.head a.rule.kept e),
      c.rule_size.ensures.1 ∙ sums_head a.distinct.now a.having.now a.inside.now a.kinds.now a.scratch.now a.rule.head a.rule.kept e,
    )

pub returns : goal.returns
returns c =
    let a = c.args in
    let e = sym c.is_head.ensures ∙ c.if-is_head.false in (
      sym (ap length (rule-none a.distinct.now a.having.now a.inside.now a.kinds.now a.permissions.now a.operations a.starts.now a.scratch.now a.rule.head a.rule.kept e)),
      c.no_sums.ensures ∙ sums_none a.distinct.now a.having.now a.inside.now a.kinds.now a.scratch.now a.rule.head a.rule.kept e,
    )
