use mathlib.Core.Path.{◌∙◌}
use Rattle.rule_operands.specs.CheckedLaws.{at-opens, at_user_single, at_user_set, at_resource_single, at_resource_set, at-operations, at-link, at_part, at_level, at_rest}
use Rattle.rule_operands.proofs.check.Goals as goal

pub returns-in-33 : goal.returns-in-33
returns-in-33 c = at-opens _ _ c.in-33.is

pub returns-in-34 : goal.returns-in-34
returns-in-34 c = c.check_value.ensures ∙ at_user_single _ _ c.in-34.is

pub returns-in-35 : goal.returns-in-35
returns-in-35 c = c.check_value-in-35.ensures ∙ at_user_set _ _ c.in-35.is

pub returns-in-36 : goal.returns-in-36
returns-in-36 c = c.check_value-in-36.ensures ∙ at_resource_single _ _ c.in-36.is

pub returns-in-37 : goal.returns-in-37
returns-in-37 c = c.check_value-in-37.ensures ∙ at_resource_set _ _ c.in-37.is

pub returns-in-38 : goal.returns-in-38
returns-in-38 c = c.check_operations.ensures ∙ at-operations _ _ c.in-38.is

pub returns-in-39 : goal.returns-in-39
returns-in-39 c = c.check_link.ensures ∙ at-link _ _ c.in-39.is

pub returns-in-40 : goal.returns-in-40
returns-in-40 c = c.check_part.ensures ∙ at_part _ _ c.in-40.is

pub returns-in-41 : goal.returns-in-41
returns-in-41 c = at_level _ _ c.in-41.is

pub returns-in_default : goal.returns-in_default
returns-in_default c =
    let n = c.in_default.in_default-own.rest in
    at_rest _ _ n.0.0.0.0.0.0.0.0.1 n.0.0.0.0.0.0.0.1 n.0.0.0.0.0.0.1 n.0.0.0.0.0.1 n.0.0.0.0.1 n.0.0.0.1 n.0.0.1 n.0.1 n.1
