use mathlib.Core.Path.{ap}
use Rattle.rule_operands.specs.Checked.{checked_link}
use Rattle.rule_operands.specs.CheckedLaws.{made, not_made}
use Rattle.rule_commands.specs.declared.RuleCommand.TheVariants.{Link}
use Rattle.rule_operands.proofs.check_link.Goals as goal

pub returns-then-link_legal : goal.returns-then-link_legal
unfolding checked_link
returns-then-link_legal c = made _ _ _ _ c.link_legal.ensures c.if-link_legal.true (ap Link c.atom_of.ensures)

pub returns : goal.returns
unfolding checked_link
returns c = not_made _ _ _ c.link_legal.ensures c.if-link_legal.false
