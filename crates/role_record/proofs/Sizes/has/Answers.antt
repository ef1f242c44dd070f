use Rattle.std.proofs.Common.{rules}
use Rattle.role_record.specs.Record.{in_sizes}
use Rattle.role_record.proofs.Sizes.has.Goals as goal

pub returns-then-resource-self : goal.returns-then-resource-self
unfolding in_sizes
returns-then-resource-self c = search rules

pub returns-else-resource-self : goal.returns-else-resource-self
unfolding in_sizes
returns-else-resource-self c = search rules
