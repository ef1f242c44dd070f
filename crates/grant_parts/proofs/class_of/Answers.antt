use Rattle.std.proofs.Common.{rules}
use Rattle.grant_parts.specs.Parts.{same_row, class_row}
use Rattle.grant_parts.proofs.class_of.Goals as goal

pub returns : goal.returns
unfolding class_row
returns c = c.those.ensures (same_row c.args.permissions.now c.args.role c.args.o) (λ i b l post. search rules)
