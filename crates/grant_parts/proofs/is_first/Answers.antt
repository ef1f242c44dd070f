use Rattle.std.proofs.Common.{rules, tests, ap}
use Rattle.std.proofs.Math.Bool.{not}
use Rattle.grant_parts.specs.Parts.{same_row, is_first}
use Rattle.sets.specs.SearchLaws.{any_below}
use Rattle.grant_parts.proofs.is_first.Goals as goal

pub returns : goal.returns
unfolding is_first
returns c = ap not (any_below (same_row c.args.permissions.now c.args.role c.args.o) c.any.ensures.ran (λ x b q k. search (rules, tests)))
