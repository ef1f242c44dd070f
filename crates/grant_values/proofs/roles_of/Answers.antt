use Rattle.std.proofs.Common.{get_or, rules}
use Rattle.grant_values.specs.PlaceValues.{held_roles}
use Rattle.sets.specs.Sets.{bit}
use Rattle.grant_values.proofs.roles_of.Goals as goal

pub returns : goal.returns
unfolding held_roles
returns c = c.those.ensures (λ k. bit (get_or c.args.holders.now k 0) c.args.user) (λ i b l post. search rules)
