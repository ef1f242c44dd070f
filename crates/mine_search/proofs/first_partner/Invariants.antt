-- The invariant: no part from the first on and before k is a partner, and k is a head or the end. Assumes nothing.
use Prim.Native.Nat.{◌-◌}
use Rattle.mine_search.specs.PartnerSearchLaws.{Looking}
use Rattle.mine_search.proofs.first_partner.Given as goal

abbrev pub invariant-loop-k : goal.invariant-loop-k
invariant-loop-k l = Looking l.end l.links l.matches l.knowing l.attributes l.sizes.users l.sizes.resources l.sizes.operations l.ready l.scratch l.seeking.head l.seeking.from l.k

abbrev pub decreases-loop-k : goal.decreases-loop-k
decreases-loop-k l = l.end - l.k
