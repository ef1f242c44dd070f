-- The invariant: the parts that the operations before this one lead are stored. Assumes nothing.
use Prim.Native.Nat.{◌≤◌}
use Rattle.mine_fill.specs.Fill.{RoleTo}
use Rattle.mine_fill.proofs.fill_role.Given as goal

abbrev pub invariant-loop-lead : goal.invariant-loop-lead
invariant-loop-lead l = (l.lead ≤ l.operations) × RoleTo l.links l.matches l.knowing l.attributes l.holders l.permissions l.sizes.users l.sizes.resources l.sizes.operations l.initial.scratch l.scratch l.role l.first l.n l.lead
