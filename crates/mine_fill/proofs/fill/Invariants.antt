-- The invariant: the parts of the roles before this one are stored. Assumes nothing.
use Prim.Native.Nat.{◌≤◌}
use lib.ListN.{length}
use mathlib.Core.Path.{◌≡◌}
use Rattle.mine_fill.specs.Fill.{FilledTo}
use Rattle.mine_fill.proofs.fill.Given as goal

abbrev pub invariant-loop-role : goal.invariant-loop-role
invariant-loop-role l = (l.role ≤ 32) × (length l.scratch ≡ length l.initial.scratch) × (length l.starts ≡ 33) × FilledTo l.links l.matches l.knowing l.attributes l.holders l.permissions l.sizes.users l.sizes.resources l.sizes.operations l.scratch l.starts l.n l.role
