-- The invariant: the table has the roles of the parts before this one. Assumes nothing.
use Prim.Native.Nat.{◌≤◌}
use lib.ListN.{length}
use mathlib.Core.Path.{◌≡◌}
use Rattle.mine_parts.specs.Layout.{most_parts}
use Rattle.write_roles.specs.GroupRoleLaws.{Marking}
use Rattle.write_roles.proofs.mark_roles.Given as goal

abbrev pub invariant-loop-i : goal.invariant-loop-i
invariant-loop-i l = (l.i ≤ l.parts) × (length l.out ≡ most_parts) × Marking l.scratch l.parts l.out l.i
