-- The invariant: the parts before k are resolved. Assumes nothing.
use Prim.Native.Nat.{◌≤◌}
use lib.ListN.{length}
use mathlib.Core.Path.{◌≡◌}
use Rattle.mine_join.specs.JoinedLaws.{ResolvedTo}
use Rattle.mine_join.proofs.resolve.Given as goal

abbrev pub invariant-loop-k : goal.invariant-loop-k
invariant-loop-k l = (l.k ≤ l.parts) × (length l.scratch ≡ length l.initial.scratch) × ResolvedTo l.initial.scratch l.scratch l.k
