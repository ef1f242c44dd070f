-- The invariant: the words of whoever has one of the user values before number k are right. Assumes nothing.
use Prim.Native.Nat.{◌≤◌}
use lib.ListN.{length}
use mathlib.Core.Path.{◌≡◌}
use Rattle.grant_joins.specs.Tables.{turns, link_value}
use Rattle.grant_tables.proofs.link_atom.Given as goal

abbrev pub invariant-loop-k : goal.invariant-loop-k
invariant-loop-k l = (l.k ≤ l.count) × (l.count ≤ 64) × (length l.out ≡ 2304) × (l.out ≡ turns (link_value l.distinct l.having l.kinds l.resources l.atom) l.k l.initial.out)
