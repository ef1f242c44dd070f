-- The invariant: the words of the atoms before this one are right. Assumes nothing.
use Prim.Native.Nat.{◌≤◌}
use mathlib.Core.Path.{◌≡◌}
use Rattle.role_record.specs.Record.{table_of}
use Rattle.grant_joins.specs.Tables.{turns, link_atom}
use Rattle.grant_tables.proofs.links.Given as goal

abbrev pub invariant-loop-atom : goal.invariant-loop-atom
invariant-loop-atom l = (l.atom ≤ 36) × (l.out ≡ turns (link_atom l.distinct l.having l.kinds l.domains l.resources) l.atom (table_of 2304 (λ i. 0)))
