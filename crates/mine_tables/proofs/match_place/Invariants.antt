-- The invariant: the words of whoever has one of the values before number k are right. Assumes nothing.
use Prim.Native.Nat.{◌≤◌}
use lib.ListN.{length}
use mathlib.Core.Path.{◌≡◌}
use Rattle.grant_joins.specs.Tables.{turns}
use Rattle.mine_tables.specs.Matching.{match_value}
use Rattle.mine_tables.proofs.match_place.Given as goal

abbrev pub invariant-loop-k : goal.invariant-loop-k
invariant-loop-k l = (l.k ≤ l.count) × (l.count ≤ 64) × (length l.out ≡ 896) × (l.out ≡ turns (match_value l.distinct l.having l.knowing l.kinds l.place) l.k l.initial.out)
