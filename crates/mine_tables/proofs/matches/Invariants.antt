-- The invariant: the words of the places before this one are right. Assumes nothing.
use Prim.Native.Nat.{◌≤◌}
use mathlib.Core.Path.{◌≡◌}
use Rattle.role_record.specs.Record.{table_of}
use Rattle.grant_joins.specs.Tables.{turns}
use Rattle.mine_tables.specs.Matching.{match_place}
use Rattle.mine_tables.proofs.matches.Given as goal

abbrev pub invariant-loop-place : goal.invariant-loop-place
invariant-loop-place l = (l.place ≤ 14) × (l.out ≡ turns (match_place l.distinct l.having l.knowing l.kinds) l.place (table_of 896 (λ i. 0)))
