-- The invariant: what is left, spread over the table as it is, gives the answer. Assumes nothing.
use Prim.Native.Nat.{◌^◌, ◌<◌}
use lib.ListN.{length}
use mathlib.Core.Path.{◌≡◌}
use Rattle.grant_joins.specs.Tables.{spread_of}
use Rattle.grant_joins.proofs.spread.Given as goal

abbrev pub invariant-loop-y : goal.invariant-loop-y
invariant-loop-y l = (l.y-iterator.rest < 2 ^ 64) × (length l.out ≡ length l.initial.out) × (spread_of (length l.initial.out) l.block l.y-iterator.rest l.word l.out ≡ spread_of (length l.initial.out) l.block l.members l.word l.initial.out)
