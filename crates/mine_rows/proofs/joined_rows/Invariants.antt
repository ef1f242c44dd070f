-- The invariant: narrowing the rows by the atoms that are left gives the answer. The atoms left fall. Assumes nothing.
use Prim.Native.Nat.{ℕ, ◌^◌, ◌<◌}
use lib.ListN.{length}
use mathlib.Core.Path.{◌≡◌}
use Rattle.sets.specs.Sets.{bit}
use Rattle.sets.specs.Tests.{Is}
use Rattle.mine_rows.specs.RowLaws.{Narrows}
use Rattle.mine_rows.proofs.joined_rows.Given as goal

abbrev pub invariant-loop-rest : goal.invariant-loop-rest
invariant-loop-rest l = (l.rest < 2 ^ 64) × (length l.out ≡ 64) × ((i : ℕ) → Is (bit l.rest i) → i < 36) × Narrows l.links l.atoms l.out l.rest

abbrev pub decreases-loop-rest : goal.decreases-loop-rest
decreases-loop-rest l = l.rest
