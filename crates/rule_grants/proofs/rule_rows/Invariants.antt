-- The invariant: the words before u are right. Assumes nothing.
use Prim.Native.Nat.{ℕ, ◌≤◌, ◌<◌}
use lib.ListN.{length, get_or}
use mathlib.Core.Path.{◌≡◌}
use Rattle.grant_links.specs.Linked.{row_of}
use Rattle.rule_grants.proofs.rule_rows.Given as goal

abbrev pub invariant-loop-u : goal.invariant-loop-u
invariant-loop-u l = (l.u ≤ 64) × (length l.out ≡ 64) × ((j : ℕ) → j < l.u → get_or l.out j 0 ≡ row_of l.links l.atoms l.who l.what j)
