-- The invariant: how many of the numbers before k are listed, and how many elements their sets have. Assumes nothing.
use Prim.Native.Nat.{◌≤◌}
use Rattle.write_sizes.specs.ListSizeLaws.{Counting}
use Rattle.write_sizes.proofs.listed_size.Given as goal

abbrev pub invariant-loop-k : goal.invariant-loop-k
invariant-loop-k l = (l.k ≤ 64) × Counting l.distinct l.having l.inside l.place l.members l.n l.elements l.k
