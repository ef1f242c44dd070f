-- The invariant: the set has the heads before k. Assumes nothing.
use Prim.Native.Nat.{◌+◌, ◌*◌, ◌≤◌}
use mathlib.Core.Path.{◌≡◌}
use Rattle.sets.specs.Sets.{mask_of}
use Rattle.mine_parts.specs.Layout.{is_head_at}
use Rattle.mine_heads.proofs.heads_in.Given as goal

abbrev pub invariant-loop-k : goal.invariant-loop-k
invariant-loop-k l = (l.k ≤ l.end) × (l.m ≡ mask_of l.k (λ x. is_head_at l.scratch (64 * l.word + x)))
