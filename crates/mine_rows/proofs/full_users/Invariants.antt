-- The invariant: the set has the users before u that have all resources. Assumes nothing.
use Prim.Native.Nat.{◌≤◌}
use mathlib.Core.Path.{◌≡◌}
use Rattle.mine_corners.specs.Pairing.{words_in}
use Rattle.sets.specs.Sets.{mask_of}
use Rattle.mine_rows.specs.Rows.{is_full}
use Rattle.mine_rows.proofs.full_users.Given as goal

abbrev pub invariant-loop-u : goal.invariant-loop-u
invariant-loop-u l = (l.u ≤ 64) × (l.m ≡ mask_of l.u (is_full l.rows (words_in l.g)))
