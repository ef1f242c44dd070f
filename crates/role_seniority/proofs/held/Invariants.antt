-- The invariant: the users are the role's own and those of its seniors below j. Assumes nothing.
use Prim.Native.Nat.{◌≤◌}
use lib.ListN.{get_or}
use mathlib.Core.Path.{◌≡◌}
use Rattle.sets.specs.Sets.{joining, bit, mask_of}
use Rattle.role_seniority.proofs.held.Given as goal

abbrev pub invariant-loop-j : goal.invariant-loop-j
invariant-loop-j l = (l.j ≤ l.roles) × (l.users ≡ mask_of 64 (joining l.own (bit l.seniors) (λ x. get_or l.assigned x 0) l.j))
