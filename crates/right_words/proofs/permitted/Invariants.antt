-- The invariant: what the roles that are left are permitted, joined to what is found, gives the answer.
use Prim.Native.Nat.{ℕ, ◌^◌, ◌<◌}
use lib.ListN.{get_or}
use mathlib.Core.List.{List}
use mathlib.Core.Path.{◌≡◌}
use Rattle.right_words.specs.Rights.{permitted_by}
use Rattle.role_record.specs.Cells.{permission_at}
use Rattle.sets.specs.Sets.{joining, bit, mask_of}
use Rattle.right_words.proofs.permitted.Given as goal

abbrev pub own : List ℕ → ℕ → ℕ → ℕ
own permissions o k = get_or permissions (permission_at k o) 0

abbrev pub invariant-loop-k : goal.invariant-loop-k
invariant-loop-k l = (l.all < 2 ^ 64) × (l.k-iterator.rest < 2 ^ 32) × (mask_of 64 (joining l.all (bit l.k-iterator.rest) (own l.permissions l.operation) 64) ≡ permitted_by l.fn.held l.permissions l.operation)
