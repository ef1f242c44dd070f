-- The invariant: the table has the seniors with roles below n between them. Assumes nothing.
use Prim.Native.Nat.{◌≤◌}
use mathlib.Core.Path.{◌≡◌}
use Rattle.role_seniority.specs.Closure.{closed}
use Rattle.role_seniority.proofs.close.Given as goal

abbrev pub invariant-loop-n : goal.invariant-loop-n
invariant-loop-n l = (l.n ≤ l.roles) × (l.t ≡ closed l.initial.t l.n)
