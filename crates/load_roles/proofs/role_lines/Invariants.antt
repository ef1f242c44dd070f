-- The invariant: the users and permissions of so many roles are drawn. Assumes nothing.
use Prim.Native.Nat.{◌≤◌}
use Rattle.files.specs.Load.{times, role_run}
use Rattle.load_draws.specs.Runs.{Ran}
use Rattle.load_roles.proofs.role_lines.Given as goal

abbrev pub invariant-loop-role : goal.invariant-loop-role
invariant-loop-role l = (l.role ≤ l.roles) × Ran (times l.role (role_run l.users l.resources l.operations)) l.initial.d l.initial.out l.out l.d
