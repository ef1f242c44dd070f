-- The invariant: the seniors of so many roles are drawn. Assumes nothing.
use Prim.Native.Nat.{◌≤◌}
use Rattle.files.specs.Load.{times, senior_run}
use Rattle.load_draws.specs.Runs.{Ran}
use Rattle.load_roles.proofs.senior_lines.Given as goal

abbrev pub invariant-loop-junior : goal.invariant-loop-junior
invariant-loop-junior l = (l.junior ≤ l.roles) × Ran (times l.junior (senior_run l.roles)) l.initial.d l.initial.out l.out l.d
