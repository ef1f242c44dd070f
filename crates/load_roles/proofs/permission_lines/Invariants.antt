-- The invariant: the permissions on so many resources are drawn. Assumes nothing.
use Prim.Native.Nat.{◌≤◌}
use Rattle.files.specs.Load.{times, resource_run}
use Rattle.load_draws.specs.Runs.{Ran}
use Rattle.load_roles.proofs.permission_lines.Given as goal

abbrev pub invariant-loop-resource : goal.invariant-loop-resource
invariant-loop-resource l = (l.resource ≤ l.resources) × Ran (times l.resource (resource_run l.operations l.role)) l.initial.d l.initial.out l.out l.d
