use lib.ListN.{length}
use Rattle.role_file.specs.RoleStateLaws.{Reached}
use Rattle.role_file.proofs.read_commands.Given as goal

abbrev pub invariant-loop-phase : goal.invariant-loop-phase
invariant-loop-phase l = Reached l.s l.rest l.f l.phase

abbrev pub decreases-loop-phase : goal.decreases-loop-phase
decreases-loop-phase l = length l.rest
