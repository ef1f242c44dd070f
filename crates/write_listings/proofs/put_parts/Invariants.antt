-- The invariant: the lines of all roles are written but for those that are left. Assumes nothing.
use Rattle.write_roles.specs.RoleVisitLaws.{Visits}
use Rattle.write_theory.specs.RuleTable.{role_bytes_in}
use Rattle.write_listings.proofs.put_parts.Given as goal

abbrev pub invariant-loop-k : goal.invariant-loop-k
invariant-loop-k l = Visits (role_bytes_in l.permissions l.operations l.starts l.scratch l.rule.head) 32 l.initial.out l.out l.at l.k-iterator.rest
