-- The invariant: what is counted and the parts of the roles that are left are all parts. Assumes nothing.
use Rattle.write_sizes.specs.RuleSizeLaws.{part_count, Adding}
use Rattle.write_sizes.proofs.count_parts.Given as goal

abbrev pub invariant-loop-role : goal.invariant-loop-role
invariant-loop-role l = Adding (part_count l.permissions l.operations l.starts l.scratch l.head) l.n l.role-iterator.rest
