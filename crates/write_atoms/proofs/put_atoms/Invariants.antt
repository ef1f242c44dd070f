-- The invariant: the lines of all atoms are written but for those that are left. Assumes nothing.
use Rattle.write_roles.specs.RoleVisitLaws.{Visits}
use Rattle.write_theory.specs.RuleTable.{atom_bytes_at}
use Rattle.write_atoms.proofs.put_atoms.Given as goal

abbrev pub invariant-loop-j : goal.invariant-loop-j
invariant-loop-j l = Visits (atom_bytes_at l.kept) 36 l.initial.out l.out l.at l.j-iterator.rest
