-- The invariant: the lines of the kinds before k are written. Assumes nothing.
use Prim.Native.Nat.{◌/◌, ◌%◌, ◌≤◌}
use Rattle.write_lines.proofs.WritingLaws.{Runs}
use lib.Dec.{eqb}
use Rattle.files.specs.RoleFile.{side_by}
use Rattle.write_theory.specs.RuleTable.{kind_bytes_in}
use Rattle.write_conjuncts.proofs.put_conjuncts.Given as goal

abbrev pub invariant-loop-k : goal.invariant-loop-k
invariant-loop-k l = (l.k ≤ 4) × Runs (λ k. kind_bytes_in l.distinct l.having l.inside l.kinds l.scratch l.rule.head l.rule.kept (side_by (k / 2)) (eqb (k % 2) 1)) 4 l.initial.out l.out l.at l.k
