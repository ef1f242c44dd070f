-- The invariant: the rules of the heads before i are written.
-- Assumes nothing.
use Prim.Native.Nat.{◌≤◌}
use Rattle.write_measure.specs.FileTable.{rule_at}
use Rattle.mine_groups.specs.Scratch.{all_parts}
use Rattle.write_lines.proofs.WritingLaws.{Runs}
use Rattle.write_file.proofs.write_rules.Given as goal

abbrev pub invariant-loop-i : goal.invariant-loop-i
invariant-loop-i l = (l.i ≤ l.parts) × Runs (rule_at l.kept l.distinct l.having l.inside l.kinds l.permissions l.operations l.starts l.scratch) (all_parts l.starts) l.initial.out l.out l.at l.i
