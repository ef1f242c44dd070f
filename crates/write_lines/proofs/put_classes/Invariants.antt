-- The invariant: the lines of the operation sets before k are written. Assumes nothing.
use Prim.Native.Nat.{ℕ, ◌≤◌}
use lib.ListN.{get_or}
use mathlib.Core.List.{List}
use Rattle.write_lines.proofs.WritingLaws.{Runs}
use Rattle.mine_theory.specs.Lines.RuleLines.{part_bytes}
use Rattle.write_lines.proofs.put_classes.Given as goal

abbrev pub lines : List ℕ → ℕ → ℕ → List ℕ
lines list role k = part_bytes role (get_or list k 0)

abbrev pub invariant-loop-k : goal.invariant-loop-k
invariant-loop-k l = (l.k ≤ l.count) × Runs (lines l.list l.role) l.count l.initial.out l.out l.at l.k
