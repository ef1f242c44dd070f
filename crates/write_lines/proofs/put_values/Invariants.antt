-- The invariant: the lines of the values before k are written. Assumes nothing.
use Prim.Native.Nat.{ℕ, ◌≤◌}
use lib.ListN.{get_or}
use mathlib.Core.Bool.{Bool}
use mathlib.Core.List.{List}
use Rattle.write_lines.proofs.WritingLaws.{Runs}
use Rattle.mine_theory.specs.Lines.RuleLines.{value_bytes}
use Rattle.role_record.specs.Places.{place_side, place_attribute}
use Rattle.write_lines.proofs.put_values.Given as goal

abbrev pub lines : List ℕ → ℕ → Bool → ℕ → List ℕ
lines list place set k = value_bytes (place_side place) set (place_attribute place) (get_or list k 0)

abbrev pub invariant-loop-k : goal.invariant-loop-k
invariant-loop-k l = (l.k ≤ l.count) × Runs (lines l.list l.place l.set) l.count l.initial.out l.out l.at l.k
