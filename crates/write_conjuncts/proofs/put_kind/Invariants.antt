-- The invariant: the lines of the places before j are written. Assumes nothing.
use Prim.Native.Nat.{◌+◌, ◌*◌, ◌≤◌}
use Rattle.write_lines.proofs.WritingLaws.{Runs}
use Rattle.write_theory.specs.RuleTable.{place_bytes_in}
use Rattle.role_record.specs.Places.{place_side}
use Rattle.write_conjuncts.proofs.put_kind.Given as goal

abbrev pub invariant-loop-j : goal.invariant-loop-j
invariant-loop-j l = (l.j ≤ 7) × Runs (λ j. place_bytes_in l.distinct l.having l.inside l.kinds l.scratch l.rule.head l.rule.kept (place_side (7 * l.side + j)) l.set (7 * l.side + j)) 7 l.initial.out l.out l.at l.j
