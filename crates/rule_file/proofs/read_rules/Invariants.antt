-- Assumes nothing.
use Prim.Native.Nat.{◌-◌}
use lib.ListN.{length}
use Rattle.policy.specs.Policy.{Policy}
use Rattle.rule_reading.proofs.RuleStateLaws.{State}
use Rattle.rule_reading.specs.Turns.{Tabled}
use Rattle.rule_file.proofs.read_rules.Given as goal

abbrev pub invariant-loop-w : goal.invariant-loop-w
invariant-loop-w l = (F : Policy) → Tabled F l.f l.links → State F l.rules l.k l.met l.listed l.grid l.seen l.again l.at

abbrev pub decreases-loop-w : goal.decreases-loop-w
decreases-loop-w l = length l.rules - l.at
