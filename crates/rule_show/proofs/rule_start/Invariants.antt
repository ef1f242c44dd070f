-- The invariant: from this place on the rule begins at the mark number `ahead`. Assumes nothing.
use Prim.Native.Nat.{◌-◌}
use lib.ListN.{length}
use Rattle.files.proofs.RulePartLaws.{Seeking}
use Rattle.rule_show.proofs.rule_start.Given as goal

abbrev pub invariant-loop-at : goal.invariant-loop-at
invariant-loop-at l = Seeking 2 l.rules l.n l.ahead l.at

abbrev pub decreases-loop-at : goal.decreases-loop-at
decreases-loop-at l = length l.rules - l.at
