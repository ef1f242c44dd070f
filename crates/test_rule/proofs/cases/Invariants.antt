-- The invariant: what was passed lies within what was lent. Assumes nothing.
use Rattle.std.proofs.Common.{◌≤◌, length}
use Rattle.test_rule.proofs.cases.Given as goal

abbrev pub invariant-loop : goal.invariant-loop
invariant-loop g l = l.at ≤ length l.s
