-- The invariant: there are no more rules than bytes that were told, and what is left is of a legal file. Assumes nothing.
use Rattle.std.proofs.Common.{◌+◌, ◌≤◌, length}
use Rattle.rule_words.specs.TellingLaws.{Telling}
use Rattle.rule_words.proofs.tell_rules.Given as goal

abbrev pub invariant-loop-line : goal.invariant-loop-line
invariant-loop-line g l = (l.number + length l.rest ≤ length l.rules) × Telling l.number l.rest

abbrev pub decreases-loop-line : goal.decreases-loop-line
decreases-loop-line g l = length l.rest
