-- The invariant: reading on from here gives the heading. Assumes nothing.
use Rattle.std.proofs.Common.{length}
use Rattle.rule_headings.specs.HeadingLaws.{Reading}
use Rattle.rule_headings.proofs.heading_of.Given as goal

abbrev pub invariant-loop-line : goal.invariant-loop-line
invariant-loop-line l = Reading l.s l.h l.rest

abbrev pub decreases-loop-line : goal.decreases-loop-line
decreases-loop-line l = length l.rest
