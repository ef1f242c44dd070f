-- The invariant: what is counted of the parts before i. Assumes nothing.
use Rattle.write_measure.specs.MeasureLaws.{Counted}
use borrow.Author.Rules.{rules}
use Rattle.write_measure.proofs.measure.Given as goal

abbrev pub invariant-loop-i : goal.invariant-loop-i
invariant-loop-i l = Counted l.kept l.distinct l.having l.inside l.kinds l.permissions l.operations l.starts l.scratch l.bytes l.rules l.sums l.i
