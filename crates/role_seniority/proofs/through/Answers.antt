-- Assumes nothing.
use mathlib.Core.Path.{sym, ◌∙◌}
use Rattle.role_seniority.specs.ClosureLaws.{through_in, through_out}
use Rattle.role_seniority.proofs.through.Goals as goal

pub returns-then-has : goal.returns-then-has
returns-then-has c =
    through_in c.args.own c.args.others c.args.n _ (sym c.has.ensures ∙ c.if-has.true) c.union.ensures

pub returns-else-has : goal.returns-else-has
returns-else-has c =
    through_out c.args.own c.args.others c.args.n c.ranges.own.fits (sym c.has.ensures ∙ c.if-has.false)
