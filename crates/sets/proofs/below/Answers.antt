-- Assumes nothing.
use Rattle.sets.specs.MaskLaws.{shifted-some, below_law, below_all}
use Rattle.sets.proofs.below.Goals as goal

pub overflow_sub-result : goal.overflow_sub-result
overflow_sub-result c = shifted-some c.args.n c.if-n-lt64.true

pub returns-then-n-lt64 : goal.returns-then-n-lt64
returns-then-n-lt64 c = below_law c.args.n c.if-n-lt64.true

pub returns-else-n-lt64 : goal.returns-else-n-lt64
returns-else-n-lt64 c = below_all c.args.n c.if-n-lt64.false
