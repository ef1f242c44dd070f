use borrow.Author.Rules.{rules}
use mathlib.Core.Path.{◌∙◌}
use native.Mathlib.Omega.{arith}
use Rattle.role_seniority.specs.ClosureLaws.{closed_none, closed-turn, closed-end}
use Rattle.role_seniority.proofs.close.Goals as goal

pub loop-n-init : goal.loop-n-init
loop-n-init c = (search rules, closed_none c.args.t.now c.told-t c.fits-t)

pub loop-n-preserved : goal.loop-n-preserved
loop-n-preserved c =
    let turn = c.loop-n in
    (search rules, closed-turn c.args.t.now turn.t _ turn.n (omega arith) turn.invariant.1 c.pass.ensures)

pub returns : goal.returns
returns c =
    closed-end c.args.t.now c.loop-n.t c.loop-n.n c.args.roles c.loop-n.invariant.1 (omega arith)
