-- Assumes nothing.
use Rattle.grant_joins.specs.LinkTurnLaws.{joins-turned, joins-straight}
use Rattle.grant_joins.proofs.joins.Goals as goal

pub returns-then-turned : goal.returns-then-turned
returns-then-turned c =
    let a = c.args in
    joins-turned a.left a.right a.turned a.v a.w c.if-turned.true c.fits.ensures

pub returns : goal.returns
returns c =
    let a = c.args in
    joins-straight a.left a.right a.turned a.v a.w c.if-turned.false c.fits-2.ensures
