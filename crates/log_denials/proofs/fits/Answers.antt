-- Assumes nothing.
use Rattle.log_denials.specs.DenialsLaws.{none-fits, some_fit}
use Rattle.log_denials.proofs.fits.Goals as goal

pub returns-then-window-eq0 : goal.returns-then-window-eq0
returns-then-window-eq0 c = none-fits _ c.if-window-eq0.true

pub returns : goal.returns
returns c = some_fit _ c.if-window-eq0.false
