-- Assumes nothing.
use Rattle.log_windows.specs.CountingLaws.{none_leaves, first_leaves}
use Rattle.log_windows.proofs.leaving.Goals as goal

pub returns-then-i-window : goal.returns-then-i-window
returns-then-i-window c = none_leaves _ _ _ c.if-i-window.true

pub returns : goal.returns
returns c = first_leaves _ _ _ _ c.if-i-window.false c.denied.ensures
