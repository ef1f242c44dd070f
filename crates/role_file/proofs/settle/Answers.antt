use mathlib.Core.Path.{sym, ◌∙◌}
use Rattle.role_file.specs.SettleLaws.{settled-refused, settled-done}
use Rattle.role_file.proofs.settle.Goals as goal

pub returns-then-circular : goal.returns-then-circular
returns-then-circular c = settled-refused _ _ c.close.ensures (sym c.circular.ensures ∙ c.if-circular.true)

pub returns : goal.returns
returns c = settled-done _ _ _ c.close.ensures (sym c.circular.ensures ∙ c.if-circular.false) c.holders.ensures
