-- Assumes nothing.
use Rattle.std.proofs.Common.{sym, ◌∙◌}
use Rattle.fichtengarn.proofs.fichtengarn_fill.Goals as goal

pub returns : goal.returns
returns c =
    let s = c.code.ensures in
    let e = c.fill.ensures in
    (s ∙ e.0, e.1, λ file F l z es. e.2 file F l (sym s ∙ z) es)
