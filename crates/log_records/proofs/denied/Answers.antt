-- Assumes nothing.
use mathlib.Core.Bool.{true, false}
use mathlib.Core.Path.{sym, ◌∙◌}
use Rattle.grant_grids.specs.Grid.{in_grid}
use Rattle.log_records.specs.RecordLaws.{denial_by}
use Rattle.log_records.proofs.denied.Goals as goal

pub returns-then-has : goal.returns-then-has
returns-then-has c =
    let a = c.args in
    denial_by a.log.now a.i _ _ _ c.number-user.ensures c.number-resource.ensures c.number-operation.ensures (in_grid a.grid.now) true (sym c.if-has.true ∙ c.has.ensures)

pub returns : goal.returns
returns c =
    let a = c.args in
    denial_by a.log.now a.i _ _ _ c.number-user.ensures c.number-resource.ensures c.number-operation.ensures (in_grid a.grid.now) false (sym c.if-has.false ∙ c.has.ensures)
