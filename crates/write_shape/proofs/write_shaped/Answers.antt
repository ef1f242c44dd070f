-- Assumes nothing.
use mathlib.Core.Path.{refl}
use Rattle.rule_opening.specs.Opening.{shape_in}
use Rattle.write_measure.specs.FileTable.{file_bytes}
use Rattle.write_shape.specs.ShapedFileLaws.{file-written}
use Rattle.write_shape.proofs.write_shaped.Goals as goal

pub returns : goal.returns
returns c =
    let a = c.args in
    file-written (shape_in a.sizes a.attributes.now) (file_bytes a.kept.now a.distinct.now a.having.now a.inside.now a.kinds.now a.permissions.now a.sizes.operations a.starts.now a.scratch.now) a.out.now _ refl c.requires.4 c.put_shape.ensures _ c.write_rules.ensures
