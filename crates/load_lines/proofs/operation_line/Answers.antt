-- The line is put where the draw says so. Assumes nothing.
use Prim.Native.Nat.{◌%◌}
use borrow.Author.Rules.{rules}
use mathlib.Core.List.{[], ◌∷◌}
use Rattle.load_lines.specs.DrawnLineLaws.{put_drawn, put_not_drawn}
use Rattle.load_lines.proofs.operation_line.Goals as goal

pub returns-then-x-eq0 : goal.returns-then-x-eq0
returns-then-x-eq0 c =
    let a = c.args in
    put_drawn (a.x % 2) (0x06 ∷ a.role ∷ a.resource ∷ a.operation ∷ []) a.out.now _ a.at _ (search rules) c.put.ensures

pub returns : goal.returns
returns c =
    let a = c.args in
    put_not_drawn (a.x % 2) (0x06 ∷ a.role ∷ a.resource ∷ a.operation ∷ []) a.out.now a.at (search rules)
