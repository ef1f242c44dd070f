-- Assumes nothing.
use Prim.Native.Nat.{◌/◌, ◌%◌}
use lib.ListN.{get_or, set}
use mathlib.Core.Path.{ap}
use Rattle.mine_heads.specs.HeadLaws.{mark_out}
use Rattle.mine_heads.proofs.unmark.Goals as goal

pub returns : goal.returns
returns c =
    let a = c.args in
    ap (set a.heads.now (a.j / 64)) (mark_out (get_or a.heads.now (a.j / 64) 0) (a.j % 64) c.with.ensures c.without.ensures)
