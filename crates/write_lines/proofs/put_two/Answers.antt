-- Assumes nothing.
use lib.ListN.{length-set}
use native.Mathlib.Omega.{arith}
use Rattle.write_lines.proofs.ValueLineLaws.{store_two}
use Rattle.write_lines.proofs.put_two.Goals as goal

pub bounds-out-1 : goal.bounds-out-1
bounds-out-1 c = simp length-set (omega arith)

pub returns : goal.returns
returns c = store_two _ _ c.args.out.now c.requires.0
