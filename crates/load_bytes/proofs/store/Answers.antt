-- A store behind the end changes nothing. Assumes nothing.
use lib.Seq.{set_out}
use mathlib.Core.Path.{sym}
use native.Mathlib.Omega.{arith}
use Rattle.load_bytes.proofs.store.Goals as goal

pub returns-else-at-out : goal.returns-else-at-out
returns-else-at-out c = sym (set_out c.args.out.now c.args.at c.args.b (omega arith))
