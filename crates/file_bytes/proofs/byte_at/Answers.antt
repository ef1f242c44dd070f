use native.Mathlib.Omega.{arith}
use lib.ListN.{get_or-eq_default}
use Rattle.file_bytes.proofs.byte_at.Goals as goal

pub overflow_cast-result : goal.overflow_cast-result
overflow_cast-result c = omega (arith, c.shared_slice_known-1.given c.args.i)

pub returns-then-i-s : goal.returns-then-i-s
returns-then-i-s c = omega (arith, c.shared_slice_known-1.given c.args.i)

pub returns-else-i-s : goal.returns-else-i-s
returns-else-i-s c = let e = get_or-eq_default c.args.s.now 0 c.if-i-s.false in omega arith
