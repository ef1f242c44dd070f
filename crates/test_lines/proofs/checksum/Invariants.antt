-- The invariant: the sum stays below the modulus. Assumes nothing.
use Rattle.std.proofs.Common.{◌≤◌}
use Rattle.test_lines.proofs.checksum.Given as goal

abbrev pub invariant-loop-byte : goal.invariant-loop-byte
invariant-loop-byte l = l.sum ≤ 4294967290
