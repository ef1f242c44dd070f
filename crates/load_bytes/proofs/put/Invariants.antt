-- The invariant: so many bytes are stored. Assumes nothing.
use Prim.Native.Nat.{◌≤◌}
use lib.ListN.{length, take}
use lib.Seq.{sets}
use mathlib.Core.Path.{◌≡◌}
use Rattle.load_bytes.proofs.put.Given as goal

abbrev pub invariant-loop-i : goal.invariant-loop-i
invariant-loop-i l = (l.i ≤ length l.bytes) × (l.n ≡ length l.bytes) × (l.out ≡ sets l.initial.out l.at (take l.i l.bytes))
