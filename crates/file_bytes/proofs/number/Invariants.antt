use Rattle.std.specs.Prelude.{◌≡◌, ◌+◌, ◌-◌, ◌^◌, ◌<◌}
use Rattle.file_bytes.specs.Numbers.{number_at}
use Rattle.file_bytes.proofs.number.Given as goal

-- the last k of the bytes
abbrev pub invariant-loop-k : goal.invariant-loop-k
invariant-loop-k g l = (l.n ≡ number_at l.k l.s (l.i + (g.row.N - l.k))) × (l.n < 256 ^ l.k)
