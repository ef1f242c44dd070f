-- The invariant: the sum is that of the turns passed. Assumes nothing.
use Rattle.std.proofs.Common.{◌≡◌, ◌≤◌}
use Rattle.files.specs.Answer.{map_answer}
use Rattle.files.specs.RoleFile.{read_roles}
use Rattle.role_record.specs.Record.{record_of}
use Rattle.bench_read.specs.ReadChecksum.{sample_of, total}
use Rattle.bench_read.proofs.checksum.Given as goal

abbrev pub invariant-loop-turn : goal.invariant-loop-turn
invariant-loop-turn l = (l.turn ≤ l.turns) × (l.sum ≡ total (sample_of (map_answer record_of (read_roles 2 l.s))) l.turn)
