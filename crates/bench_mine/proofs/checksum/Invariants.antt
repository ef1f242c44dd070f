-- The invariant: the sum is that of the turns passed, the output memory is what they leave, and what is lent keeps its length. Assumes nothing.
use Rattle.std.proofs.Common.{◌≡◌, ℕ, suc, ◌≤◌, List, length}
use Rattle.files.specs.Answer.{told}
use Rattle.files.specs.Calls.{count_values, mine_answer, mine_output}
use Rattle.policy.specs.Cost.{four_ones}
use Rattle.bench_mine.specs.MineChecksum.{sample_of, memory_after, total}
use Rattle.bench_mine.proofs.checksum.Given as goal

-- the output memory after so many turns, and what turn t comes to
abbrev pub left : List ℕ → List ℕ → ℕ → List ℕ → ℕ → List ℕ
left file cuts words out = memory_after (mine_output 2 file cuts words) out

abbrev pub turned : List ℕ → List ℕ → ℕ → List ℕ → ℕ → ℕ
turned file cuts words out t = sample_of (told count_values (mine_answer 2 file cuts four_ones words (length out))) (left file cuts words out (suc t)) t

abbrev pub invariant-loop-turn : goal.invariant-loop-turn
invariant-loop-turn l = (l.turn ≤ l.turns) × (length l.scratch ≡ length l.initial.scratch) × (length l.out ≡ length l.initial.out) × (l.out ≡ left l.file l.cuts (length l.initial.scratch) l.initial.out l.turn) × (l.sum ≡ total (turned l.file l.cuts (length l.initial.scratch) l.initial.out) l.turn)
