-- The checksum of what mining answers and writes.
-- Assumes nothing.
use Rattle.std.specs.Prelude.{ℕ, zero, suc, ◌+◌, ◌%◌, ◌^◌, List, [], ◌∷◌}
use Rattle.file_bytes.specs.Numbers.{number_at}
use Rattle.sets.specs.Tests.{sum}

abbrev pub plus : ℕ → ℕ → ℕ
plus a b = (a + b) % 2 ^ 64

-- the numbers of an answer: the length, the counts and the cost behind the 0 added up, or a refusal's number
unfoldable pub weight_of : List ℕ → ℕ
weight_of [] = 0
weight_of (n ∷ []) = n
weight_of (n ∷ v ∷ vs) = sum (λ x. x) (v ∷ vs) % 2 ^ 64

-- what a turn comes to: its numbers, which turn it is, and the byte at the turn's place in the output memory
abbrev pub sample_of : List ℕ → List ℕ → ℕ → ℕ
sample_of numbers memory t = plus (plus (weight_of numbers) t) (number_at 1 memory t)

-- the output memory after so many turns, each of which changes it
abbrev pub memory_after : (List ℕ → List ℕ) → List ℕ → ℕ → List ℕ
memory_after turned memory zero = memory
memory_after turned memory (suc n) = turned (memory_after turned memory n)

-- the sum over the turns below n
abbrev pub total : (ℕ → ℕ) → ℕ → ℕ
total f zero = 0
total f (suc n) = plus (total f n) (f n)
