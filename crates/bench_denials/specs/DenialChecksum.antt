-- The checksum of the answers.
-- Assumes nothing.
use Rattle.std.specs.Prelude.{ℕ, zero, suc, ◌+◌, ◌%◌, ◌^◌, List, [], ◌∷◌}
use Rattle.sets.specs.Tests.{sum}

abbrev pub plus : ℕ → ℕ → ℕ
plus a b = (a + b) % 2 ^ 64

-- the numbers of an answer added up: the most denials and their start, or a refusal's number
unfoldable pub weight_of : List ℕ → ℕ
weight_of [] = 0
weight_of (n ∷ []) = n
weight_of (n ∷ v ∷ vs) = sum (λ x. x) (v ∷ vs) % 2 ^ 64

abbrev pub sample_of : List ℕ → ℕ → ℕ
sample_of numbers t = plus (weight_of numbers) t

-- the sum over the turns below n
abbrev pub total : (ℕ → ℕ) → ℕ → ℕ
total f zero = 0
total f (suc n) = plus (total f n) (f n)
