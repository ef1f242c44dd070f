-- The checksum of the verdicts.
-- Assumes nothing.
use Rattle.std.specs.Prelude.{ℕ, zero, suc, ◌+◌, ◌%◌, ◌^◌, List, [], ◌∷◌}
use Rattle.sets.specs.Tests.{sum}

abbrev pub plus : ℕ → ℕ → ℕ
plus a b = (a + b) % 2 ^ 64

-- the numbers of an answer: the verdict's number and values behind the 0 added up, or a refusal's number behind those of the verdicts
unfoldable pub weight_of : List ℕ → ℕ
weight_of [] = 0
weight_of (n ∷ []) = plus 4 n
weight_of (n ∷ v ∷ vs) = sum (λ x. x) (v ∷ vs) % 2 ^ 64

abbrev pub sample_of : List ℕ → ℕ → ℕ
sample_of numbers t = plus (weight_of numbers) t

-- the sum over the turns below n
abbrev pub total : (ℕ → ℕ) → ℕ → ℕ
total f zero = 0
total f (suc n) = plus (total f n) (f n)
