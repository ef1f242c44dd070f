-- The lowest of the four levels that passes a test.
-- Assumes nothing.
use Rattle.std.specs.Prelude.{ℕ, zero, suc, Bool, cond}

-- the first from k on, of n, that passes; k + n if none does
abbrev pub lowest_from : (ℕ → Bool) → ℕ → ℕ → ℕ
lowest_from f k zero = k
lowest_from f k (suc n) = let r = lowest_from f (suc k) n in cond (f k) k r

unfoldable pub lowest : (ℕ → Bool) → ℕ
lowest f = lowest_from f 0 3
