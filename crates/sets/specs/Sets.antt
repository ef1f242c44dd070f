-- Sets of numbers as masks: bit n of a number says that n is in the set.
-- Assumes nothing.
use Rattle.std.specs.Prelude.{ℕ, zero, suc, ◌+◌, ◌*◌, ◌/◌, ◌%◌, ◌^◌, eqb, length, Bool, cond, ◌&&◌, ◌||◌, not}
use Rattle.std.specs.Int.Bits.{bit_and}
use Rattle.sets.specs.Tests.{imp, all, any, keep, up_to}

-- n is in the set
unfoldable pub bit : ℕ → ℕ → Bool
bit a n = eqb (a / 2 ^ n % 2) 1

-- one set holds all that the other does
unfoldable pub subset : ℕ → ℕ → Bool
subset a b = eqb (bit_and a b) a

-- the set of the numbers below n that pass a test
unfoldable pub mask_of : ℕ → (ℕ → Bool) → ℕ
mask_of zero f = 0
mask_of (suc n) f = cond (f 0) 1 0 + 2 * mask_of n (λ i. f (suc i))

-- a set less one of its members
unfoldable pub less_one : ℕ → ℕ → ℕ
less_one m y = mask_of 64 (λ k. bit m k && not (eqb k y))

-- how many there are in a set of numbers below 64
unfoldable pub size : ℕ → ℕ
size a = length (keep (bit a) (up_to 64))

-- u is in a, or in one of those sets g j, of the numbers j below n, that pass a test
abbrev pub joining : ℕ → (ℕ → Bool) → (ℕ → ℕ) → ℕ → ℕ → Bool
joining a f g n u = bit a u || any (λ j. f j && bit (g j) u) (up_to n)

-- u is in a, and in each set g j, of the numbers j below n, that is asked for
abbrev pub narrowing : ℕ → (ℕ → Bool) → (ℕ → ℕ) → ℕ → ℕ → Bool
narrowing a f g n u = bit a u && all (λ j. imp (f j) (bit (g j) u)) (up_to n)
