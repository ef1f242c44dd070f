-- Numbers in digits.
-- Assumes nothing.
use Rattle.std.specs.Prelude.{ℕ, ◌+◌, ◌-◌, ◌*◌, min, leb, ltb, Bool, cond, ◌&&◌, List, [], ◌∷◌, Option, Some, None}

abbrev pub is_within : ℕ → ℕ → ℕ → Bool
is_within n low high = leb low n && leb n high

-- the number n with these digits behind it; the digits are the bytes 48 to 57. A number above the last that is told apart is taken for the one
-- behind that
abbrev pub read_digits : (last n : ℕ) → List ℕ → Option ℕ
read_digits last n [] = Some n
read_digits last n (c ∷ s) = let r = read_digits last (min (10 * n + (c - 48)) (last + 1)) s in cond (is_within c 48 57) r None

-- one digit or more, and nothing else
unfoldable pub number_in : (last : ℕ) → List ℕ → Option ℕ
number_in last [] = None
number_in last (c ∷ s) = read_digits last 0 (c ∷ s)

-- a hexadecimal digit: 0 to 9 are the bytes 48 to 57, A to F the bytes 65 to 70
abbrev pub hex_digit : ℕ → ℕ
hex_digit n = cond (ltb n 10) (48 + n) (55 + n)
