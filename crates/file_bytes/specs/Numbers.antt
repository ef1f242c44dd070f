-- Numbers in the bytes of a file.
-- Assumes nothing.
use Rattle.std.specs.Prelude.{ℕ, zero, suc, ◌+◌, ◌*◌, get_or, List, [], ◌∷◌}

-- the number in w bytes from place i on, low byte first; 0 past the end
abbrev pub number_at : ℕ → List ℕ → ℕ → ℕ
number_at zero l i = 0
number_at (suc w) l i = get_or l i 0 + 256 * number_at w l (suc i)

abbrev pub total_of : List ℕ → ℕ
total_of [] = 0
total_of (w ∷ ws) = w + total_of ws

abbrev pub numbers_at : List ℕ → List ℕ → ℕ → List ℕ
numbers_at [] l i = []
numbers_at (w ∷ ws) l i = number_at w l i ∷ numbers_at ws l (i + w)
