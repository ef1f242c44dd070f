-- Bytes as 01 writes them: `hex "01 02 0F"` is the list of these three bytes.
-- Assumes nothing.
use Prim.Native.Char.{Char}
use Rattle.std.specs.Prelude.{ℕ, ◌+◌, ◌*◌, eqb, ltb, Bool, true, false, cond, ◌&&◌, List, [], ◌∷◌}
use Prim.Native.String.{String, [] as empty, ◌∷◌ as ◌then◌, find}
use Rattle.sets.specs.Tests.{all}

-- stands for what is no byte
abbrev pub no_byte : ℕ
no_byte = 256

-- a digit's value is its place here; what is no digit has no place below 16
abbrev pub digit : Char → ℕ
digit c = find "0123456789ABCDEF" (c then empty)

abbrev pub pair : Char → Char → ℕ
pair a b = cond (ltb (digit a) 16 && ltb (digit b) 16) (16 * digit a + digit b) no_byte

abbrev pub is_blank : Char → Bool
is_blank c = eqb (find " " (c then empty)) 0

-- two digits a byte, and a blank behind each byte but the last
abbrev pub spelt : String → List ℕ
spelt empty = []
spelt (a then empty) = no_byte ∷ []
spelt (a then (b then empty)) = pair a b ∷ []
spelt (a then (b then (c then s))) = cond (is_blank c) (pair a b) no_byte ∷ spelt s

abbrev pub are_bytes : List ℕ → Bool
are_bytes l = all (λ b. ltb b no_byte) l

-- A misspelt text is not taken for other bytes: `hex` of it is no list, so it has the wrong type wherever bytes are wanted.
abbrev pub Bytes : Bool → Type 0
Bytes true = List ℕ
Bytes false = Unit

abbrev pub bytes : (ok : Bool) → List ℕ → Bytes ok
bytes true l = l
bytes false l = tt

abbrev pub hex : (s : String) → Bytes (are_bytes (spelt s))
hex s = bytes (are_bytes (spelt s)) (spelt s)
