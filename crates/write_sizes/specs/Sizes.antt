-- How many bytes the lines of a conjunct have and what they cost, in the steps in which code counts them.
-- Assumes nothing.
use Rattle.std.specs.Prelude.{ℕ, ◌*◌, length, Bool, cond, List}
use Rattle.role_record.specs.Places.{set_place}
use Rattle.write_theory.specs.RuleLists.{side_place, listed_at}
use Rattle.sets.specs.Sets.{bit, size}
use Rattle.sets.specs.Tests.{up_to, sum}

-- the bytes of the lines that list some values, sets or singles
unfoldable pub lines_long : Bool → List ℕ → ℕ
lines_long set values = cond set 10 4 * length values

-- what they cost
unfoldable pub lines_cost : Bool → List ℕ → ℕ
lines_cost set values = cond set (sum size values) (length values)

-- the bytes of the lines of the conjunct at a place; none where none is kept
unfoldable pub place_long_in : (distinct having inside kinds : List ℕ) → List ℕ → (head kept : ℕ) → ℕ → ℕ
place_long_in distinct having inside kinds t head kept i = cond (bit kept i) (lines_long (set_place kinds i) (listed_at distinct having inside t head i)) 0

-- and of those of a side
unfoldable pub side_long_in : (distinct having inside kinds : List ℕ) → List ℕ → (head kept : ℕ) → ℕ → ℕ
side_long_in distinct having inside kinds t head kept side = sum (λ j. place_long_in distinct having inside kinds t head kept (side_place side j)) (up_to 7)
