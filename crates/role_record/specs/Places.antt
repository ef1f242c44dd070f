-- The attributes of both sides in one row of 14 places: the six of a side, and behind them its 255.
-- Assumes nothing.
use Rattle.std.specs.Prelude.{ℕ, ◌+◌, ◌*◌, ◌/◌, ◌%◌, eqb, ltb, get_or, Bool, true, false, cond, List}
use Rattle.policy.specs.Rules.{own, Which, user, resource}
use Rattle.sets.specs.Sets.{bit}

abbrev pub place_side : ℕ → Which
place_side i = cond (ltb i 7) user resource

abbrev pub place_attribute : ℕ → ℕ
place_attribute i = cond (eqb (i % 7) 6) own (i % 7)

-- the place of an attribute of side 0 or 1
abbrev pub place_of : ℕ → ℕ → ℕ
place_of side a = 7 * side + cond (eqb a own) 6 a

-- the place is one of sets: of the 255s the users' is, the resources' is not
unfoldable pub set_place : List ℕ → ℕ → Bool
set_place kinds i = cond (eqb i 6) true (cond (eqb i 13) false (bit (get_or kinds (i / 7) 0) (i % 7)))
