-- A rule's lines summed up: what is kept of an open rule while it is read, as a function of its lines.
-- Assumes nothing.
use Rattle.std.specs.Prelude.{ℕ, ◌+◌, ◌*◌, eqb, ltb, length, get_or, set, Bool, false, List}
use Rattle.files.specs.RuleFile.{RuleCommand, Lines, values_in, reshapes, opens, value, operations, link, part, level, ends}
use Rattle.role_record.specs.Places.{place_side, place_attribute}
use Rattle.role_record.specs.Record.{table_of}
use Rattle.policy.specs.Rules.{Setting, meets}
use Rattle.sets.specs.Sets.{narrowing, bit, mask_of}
use Rattle.sets.specs.Tests.{any}

module _ (P : Setting) (ls : Lines) where
  -- the values listed for the attribute of a place
  unfoldable pub values_for : ℕ → List ℕ
  values_for i = values_in P ls (place_side i) (place_attribute i)

  -- who meets one of them
  unfoldable pub met_for : ℕ → ℕ
  met_for i = mask_of (P.side (place_side i)).count (meets (P.side (place_side i)) (place_attribute i) (values_for i))

  unfoldable pub met_table : List ℕ
  met_table = table_of 14 met_for

  -- the places that have values listed
  unfoldable pub asked_places : ℕ
  asked_places = mask_of 14 (λ i. ltb 0 (length (values_for i)))

-- an atom's number among the 36
abbrev pub is_atom : ℕ → RuleCommand → Bool
is_atom i reshapes = false
is_atom i opens = false
is_atom i (value w set a v) = false
is_atom i (operations m) = false
is_atom i (link a b) = eqb i (6 * a + b)
is_atom i (part k m) = false
is_atom i (level x) = false
is_atom i ends = false

unfoldable pub atom_places : Lines → ℕ
atom_places ls = mask_of 36 (λ i. any (is_atom i) ls)

-- ---- the tests

-- who, of that many on side 0 or 1, meets all the conjuncts of the side
unfoldable pub met_by_all : List ℕ → ℕ → ℕ → ℕ → ℕ
met_by_all met asked side count = mask_of 64 (narrowing (mask_of 64 (λ x. ltb x count)) (λ i. bit asked (7 * side + i)) (λ i. get_or met (7 * side + i) 0) 7)
