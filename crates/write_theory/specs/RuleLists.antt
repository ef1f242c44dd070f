-- What a mined rule lists and what it costs, read off the tables of the policy, a group in scratch memory and the places that
-- its rule keeps: the form in which code works it out.
-- Assumes nothing.
use Rattle.std.specs.Prelude.{ℕ, ◌+◌, ◌*◌, ◌-◌, ◌<◌, eqb, ltb, length, get_or, Bool, cond, ◌&&◌, List, map, ◌≡◌}
use Rattle.mine_distinct.specs.InsideValues.{listed_by}
use Rattle.grant_parts.specs.Parts.{class_row}
use Rattle.mine_theory.specs.Lines.RuleLines.{atom_set}
use Rattle.sets.specs.Sets.{bit, mask_of, size}
use Rattle.sets.specs.Sorted.{sort}
use Rattle.sets.specs.Tests.{any, keep, from, up_to, sum}
use Rattle.mine_parts.specs.Layout.{rest_at, head_in, lead_at, words_at}
use Rattle.mine_theory.specs.Words.Words.{members_of}
use Rattle.role_record.specs.Cells.{most_operations}
use Rattle.role_record.specs.Places.{place_side, set_place}
use Rattle.write_cost.specs.declared.Sums.{Sums}

-- ---- conjuncts

-- the place of attribute number j of a side, users 0 and resources 1; 255 is number 6
abbrev pub side_place : ℕ → ℕ → ℕ
side_place side j = 7 * side + j

-- the values that the conjunct at a place lists
unfoldable pub listed_at : (distinct having inside : List ℕ) → List ℕ → ℕ → ℕ → List ℕ
listed_at distinct having inside t head i = listed_by distinct having inside i (members_of (words_at t head) (place_side i))

-- ---- parts

-- the parts of role k: those from its start on and before that of the next
abbrev pub parts_of : List ℕ → ℕ → List ℕ
parts_of starts k = from (get_or starts k 0) (get_or starts (k + 1) 0 - get_or starts k 0)

-- the operations of a part of a role
unfoldable pub class_at : List ℕ → ℕ → List ℕ → ℕ → ℕ → ℕ
class_at permissions operations t role i = class_row permissions role operations (lead_at t i)

-- the class of an operation of a role, if it is one of these; and a table with those
unfoldable pub class_among : List ℕ → (operations role members : ℕ) → ℕ → ℕ
class_among permissions operations role members o = cond (bit members o) (class_row permissions role operations o) 0

abbrev pub ClassTable : List ℕ → (operations role members : ℕ) → List ℕ → Type 0
ClassTable permissions operations role members table = (o : ℕ) → o < most_operations → get_or table o 0 ≡ class_among permissions operations role members o

-- the part is one of the group
unfoldable pub in_group : List ℕ → ℕ → ℕ → Bool
in_group t head i = eqb (head_in (rest_at t i)) head

-- it is, and operation o leads it
abbrev pub led_by : List ℕ → ℕ → ℕ → ℕ → Bool
led_by t head o i = in_group t head i && eqb (lead_at t i) o

-- the operations that lead the group's parts of a role
unfoldable pub member_set : (starts t : List ℕ) → ℕ → ℕ → ℕ
member_set starts t head k = mask_of most_operations (λ o. any (led_by t head o) (parts_of starts k))

-- the group's parts of a role
unfoldable pub parts_at : (starts t : List ℕ) → ℕ → ℕ → List ℕ
parts_at starts t head k = keep (in_group t head) (parts_of starts k)

-- the operation sets of the group's parts of a role, ascending
unfoldable pub classes_at : List ℕ → ℕ → (starts t : List ℕ) → ℕ → ℕ → List ℕ
classes_at permissions operations starts t head k = sort ltb (map (class_at permissions operations t k) (parts_at starts t head k))

-- ---- cost

module _ (distinct having inside kinds : List ℕ) (t : List ℕ) (head kept : ℕ) where
  -- what the conjunct at a place costs: the elements of its sets, or its values
  unfoldable pub place_cost_in : ℕ → ℕ
  place_cost_in i =
      cond (bit kept i) (cond (set_place kinds i) (sum size (listed_at distinct having inside t head i)) (length (listed_at distinct having inside t head i))) 0

  -- what the conjuncts of a side cost
  unfoldable pub side_cost_in : ℕ → ℕ
  side_cost_in side = sum (λ j. place_cost_in (side_place side j)) (up_to 7)

  -- what the rule's cost is made of
  unfoldable pub rule_sums_in : Sums
  rule_sums_in = record { users = side_cost_in 0; resources = side_cost_in 1; operations = size (words_at t head).ops; atoms = size (atom_set kept) }
