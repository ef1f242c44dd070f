-- The bytes of a mined rule, read off the tables of the loaded role file, a group in scratch memory and the places that its rule keeps:
-- the form in which code works them out.
-- Assumes nothing.
use Rattle.std.specs.Prelude.{ℕ, ◌+◌, ◌/◌, ◌%◌, eqb, Bool, true, false, cond, ◌&&◌, List, [], ◌∷◌, ◌++◌}
use Rattle.files.specs.Bytes.{spread}
use Rattle.files.specs.RoleFile.{side_by}
use Rattle.policy.specs.Rules.{Which, user, resource}
use Rattle.mine_theory.specs.Lines.RuleLines.{link_bytes, value_bytes, part_bytes, level_bytes, kind_place}
use Rattle.write_theory.specs.RuleLists.{listed_at, classes_at}
use Rattle.sets.specs.Sets.{bit}
use Rattle.sets.specs.Tests.{iff, each, up_to}
use Rattle.mine_parts.specs.Layout.{rest_at, level_in, words_at}
use Rattle.role_record.specs.Places.{place_attribute, set_place}

-- a conjunct of this kind, sets or singles, is kept at a place
unfoldable pub kept_as : List ℕ → ℕ → Bool → ℕ → Bool
kept_as kinds kept set i = bit kept i && iff (set_place kinds i) set

module _ (distinct having inside kinds : List ℕ) (t : List ℕ) (head kept : ℕ) where
  -- the bytes of the lines of a kind at a place
  unfoldable pub place_bytes_in : Which → Bool → ℕ → List ℕ
  place_bytes_in w set i = cond (kept_as kinds kept set i) (each (value_bytes w set (place_attribute i)) (listed_at distinct having inside t head i)) []

  -- the lines 22 to 25 of one kind, sets or singles of a side
  unfoldable pub kind_bytes_in : Which → Bool → List ℕ
  kind_bytes_in w set = each (λ j. place_bytes_in w set (kind_place w j)) (up_to 7)

  -- kind number k: side k / 2, and sets where k is odd
  unfoldable pub kind_bytes_at : ℕ → List ℕ
  kind_bytes_at k = kind_bytes_in (side_by (k / 2)) (eqb (k % 2) 1)

  -- the lines 22 to 25
  unfoldable pub conjunct_bytes_in : List ℕ
  conjunct_bytes_in = each kind_bytes_at (up_to 4)

-- the line 27 of an atom by its number
unfoldable pub atom_bytes_at : ℕ → ℕ → List ℕ
atom_bytes_at kept j = cond (bit kept (14 + j)) (link_bytes (j / 6) (j % 6)) []

-- the lines 27
unfoldable pub atom_bytes_in : ℕ → List ℕ
atom_bytes_in kept = each (atom_bytes_at kept) (up_to 36)

module _ (permissions : List ℕ) (operations : ℕ) (starts t : List ℕ) (head : ℕ) where
  -- the lines 28 of a role
  unfoldable pub role_bytes_in : ℕ → List ℕ
  role_bytes_in k = each (part_bytes k) (classes_at permissions operations starts t head k)

  -- the lines 28
  unfoldable pub part_bytes_in : List ℕ
  part_bytes_in = each role_bytes_in (up_to 32)

-- the line 26
unfoldable pub operation_bytes_in : List ℕ → ℕ → List ℕ
operation_bytes_in t head = 0x26 ∷ spread 2 (words_at t head).ops

-- the line 29
unfoldable pub level_bytes_in : List ℕ → ℕ → List ℕ
level_bytes_in t head = level_bytes (level_in (rest_at t head))

module _ (distinct having inside kinds permissions : List ℕ) (operations : ℕ) (starts t : List ℕ) (head kept : ℕ) where
  -- the bytes of the rule
  unfoldable pub rule_bytes_in : List ℕ
  rule_bytes_in =
      0x21
      ∷ (kind_bytes_in distinct having inside kinds t head kept user false
      ++ (kind_bytes_in distinct having inside kinds t head kept user true
      ++ (kind_bytes_in distinct having inside kinds t head kept resource false
      ++ (kind_bytes_in distinct having inside kinds t head kept resource true
      ++ ((0x26 ∷ spread 2 (words_at t head).ops) ++ (atom_bytes_in kept ++ (part_bytes_in permissions operations starts t head ++ level_bytes_in t head)))))))
