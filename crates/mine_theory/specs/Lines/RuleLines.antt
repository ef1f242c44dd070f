-- The lines of a mined rule in the order of the file, from its words and the set of its places.
-- Assumes nothing.
use Rattle.std.specs.Prelude.{ℕ, ◌+◌, ◌*◌, ◌/◌, ◌%◌, eqb, Bool, true, false, cond, ◌&&◌, List, [], ◌∷◌, ◌++◌, map}
use Rattle.files.specs.Bytes.{spread}
use Rattle.files.specs.RuleFile.{Lines, precedes, value, operations, link, part, level, value_byte}
use Rattle.policy.specs.Covering.{values_of}
use Rattle.policy.specs.Rules.{Which, by, Setting, user, resource}
use Rattle.policy.specs.Thinning.{trim}
use Rattle.sets.specs.Sets.{bit, mask_of}
use Rattle.sets.specs.Sorted.{sort}
use Rattle.sets.specs.Tests.{iff, keep, each, only, up_to}
use Rattle.mine_theory.specs.Words.Words.{Words, members_of}
use Rattle.role_record.specs.Places.{place_side, place_attribute}

-- the place of a side's attribute number j, with 255 as number 6
abbrev pub kind_place : Which → ℕ → ℕ
kind_place w j = 7 * by w 0 1 + j

-- the lines 27: the atom over the attributes a and b has the number 6 * a + b
unfoldable pub atom_lines : ℕ → Lines
atom_lines m = each (λ j. only (bit m (14 + j)) (link (j / 6) (j % 6))) (up_to 36)

module _ (P : Setting) where
  -- the values that the condition at a place below 14 lists, as written
  unfoldable pub written_values : Words → ℕ → List ℕ
  written_values W i =
      let vs = values_of (P.side (place_side i)) (bit (members_of W (place_side i))) (place_attribute i) in
      by (place_side i) (trim ((P.side (place_side i)).below (place_attribute i)) vs) vs

  -- the lines of the attribute at a place, listed with those of a side and kind
  abbrev pub attribute_lines : Words → Which → Bool → ℕ → Lines
  attribute_lines W w set i = map (value w set (place_attribute i)) (written_values W i)

  -- a set of places has a conjunct of this kind at a place
  abbrev pub is_kind : ℕ → Which → Bool → ℕ → Bool
  is_kind m w set i = bit m i && iff ((P.side w).is_set (place_attribute i)) set

  -- the lines 22 to 25 of one kind, sets or singles of a side; places in order, so 255 comes last
  unfoldable pub kind_lines : Words → ℕ → Which → Bool → Lines
  kind_lines W m w set = each (λ j. cond (is_kind m w set (kind_place w j)) (attribute_lines W w set (kind_place w j)) []) (up_to 7)

  -- all lines of a rule of level l, ps being its lines 28
  unfoldable pub rule_lines : Words → ℕ → ℕ → Lines → Lines
  rule_lines W m l ps =
      kind_lines W m user false
      ++ (kind_lines W m user true
      ++ (kind_lines W m resource false
      ++ (kind_lines W m resource true
      ++ (operations W.ops ∷ (atom_lines m ++ (ps ++ (level l ∷ [])))))))

-- the parts of a role, by the role that each has
abbrev pub of_role : (ℕ → ℕ) → List ℕ → ℕ → List ℕ
of_role role g k = keep (λ i. eqb (role i) k) g

-- the lines 28 of a list of parts, by the role and the operations that each has
unfoldable pub part_lines_of : (role cls : ℕ → ℕ) → List ℕ → Lines
part_lines_of role cls g = sort precedes (map (λ i. part (role i) (cls i)) g)

-- ---- one line

-- the bytes of a line 22 to 25: values of sets are 8 bytes wide, the others 2
abbrev pub value_bytes : Which → Bool → ℕ → ℕ → List ℕ
value_bytes w set a v = value_byte w set ∷ a ∷ spread (cond set 8 2) v

-- the bytes of a line 28
abbrev pub part_bytes : ℕ → ℕ → List ℕ
part_bytes k n = 0x28 ∷ k ∷ spread 2 n

-- the bytes of the line 29
abbrev pub level_bytes : ℕ → List ℕ
level_bytes l = 0x29 ∷ l ∷ []

-- ---- the lines of atoms

-- the atoms among the places of a set
abbrev pub atom_set : ℕ → ℕ
atom_set m = mask_of 36 (λ j. bit m (14 + j))

abbrev pub link_bytes : ℕ → ℕ → List ℕ
link_bytes a b = 0x27 ∷ a ∷ b ∷ []
