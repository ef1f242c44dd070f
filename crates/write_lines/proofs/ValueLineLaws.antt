-- The bytes of a line are stored one after the other.
-- Assumes nothing.
use Rattle.std.specs.Prelude.{ℕ, ◌%◌, ◌≤◌, ◌<◌, length, set, Bool, true, false, List, [], ◌∷◌, ◌≡◌, refl}
use Rattle.std.proofs.Common.{eq-eqb, ne_eqb, lt-ltb, le-ltb, sym, ap, ap₂, ◌∙◌, arith}
use Rattle.std.proofs.lemmas.List.Edits.{sets-eq}
use Rattle.std.proofs.lemmas.Bool.{false≢true}
use Rattle.files.specs.Bytes.{spread}
use Rattle.files.specs.RuleFile.{value_byte}
use Rattle.write_lines.specs.Writing.{wrote}
use Rattle.write_lines.proofs.WritingLaws.{length-wrote}
use Rattle.policy.specs.Rules.{Which, user, resource}
use Rattle.mine_theory.specs.Lines.RuleLines.{value_bytes}
use Rattle.sets.specs.Tests.{Is}
use Rattle.role_record.specs.Places.{place_side, place_attribute}

-- one byte
pub store_one : (a : ℕ) (o : List ℕ) → 1 ≤ length o → set o 0 a ≡ wrote (a ∷ []) o
store_one a o h = sets-eq (a ∷ []) o 0 h

-- two bytes
pub store_two : (a b : ℕ) (o : List ℕ) → 2 ≤ length o → set (set o 0 a) 1 b ≡ wrote (a ∷ b ∷ []) o
store_two a b o h = sets-eq (a ∷ b ∷ []) o 0 h

-- three bytes
pub store_three : (a b c : ℕ) (o : List ℕ) → 3 ≤ length o → set (set (set o 0 a) 1 b) 2 c ≡ wrote (a ∷ b ∷ c ∷ []) o
store_three a b c o h = sets-eq (a ∷ b ∷ c ∷ []) o 0 h

-- four bytes
pub store_four : (a b c d : ℕ) (o : List ℕ) → 4 ≤ length o → set (set (set (set o 0 a) 1 b) 2 c) 3 d ≡ wrote (a ∷ b ∷ c ∷ d ∷ []) o
store_four a b c d o h = sets-eq (a ∷ b ∷ c ∷ d ∷ []) o 0 h

-- ten bytes
pub store_ten : (a b c d e f g h i j : ℕ) (o : List ℕ) → 10 ≤ length o
    → set (set (set (set (set (set (set (set (set (set o 0 a) 1 b) 2 c) 3 d) 4 e) 5 f) 6 g) 7 h) 8 i) 9 j ≡ wrote (a ∷ b ∷ c ∷ d ∷ e ∷ f ∷ g ∷ h ∷ i ∷ j ∷ []) o
store_ten a b c d e f g h i j o l = sets-eq (a ∷ b ∷ c ∷ d ∷ e ∷ f ∷ g ∷ h ∷ i ∷ j ∷ []) o 0 l

-- and as many as there were
pub ten_length : (a b c d e f g h i j : ℕ) (o : List ℕ) → 10 ≤ length o → length (set (set (set (set (set (set (set (set (set (set o 0 a) 1 b) 2 c) 3 d) 4 e) 5 f) 6 g) 7 h) 8 i) 9 j) ≡ length o
ten_length a b c d e f g h i j o l = ap length (store_ten a b c d e f g h i j o l) ∙ length-wrote (a ∷ b ∷ c ∷ d ∷ e ∷ f ∷ g ∷ h ∷ i ∷ j ∷ []) o l

-- the attribute of a place is 255 at the seventh of a side
pub attribute-own : (i : ℕ) → i % 7 ≡ 6 → 255 ≡ place_attribute i
attribute-own i h = rw (eq-eqb (i % 7) 6 h) refl

-- and its number at the others
pub attribute-other : (i : ℕ) → (i % 7 ≡ 6 → ⊥) → i % 7 ≡ place_attribute i
attribute-other i h = rw (ne_eqb (i % 7) 6 h) refl

-- the command byte at a user's place
pub command-user : (i : ℕ) (set b : Bool) → i < 7 → set ≡ b → value_byte user b ≡ value_byte (place_side i) set
command-user i set b h e = rw (lt-ltb i 7 h, e) refl

-- and at a resource's
pub command-resource : (i : ℕ) (set b : Bool) → 7 ≤ i → set ≡ b → value_byte resource b ≡ value_byte (place_side i) set
command-resource i set b h e = rw (le-ltb i 7 h, e) refl

-- it is a byte
pub command-byte : (w : Which) (set : Bool) → value_byte w set < 256
command-byte user false = omega arith
command-byte user true = omega arith
command-byte resource false = omega arith
command-byte resource true = omega arith

module _ (w : Which) (a v : ℕ) where
  -- the line of a set has ten bytes
  pub ten_room : (set : Bool) (n : ℕ) → Is set → length (value_bytes w set a v) ≤ n → 10 ≤ n
  ten_room true n e h = h
  ten_room false n e h = absurd (false≢true e)

  -- the line of a single value has four
  pub four_room : (set : Bool) (n : ℕ) → set ≡ false → length (value_bytes w set a v) ≤ n → 4 ≤ n
  four_room true n e h = absurd (false≢true (sym e))
  four_room false n e h = h

  module _ (command x : ℕ) (out o : List ℕ) where
    -- the line of a set is written
    pub ten_written : (set : Bool) → Is set → command ≡ value_byte w set → x ≡ a → out ≡ wrote (command ∷ x ∷ spread 8 v) o
        → (10 ≡ length (value_bytes w set a v)) × (out ≡ wrote (value_bytes w set a v) o)
    ten_written true e p q h = (refl, h ∙ ap₂ (λ (y z : ℕ). wrote (y ∷ z ∷ spread 8 v) o) p q)
    ten_written false e p q h = absurd (false≢true e)

    -- the line of a single value is written
    pub four_written : (set : Bool) → set ≡ false → command ≡ value_byte w set → x ≡ a → out ≡ wrote (command ∷ x ∷ spread 2 v) o
        → (4 ≡ length (value_bytes w set a v)) × (out ≡ wrote (value_bytes w set a v) o)
    four_written true e p q h = absurd (false≢true (sym e))
    four_written false e p q h = (refl, h ∙ ap₂ (λ (y z : ℕ). wrote (y ∷ z ∷ spread 2 v) o) p q)
