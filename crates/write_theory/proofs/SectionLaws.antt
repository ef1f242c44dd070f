-- The sections of a rule's bytes, in the steps in which they are written, and how long they may become.
-- Assumes nothing.
use Prim.Native.Nat.{ℕ, zero, suc, ◌+◌, ◌*◌, ◌/◌, ◌%◌, ◌≤◌, ◌<◌}
use Rattle.std.specs.Prelude.{eqb, get_or, drop, cond, ◌&&◌, ◌≡◌}
use Rattle.std.proofs.Math.ListN.{length}
use Rattle.std.proofs.Common.{length-append, sym, ◌∙◌, subst, arith}
use Rattle.std.proofs.Math.Bool.{Bool, true, false}
use Rattle.std.specs.Bool.{beq}
use mathlib.Core.List.{List, [], ◌∷◌, ◌++◌, append_assoc}
use Rattle.std.proofs.Math.Path.{refl, ap, ap₂}
use Rattle.files.specs.RoleFile.{side_by}
use Rattle.write_lines.specs.Writing.{wrote}
use Rattle.write_lines.proofs.WritingLaws.{tail_of, back_in, length-wrote, Writing, write_on, runs_list}
use Rattle.policy.specs.Rules.{Which, user, resource}
use Rattle.mine_theory.proofs.Lines.RuleBytesLaws.{value-length}
use Rattle.mine_theory.specs.Lines.RuleLines.{link_bytes, value_bytes, part_bytes, level_bytes, kind_place}
use Rattle.write_theory.proofs.ListingLaws.{listed-most, classes_most}
use Rattle.write_theory.specs.RuleLists.{listed_at, classes_at}
use Rattle.write_theory.specs.RuleTable.{kept_as, place_bytes_in, kind_bytes_in, kind_bytes_at, conjunct_bytes_in, atom_bytes_at, atom_bytes_in, role_bytes_in, part_bytes_in, level_bytes_in, operation_bytes_in, rule_bytes_in}
use Rattle.mine_parts.specs.Layout.{operations_at, rest_at, level_in}
use Rattle.sets.specs.ListLaws.{length-each, sum-each, sum-most, sum_both, from-length}
use Rattle.sets.specs.Sets.{bit}
use Rattle.sets.specs.TestLaws.{beq_iff}
use Rattle.sets.specs.Tests.{Is, iff, each, up_to}
use Rattle.role_record.specs.Cells.{most_operations}
use Rattle.role_record.specs.Places.{place_side, place_attribute, set_place}

-- bytes that were written, under another name
pub written_as : (bytes names out o : List ℕ) (r : ℕ) → bytes ≡ names → (r ≡ length bytes) × (out ≡ wrote bytes o) → (r ≡ length names) × (out ≡ wrote names o)
written_as bytes names out o r e w = (w.0 ∙ ap length e, w.1 ∙ ap (λ (l : List ℕ). wrote l o) e)

-- there is room for them
pub room_as : (bytes names : List ℕ) (n : ℕ) → bytes ≡ names → length names ≤ n → length bytes ≤ n
room_as bytes names n e h = let d = ap length e in omega arith

-- ---- conjuncts

module _ (kinds : List ℕ) (kept : ℕ) (set : Bool) (i : ℕ) where
  -- no conjunct is kept at the place
  pub kept-none : bit kept i ≡ false → false ≡ kept_as kinds kept set i
  unfolding kept_as
  kept-none e = rw e refl

  -- one is, of this kind or the other
  pub kept_kind : (b : Bool) → Is (bit kept i) → b ≡ set_place kinds i → beq b set ≡ kept_as kinds kept set i
  unfolding kept_as
  kept_kind b h e = beq_iff b set ∙ ap₂ (λ (x y : Bool). x && iff y set) (sym h) e

module _ (distinct having inside kinds : List ℕ) (t : List ℕ) (head kept : ℕ) where
  module _ (w : Which) (set : Bool) (i : ℕ) where
    -- nothing is written for a place that has no conjunct of the kind
    pub place_off : (o : List ℕ) → kept_as kinds kept set i ≡ false
        → (0 ≡ length (place_bytes_in distinct having inside kinds t head kept w set i)) × (o ≡ wrote (place_bytes_in distinct having inside kinds t head kept w set i) o)
    unfolding place_bytes_in
    place_off o e = rw e (refl, refl)

    -- else a line for each value listed
    pub place-on : (list rest : List ℕ) (n : ℕ) → Is (kept_as kinds kept set i) → n ≡ length (listed_at distinct having inside t head i) → list ≡ wrote (listed_at distinct having inside t head i) rest
        → each (λ k. value_bytes w set (place_attribute i) (get_or list k 0)) (up_to n) ≡ place_bytes_in distinct having inside kinds t head kept w set i
    unfolding place_bytes_in
    place-on list rest n h e q =
        ap₂ (λ (m : ℕ) (l : List ℕ). each (λ k. value_bytes w set (place_attribute i) (get_or l k 0)) (up_to m)) e q
        ∙ runs_list (value_bytes w set (place_attribute i)) (listed_at distinct having inside t head i) (drop (length (listed_at distinct having inside t head i)) rest)
        ∙ rw h refl

  -- the places of a kind by their numbers
  pub kind_places : (set : Bool) (side : ℕ) → side < 2
      → each (λ j. place_bytes_in distinct having inside kinds t head kept (place_side (7 * side + j)) set (7 * side + j)) (up_to 7) ≡ kind_bytes_in distinct having inside kinds t head kept (side_by side) set
  unfolding kind_bytes_in
  kind_places set zero h = refl
  kind_places set (suc zero) h = refl
  kind_places set (suc (suc n)) h = absurd (omega arith)

  -- the kinds by their numbers
  pub conjunct-kinds : each (λ k. kind_bytes_in distinct having inside kinds t head kept (side_by (k / 2)) (eqb (k % 2) 1)) (up_to 4) ≡ conjunct_bytes_in distinct having inside kinds t head kept
  unfolding conjunct_bytes_in kind_bytes_at
  conjunct-kinds = refl

-- ---- atoms

module _ (kept j : ℕ) where
  -- nothing is written for an atom that is not kept
  pub atom_off : (o : List ℕ) → bit kept (14 + j) ≡ false → (0 ≡ length (atom_bytes_at kept j)) × (o ≡ wrote (atom_bytes_at kept j) o)
  unfolding atom_bytes_at
  atom_off o e = rw e (refl, refl)

  -- the line of one that is has three bytes
  pub atom-room : (n : ℕ) → Is (bit kept (14 + j)) → length (atom_bytes_at kept j) ≤ n → 3 ≤ n
  unfolding atom_bytes_at
  atom-room n e h = go (bit kept (14 + j)) e h
    where
      go : (b : Bool) → Is b → length (cond b (link_bytes (j / 6) (j % 6)) []) ≤ n → 3 ≤ n
      go b e h = rw e at h

  -- and it is written
  pub atom-on : (out o : List ℕ) → Is (bit kept (14 + j)) → out ≡ wrote (0x27 ∷ j / 6 ∷ j % 6 ∷ []) o → (3 ≡ length (atom_bytes_at kept j)) × (out ≡ wrote (atom_bytes_at kept j) o)
  unfolding atom_bytes_at
  atom-on out o e h = rw e (refl, h)

-- ---- parts

-- a line for each operation set of a role
pub role-on : (permissions : List ℕ) (operations : ℕ) (starts t : List ℕ) (head k : ℕ) (list rest : List ℕ) (n : ℕ) → n ≡ length (classes_at permissions operations starts t head k) → list ≡ wrote (classes_at permissions operations starts t head k) rest
    → each (λ j. part_bytes k (get_or list j 0)) (up_to n) ≡ role_bytes_in permissions operations starts t head k
unfolding role_bytes_in
role-on permissions operations starts t head k list rest n e q =
    ap₂ (λ (m : ℕ) (l : List ℕ). each (λ j. part_bytes k (get_or l j 0)) (up_to m)) e q
    ∙ runs_list (part_bytes k) (classes_at permissions operations starts t head k) (drop (length (classes_at permissions operations starts t head k)) rest)

-- ---- the rule

four_joined : (a b c d r : List ℕ) → a ++ (b ++ (c ++ (d ++ r))) ≡ (a ++ (b ++ (c ++ (d ++ [])))) ++ r
four_joined a b c d r = sym
    (append_assoc a (b ++ (c ++ (d ++ []))) r
    ∙ ap (λ (l : List ℕ). a ++ l) (append_assoc b (c ++ (d ++ [])) r
    ∙ ap (λ (l : List ℕ). b ++ l) (append_assoc c (d ++ []) r
    ∙ ap (λ (l : List ℕ). c ++ l) (append_assoc d [] r))))

module _ (distinct having inside kinds permissions : List ℕ) (operations : ℕ) (starts t : List ℕ) (head kept : ℕ) where
  -- section by section
  pub rule_sections : rule_bytes_in distinct having inside kinds permissions operations starts t head kept ≡ (0x21 ∷ []) ++ (conjunct_bytes_in distinct having inside kinds t head kept ++ (operation_bytes_in t head ++ (atom_bytes_in kept ++ (part_bytes_in permissions operations starts t head ++ (level_bytes_in t head ++ [])))))
  unfolding rule_bytes_in operation_bytes_in level_bytes_in conjunct_bytes_in kind_bytes_at
  rule_sections =
      ap (λ (l : List ℕ). 0x21 ∷ l)
      (four_joined (kind_bytes_in distinct having inside kinds t head kept user false) (kind_bytes_in distinct having inside kinds t head kept user true) (kind_bytes_in distinct having inside kinds t head kept resource false) (kind_bytes_in distinct having inside kinds t head kept resource true)
      ((0x26 ∷ operations_at t head % 256 ∷ operations_at t head / 256 % 256 ∷ []) ++ (atom_bytes_in kept ++ (part_bytes_in permissions operations starts t head ++ level_bytes_in t head))))

-- the line of the operations
pub operations-line : {ops : ℕ} (t : List ℕ) (head : ℕ) → ops ≡ operations_at t head → 0x26 ∷ ops % 256 ∷ ops / 256 % 256 ∷ [] ≡ operation_bytes_in t head
unfolding operation_bytes_in
operations-line t head e = ap (λ (x : ℕ). 0x26 ∷ x % 256 ∷ x / 256 % 256 ∷ []) e

-- the line of the level, which is a byte
pub level-line : {l : ℕ} (t : List ℕ) (head : ℕ) → l ≡ level_in (rest_at t head) → (0x29 ∷ l ∷ [] ≡ level_bytes_in t head) × (l < 256)
unfolding level_bytes_in
level-line t head e = (ap level_bytes e, omega arith)

-- what opens the rule is written, at the front of the whole output
pub opened : (whole o out left e : List ℕ) → whole ≡ e ++ left → length whole ≤ length o → out ≡ wrote e o → Writing whole o out (length e) left
opened whole o out left e q h w =
    let l = ap length q ∙ length-append e left in
    record { done = e; far = refl; is = w; joined = sym q; long = ap length w ∙ length-wrote e o (omega (arith, l)); room = omega (arith, l) }

-- there is room for it
pub opening-room : (whole left : List ℕ) (n : ℕ) → whole ≡ (0x21 ∷ []) ++ left → length whole ≤ n → 1 ≤ n
opening-room whole left n q h = let l = ap length q in omega (arith, l, h)

-- what is written is within the output
pub at-within : (whole o out : List ℕ) (at : ℕ) (left : List ℕ) → Writing whole o out at left → at ≤ length out
at-within whole o out at left w = let r = w.room in let l = w.long in omega (arith, r, l)

-- a section is written in what is lent
pub section_on : (whole o out left e : List ℕ) (at k : ℕ) (tail : List ℕ) → Writing whole o out at (e ++ left) → (k ≡ length e) × (tail ≡ wrote e (tail_of out at)) → Writing whole o (back_in out at tail) (at + k) left
section_on whole o out left e at k tail w p = subst (λ (n : ℕ). Writing whole o (back_in out at tail) (at + n) left) (sym p.0) (write_on whole o out left e at tail w p.1)

-- ---- how long it may become

-- a run for each number below a bound
pub runs_most : (m : ℕ) (f : ℕ → List ℕ) (n : ℕ) → ((i : ℕ) → length (f i) ≤ m) → length (each f (up_to n)) ≤ m * n
runs_most m f n h = within (length-each f (up_to n)) (sum-most m (λ i. length (f i)) (up_to n) (λ i k. h i)) (from-length 0 n)
  where
    within : {x y z : ℕ} → x ≡ y → y ≤ m * z → z ≡ n → x ≤ m * n
    within e k d = rw (e, ← d) k

module _ (distinct having inside kinds : List ℕ) (t : List ℕ) (head kept : ℕ) where
  -- the lines of a place, be it one of sets or of single values, have at most 640 bytes
  place-most : (w : Which) (i : ℕ) → length (place_bytes_in distinct having inside kinds t head kept w false i) + length (place_bytes_in distinct having inside kinds t head kept w true i) ≤ 640
  unfolding place_bytes_in kept_as
  place-most w i =
      go (bit kept i) (set_place kinds i) (each (value_bytes w false (place_attribute i)) values_listed) (each (value_bytes w true (place_attribute i)) values_listed) (length values_listed) (listed-most distinct having inside t head i)
      (lines-length false) (lines-length true)
    where
      values_listed : List ℕ
      values_listed = listed_at distinct having inside t head i

      lines-length : (set : Bool) → length (each (value_bytes w set (place_attribute i)) values_listed) ≡ cond set 10 4 * length values_listed
      lines-length set = length-each (value_bytes w set (place_attribute i)) values_listed ∙ sum-each (cond set 10 4) (λ v. length (value_bytes w set (place_attribute i) v)) values_listed (λ v k. value-length w set (place_attribute i) v)

      go : (b set : Bool) (l m : List ℕ) (n : ℕ) → n ≤ 64 → length l ≡ 4 * n → length m ≡ 10 * n → length (cond (b && iff set false) l []) + length (cond (b && iff set true) m []) ≤ 640
      go true true l m n h p q = omega arith
      go true false l m n h p q = omega arith
      go false set l m n h p q = omega arith

  -- those of a side at most 4480
  side-most : (w : Which) → length (kind_bytes_in distinct having inside kinds t head kept w false) + length (kind_bytes_in distinct having inside kinds t head kept w true) ≤ 4480
  unfolding kind_bytes_in
  side-most w =
      within (length-each (bytes false) (up_to 7)) (length-each (bytes true) (up_to 7)) (sum_both (λ j. length (bytes false j)) (λ j. length (bytes true j)) (up_to 7))
      (sum-most 640 (λ j. length (bytes false j) + length (bytes true j)) (up_to 7) (λ j k. place-most w (kind_place w j)))
    where
      bytes : Bool → ℕ → List ℕ
      bytes set j = place_bytes_in distinct having inside kinds t head kept w set (kind_place w j)

      within : {x y p q r : ℕ} → x ≡ p → y ≡ q → p + q ≡ r → r ≤ 640 * 7 → x + y ≤ 4480
      within a b c d = omega arith

-- those of the atoms at most 108
atoms-most : (kept : ℕ) → length (atom_bytes_in kept) ≤ 108
unfolding atom_bytes_in atom_bytes_at
atoms-most kept = runs_most 3 (atom_bytes_at kept) 36 (λ j. go (bit kept (14 + j)) (j / 6) (j % 6))
  where
    go : (b : Bool) (x y : ℕ) → length (cond b (link_bytes x y) []) ≤ 3
    go true x y = omega arith
    go false x y = omega arith

-- those of the parts at most 2048
parts-most : (permissions : List ℕ) (operations : ℕ) (starts t : List ℕ) (head : ℕ) → length (part_bytes_in permissions operations starts t head) ≤ 2048
unfolding part_bytes_in role_bytes_in
parts-most permissions operations starts t head =
    runs_most 64 (role_bytes_in permissions operations starts t head) 32 (λ k.
    within (length-each (part_bytes k) (classes_at permissions operations starts t head k)) (sum-each 4 (λ n. length (part_bytes k n)) (classes_at permissions operations starts t head k) (λ n m. refl)) (classes_most permissions operations starts t head k))
  where
    within : {x y n : ℕ} → x ≡ y → y ≡ 4 * n → n ≤ most_operations → x ≤ 64
    within e d h = omega arith

-- a rule has at most 12288 bytes, whatever the tables hold
pub bytes_most : (distinct having inside kinds permissions : List ℕ) (operations : ℕ) (starts t : List ℕ) (head kept : ℕ) → length (rule_bytes_in distinct having inside kinds permissions operations starts t head kept) ≤ 12288
unfolding rule_bytes_in level_bytes_in
bytes_most distinct having inside kinds permissions operations starts t head kept =
    go (kind_bytes_in distinct having inside kinds t head kept user false) (kind_bytes_in distinct having inside kinds t head kept user true) (kind_bytes_in distinct having inside kinds t head kept resource false) (kind_bytes_in distinct having inside kinds t head kept resource true)
    (operations_at t head % 256) (operations_at t head / 256 % 256) (atom_bytes_in kept) (part_bytes_in permissions operations starts t head) (level_in (rest_at t head))
    (side-most distinct having inside kinds t head kept user) (side-most distinct having inside kinds t head kept resource) (atoms-most kept) (parts-most permissions operations starts t head)
  where
    go : (a b c d : List ℕ) (x y : ℕ) (e f : List ℕ) (z : ℕ) → length a + length b ≤ 4480 → length c + length d ≤ 4480 → length e ≤ 108 → length f ≤ 2048
        → length (0x21 ∷ (a ++ (b ++ (c ++ (d ++ ((0x26 ∷ x ∷ y ∷ []) ++ (e ++ (f ++ (0x29 ∷ z ∷ []))))))))) ≤ 12288
    go a b c d x y e f z h i j k = simp length-append (omega arith)
