-- How many bytes a rule has, from the counts of what it lists.
-- Assumes nothing.
use Prim.Native.Nat.{ℕ, zero, suc, ◌+◌, ◌*◌, ◌/◌, ◌%◌, ◌^◌, ◌≤◌, ◌<◌}
use Rattle.std.proofs.Common.{eqb-true, ne_eqb, sym, ◌∙◌, zero-add, arith}
use Rattle.std.proofs.lemmas.Bool.{eqb-false}
use Rattle.std.specs.Prelude.{eqb, cond, ◌&&◌, not, ◌≡◌, refl}
use Rattle.std.proofs.Math.ListN.{length, length-append}
use Rattle.std.proofs.Math.Bool.{Bool, true, false}
use mathlib.Core.List.{List, [], ◌∷◌, ◌++◌}
use Rattle.std.proofs.Math.Path.{ap, ap₂}
use Rattle.sets.specs.ListLaws.{length-each, sum_ext, sum-each, sum-most, sum_both}
use Rattle.sets.specs.MemberLaws.{bit-less}
use Rattle.policy.specs.Rules.{Which, by, user, resource}
use Rattle.mine_theory.proofs.Lines.RuleBytesLaws.{atom-bytes, atom-length, value-length}
use Rattle.mine_theory.specs.Lines.RuleLines.{value_bytes, part_bytes, atom_set, kind_place}
use Rattle.mine_groups.specs.Scratch.{Stands}
use Rattle.mine_parts.specs.Layout.{most_parts, operations_at, rest_at, level_in}
use Rattle.sets.specs.MaskLaws.{bit-low, size-most}
use Rattle.sets.specs.Sets.{bit, size, less_one}
use Rattle.sets.specs.SetLaws.{bit-none}
use Rattle.sets.specs.Tests.{Is, iff, each, from, up_to, sum}
use Rattle.sets.specs.TestLaws.{and_l, test, from_out, up_to-out}
use Rattle.role_record.specs.Cells.{most_operations}
use Rattle.role_record.specs.Places.{place_attribute, set_place}
use Rattle.write_theory.proofs.ListingLaws.{classes_most}
use Rattle.write_theory.specs.RuleLists.{listed_at, classes_at}
use Rattle.write_sizes.specs.Sizes.{lines_long, place_long_in, side_long_in}
use Rattle.write_theory.specs.RuleTable.{kept_as, place_bytes_in, kind_bytes_in, atom_bytes_at, atom_bytes_in, role_bytes_in, part_bytes_in, level_bytes_in, rule_bytes_in}
use Rattle.write_roles.specs.GroupRoles.{roles_for}
use Rattle.write_roles.specs.GroupRoleLaws.{roles-low, none-listed}
use Rattle.write_sizes.specs.ListSizeLaws.{longs_most}

-- ---- a loop over the members of a set, which adds a number for each

-- two sums that differ at one number
sum_change : (g h : ℕ → ℕ) (y d : ℕ) → ((k : ℕ) → (k ≡ y → ⊥) → g k ≡ h k) → g y ≡ d + h y → (a n : ℕ) → a ≤ y → y < a + n → sum g (from a n) ≡ d + sum h (from a n)
sum_change g h y d other at a zero p q = absurd (omega arith)
sum_change g h y d other at a (suc n) p q = test (eqb a y)
    (λ e. let z = eqb-true a y e in
    let x : g a ≡ d + h a = ap g z ∙ at ∙ ap (λ (k : ℕ). d + h k) (sym z) in
    let r = sum_ext g h (from (suc a) n) (λ k m. let l = from_out (suc a) n m in other k (λ w. omega arith)) in
    omega (arith, x, r))
    (λ e. let z = eqb-false a y e in
    let x = other a z in
    let r = sum_change g h y d other at (suc a) n (omega arith) (omega arith) in
    omega (arith, x, r))

module _ (f : ℕ → ℕ) where
  -- the numbers of those in a set, of 32: one, and those of the others
  among-less : (m y : ℕ) → m < 2 ^ 64 → y < 32 → Is (bit m y) → sum (λ k. cond (bit m k) (f k) 0) (up_to 32) ≡ f y + sum (λ k. cond (bit (less_one m y) k) (f k) 0) (up_to 32)
  among-less m y h l b = sum_change (λ k. cond (bit m k) (f k) 0) (λ k. cond (bit (less_one m y) k) (f k) 0) y (f y) other one 0 32 (omega arith) (omega arith)
    where
      other : (k : ℕ) → (k ≡ y → ⊥) → cond (bit m k) (f k) 0 ≡ cond (bit (less_one m y) k) (f k) 0
      other k d = ap (λ (c : Bool). cond c (f k) 0) (sym (bit-less m h y k ∙ stays (bit m k) (eqb k y) (ne_eqb k y d)))
        where
          stays : (b c : Bool) → c ≡ false → (b && not c) ≡ b
          stays true c e = ap not e
          stays false c e = refl

      one : cond (bit m y) (f y) 0 ≡ f y + cond (bit (less_one m y) y) (f y) 0
      one = go (bit m y) (bit (less_one m y) y) b (bit-less m h y y ∙ gone (bit m y) (eqb y y) (same_number y))
        where
          same_number : (y : ℕ) → Is (eqb y y)
          same_number y = test (eqb y y) (λ e. e) (λ e. absurd (eqb-false y y e refl))

          gone : (b c : Bool) → Is c → (b && not c) ≡ false
          gone true c e = ap not e
          gone false c e = refl

          go : (p q : Bool) → Is p → q ≡ false → cond p (f y) 0 ≡ f y + cond q (f y) 0
          go p q e d = rw (e, d) (omega arith)

  -- what is added so far, and those left
  pub record Adding (n rest : ℕ) : Type 0 where
    pub small : rest < 2 ^ 64
    pub low : (k : ℕ) → Is (bit rest k) → k < 32
    pub adds : n + sum (λ k. cond (bit rest k) (f k) 0) (up_to 32) ≡ sum f (up_to 32)

  module _ (n rest y d rest' : ℕ) (s : Adding n rest) (b : Is (bit rest y)) (e : d ≡ f y) where
    -- the number of one more is within the whole
    pub adding_room : n + d ≤ sum f (up_to 32)
    adding_room = go (sum (λ k. cond (bit (less_one rest y) k) (f k) 0) (up_to 32)) s.adds (among-less rest y s.small (s.low y b) b)
      where
        go : {left all : ℕ} (less : ℕ) → n + left ≡ all → left ≡ f y + less → n + d ≤ all
        go less p q = omega arith

    -- one more
    pub adding_more : rest' < 2 ^ 64 → rest' ≡ less_one rest y → Adding (n + d) rest'
    adding_more h q = record {
      small = h;
      low = λ k p. s.low k (and_l (bit rest k) (not (eqb k y)) (sym (bit-less rest s.small y k) ∙ ap (λ (m : ℕ). bit m k) (sym q) ∙ p));
      adds = go s.adds (among-less rest y s.small (s.low y b) b) (ap (λ (m : ℕ). sum (λ k. cond (bit m k) (f k) 0) (up_to 32)) q);
    }
      where
        go : {left less now-left all : ℕ} → n + left ≡ all → left ≡ f y + less → now-left ≡ less → n + d + now-left ≡ all
        go p q r = omega arith

  -- none left
  pub adding_end : (n rest : ℕ) → rest ≡ 0 → Adding n rest → n ≡ sum f (up_to 32)
  adding_end n rest z s = go s.adds (sum-each 0 (λ k. cond (bit rest k) (f k) 0) (up_to 32) (λ k m. ap (λ (c : Bool). cond c (f k) 0) (ap (λ (x : ℕ). bit x k) z ∙ bit-none k)))
    where
      go : {left all : ℕ} → n + left ≡ all → left ≡ 0 → n ≡ all
      go p q = omega arith

-- ---- parts

module _ (permissions : List ℕ) (operations : ℕ) (starts t : List ℕ) (head : ℕ) where
  -- how many parts of a role there are
  abbrev pub part_count : ℕ → ℕ
  part_count k = length (classes_at permissions operations starts t head k)

  -- a role that has no part in the group adds none
  pub parts-begin : (roles : ℕ) → roles < 2 ^ 64 → Stands t starts → roles ≡ roles_for starts t head → Adding part_count 0 roles
  parts-begin roles h S e = record {
    small = h;
    low = λ k b. bit-low 32 (roles_for starts t head) k (roles-low starts t head) (ap (λ (m : ℕ). bit m k) (sym e) ∙ b);
    adds = zero-add _ ∙ sum_ext (λ k. cond (bit roles k) (part_count k) 0) part_count (up_to 32) (λ k m. part k (up_to-out 32 m));
  }
    where
      part : (k : ℕ) → k < 32 → cond (bit roles k) (part_count k) 0 ≡ part_count k
      part k l = test (bit roles k)
          (λ z. ap (λ (c : Bool). cond c (part_count k) 0) z)
          (λ z. ap (λ (c : Bool). cond c (part_count k) 0) z ∙ sym (ap length (none-listed permissions operations starts t S head k l (ap (λ (m : ℕ). bit m k) (sym e) ∙ z))))

  -- a rule has at most as many parts as there may be
  pub counts_most : sum part_count (up_to 32) ≤ most_parts
  counts_most = sum-most most_operations part_count (up_to 32) (λ k m. classes_most permissions operations starts t head k)

  sum-times : (c : ℕ) (f g : ℕ → ℕ) (l : List ℕ) → ((k : ℕ) → f k ≡ c * g k) → sum f l ≡ c * sum g l
  sum-times c f g [] h = omega arith
  sum-times c f g (x ∷ l) h = let a = h x in let r = sum-times c f g l h in omega (arith, a, r)

  -- each line has 4 bytes
  parts-long : length (part_bytes_in permissions operations starts t head) ≡ 4 * sum part_count (up_to 32)
  unfolding part_bytes_in role_bytes_in
  parts-long =
      length-each (role_bytes_in permissions operations starts t head) (up_to 32)
      ∙ sum-times 4 (λ k. length (role_bytes_in permissions operations starts t head k)) part_count (up_to 32)
      (λ k. length-each (part_bytes k) (classes_at permissions operations starts t head k) ∙ sum-each 4 (λ n. length (part_bytes k n)) (classes_at permissions operations starts t head k) (λ n m. refl))

-- ---- conjuncts

module _ (distinct having inside kinds : List ℕ) (t : List ℕ) (head kept : ℕ) where
  -- a place has lines of one kind, sets or singles
  place-long : (w : Which) (i : ℕ)
      → length (place_bytes_in distinct having inside kinds t head kept w false i) + length (place_bytes_in distinct having inside kinds t head kept w true i) ≡ place_long_in distinct having inside kinds t head kept i
  unfolding place_bytes_in kept_as place_long_in lines_long
  place-long w i =
      go (bit kept i) (set_place kinds i) (each-lines false) (each-lines true) (length values_listed) (lines-length false) (lines-length true)
    where
      values_listed : List ℕ
      values_listed = listed_at distinct having inside t head i

      each-lines : Bool → List ℕ
      each-lines set = each (value_bytes w set (place_attribute i)) values_listed

      lines-length : (set : Bool) → length (each-lines set) ≡ cond set 10 4 * length values_listed
      lines-length set = length-each (value_bytes w set (place_attribute i)) values_listed ∙ sum-each (cond set 10 4) (λ v. length (value_bytes w set (place_attribute i) v)) values_listed (λ v k. value-length w set (place_attribute i) v)

      go : (b set : Bool) (l m : List ℕ) (n : ℕ) → length l ≡ 4 * n → length m ≡ 10 * n → length (cond (b && iff set false) l []) + length (cond (b && iff set true) m []) ≡ cond b (cond set 10 4 * n) 0
      go true true l m n p q = omega arith
      go true false l m n p q = omega arith
      go false set l m n p q = refl

  side-long : (w : Which)
      → length (kind_bytes_in distinct having inside kinds t head kept w false) + length (kind_bytes_in distinct having inside kinds t head kept w true) ≡ side_long_in distinct having inside kinds t head kept (by w 0 1)
  unfolding kind_bytes_in side_long_in
  side-long w =
      ap₂ ◌+◌ (length-each (bytes false) (up_to 7)) (length-each (bytes true) (up_to 7))
      ∙ sum_both (λ j. length (bytes false j)) (λ j. length (bytes true j)) (up_to 7)
      ∙ sum_ext (λ j. length (bytes false j) + length (bytes true j)) (λ j. place_long_in distinct having inside kinds t head kept (kind_place w j)) (up_to 7) (λ j k. place-long w (kind_place w j))
    where
      bytes : Bool → ℕ → List ℕ
      bytes set j = place_bytes_in distinct having inside kinds t head kept w set (kind_place w j)

-- ---- atoms

-- each line has 3 bytes
atoms-long : (kept : ℕ) → length (atom_bytes_in kept) ≡ 3 * size (atom_set kept)
unfolding atom_bytes_in atom_bytes_at
atoms-long kept = sym (ap length (atom-bytes kept)) ∙ atom-length kept

-- ---- the rule

module _ (distinct having inside kinds permissions : List ℕ) (operations : ℕ) (starts t : List ℕ) (head kept : ℕ) (users resources atoms parts : ℕ)
    (u : users ≡ side_long_in distinct having inside kinds t head kept 0) (r : resources ≡ side_long_in distinct having inside kinds t head kept 1) (p : parts ≡ sum (part_count permissions operations starts t head) (up_to 32)) where
  -- it is small
  pub size-within : (set : ℕ) → atoms ≡ size set → 6 + users + resources + 3 * atoms + 4 * parts ≤ 12288
  size-within set a =
      within u (longs_most distinct having inside kinds t head kept 0) r (longs_most distinct having inside kinds t head kept 1) a (size-most set) p (counts_most permissions operations starts t head)
    where
      within : {x y z w : ℕ} → users ≡ x → x ≤ 4480 → resources ≡ y → y ≤ 4480 → atoms ≡ z → z ≤ 64 → parts ≡ w → w ≤ most_parts → 6 + users + resources + 3 * atoms + 4 * parts ≤ 12288
      within b c d e f g h i = omega arith

  -- section by section
  pub size-added : (set : ℕ) → atoms ≡ size set → set ≡ atom_set kept → 6 + users + resources + 3 * atoms + 4 * parts ≡ length (rule_bytes_in distinct having inside kinds permissions operations starts t head kept)
  unfolding rule_bytes_in level_bytes_in
  size-added set a e =
      go (kind_bytes_in distinct having inside kinds t head kept user false) (kind_bytes_in distinct having inside kinds t head kept user true) (kind_bytes_in distinct having inside kinds t head kept resource false) (kind_bytes_in distinct having inside kinds t head kept resource true)
      (operations_at t head % 256) (operations_at t head / 256 % 256) (atom_bytes_in kept) (part_bytes_in permissions operations starts t head) (level_in (rest_at t head))
      (side-long distinct having inside kinds t head kept user) (side-long distinct having inside kinds t head kept resource) u r
      (atoms-long kept) (a ∙ ap size e) (parts-long permissions operations starts t head) p
    where
      go : (i j k l : List ℕ) (x y : ℕ) (e f : List ℕ) (b : ℕ) {us rs n m : ℕ} → length i + length j ≡ us → length k + length l ≡ rs → users ≡ us → resources ≡ rs → length e ≡ 3 * n → atoms ≡ n → length f ≡ 4 * m → parts ≡ m
          → 6 + users + resources + 3 * atoms + 4 * parts ≡ length (0x21 ∷ (i ++ (j ++ (k ++ (l ++ ((0x26 ∷ x ∷ y ∷ []) ++ (e ++ (f ++ (0x29 ∷ b ∷ [])))))))))
      go i j k l x y e f b q r s t u v w z = simp length-append (omega arith)
