-- The bytes of a rule's lines, how many there are, and the rule's cost, all place by place.
-- Assumes nothing.
-- the bytes of a line 27
use Prim.Native.Nat.{ℕ, ◌+◌, ◌*◌, ◌/◌, ◌%◌, ◌<◌}
use Rattle.std.specs.Prelude.{ltb, length, Bool, ◌≡◌, refl}
use Rattle.std.proofs.Math.Bool.{true, false, cond}
use mathlib.Core.List.{List, [], ◌∷◌, ◌++◌, append-nil, map}
use Rattle.std.proofs.Common.{sym, ◌∙◌, arith}
use Rattle.std.proofs.Math.Path.{ap, ap₂}
use Rattle.files.specs.Bytes.{spread}
use Rattle.files.specs.RuleFile.{Lines, encode, opens, value, operations, link, part, level}
use Rattle.policy.specs.Cost.{is_of, single_cost, set_cost, atom_cost, side_cost}
use Rattle.policy.specs.Covering.{fits, level_of}
use Rattle.policy.proofs.MergeLaws.{Every}
use Rattle.policy.proofs.RuleLaws.{Lawful}
use Rattle.policy.specs.Rules.{Which, by, Setting, Cond, Block, user, resource}
use Rattle.policy.specs.Thinning.{trim_cond, written}
use Rattle.mine_theory.proofs.Lines.PartLinesLaws.{part_lines_sorted}
use Rattle.mine_theory.specs.Lines.RuleLines.{kind_place, written_values, attribute_lines, is_kind, kind_lines, atom_lines, rule_lines, of_role, part_lines_of, value_bytes, part_bytes, level_bytes, atom_set, link_bytes}
use Rattle.mine_theory.proofs.Lines.RuleLinesLaws.{attribute-byte, written-conjunct, written-atom}
use Rattle.sets.specs.ListLaws.{each_ext, each_append, each_last, each-only, each-cond, length-each, each-each, each_map, sum_ext, sum_kept, sum_both}
use Rattle.sets.specs.MaskLaws.{size_mask}
use Rattle.sets.specs.Sets.{bit, size}
use Rattle.sets.specs.Sorted.{sort}
use Rattle.sets.specs.TestLaws.{from_out, up_to-out}
use Rattle.sets.specs.Tests.{Is, each, only, from, up_to, sum}
use Rattle.mine_theory.proofs.Words.FlagLaws.{sum_if, conjunct-costs, atom-costs, written_places}
use Rattle.mine_theory.specs.Words.Flags.{cond_at, kept_places}
use Rattle.mine_theory.specs.Words.Words.{Words, Roomy, words_of}
use Rattle.role_record.specs.Places.{place_side, place_attribute}

-- a byte stands for itself, and nothing follows the last operand
two_operands : (b x : ℕ) (l : List ℕ) → x < 256 → b ∷ (x % 256 ∷ (l ++ [])) ≡ b ∷ x ∷ l
two_operands b x l h = let e : x % 256 ≡ x = omega arith in ap₂ (λ (y : ℕ) (s : List ℕ). b ∷ y ∷ s) e (append-nil l)

-- a line that lists a value
pub encode-value : (w : Which) (set : Bool) (a v : ℕ) → a < 256 → encode 2 (value w set a v) ≡ value_bytes w set a v
unfolding encode
encode-value user false a v h = two_operands 0x22 a (spread 2 v) h
encode-value user true a v h = two_operands 0x23 a (spread 8 v) h
encode-value resource false a v h = two_operands 0x24 a (spread 2 v) h
encode-value resource true a v h = two_operands 0x25 a (spread 8 v) h

-- the line of the operations
pub encode-operations : (n : ℕ) → encode 2 (operations n) ≡ 0x26 ∷ spread 2 n
unfolding encode
encode-operations n = refl

-- the line of an atom
pub encode-link : (a b : ℕ) → a < 256 → b < 256 → encode 2 (link a b) ≡ link_bytes a b
unfolding encode
encode-link a b h k = let e : b % 256 ≡ b = omega arith in two_operands 0x27 a (b % 256 ∷ []) h ∙ ap (λ (x : ℕ). 0x27 ∷ a ∷ x ∷ []) e

-- the line of a part
pub encode-part : (k n : ℕ) → k < 256 → encode 2 (part k n) ≡ part_bytes k n
unfolding encode
encode-part k n h = two_operands 0x28 k (spread 2 n) h

-- the line of the level
pub encode-level : (l : ℕ) → l < 256 → encode 2 (level l) ≡ level_bytes l
unfolding encode
encode-level l h = let e : l % 256 ≡ l = omega arith in ap (λ (x : ℕ). 0x29 ∷ x ∷ []) e

-- ---- lengths

pub value-length : (w : Which) (set : Bool) (a v : ℕ) → length (value_bytes w set a v) ≡ cond set 10 4
value-length w true a v = refl
value-length w false a v = refl

single : (n : ℕ) → 1 * n ≡ n
single n = omega arith

length-cond : {A : Type 0} (b : Bool) (l : List A) → length (cond b l []) ≡ cond b (length l) 0
length-cond true l = refl
length-cond false l = refl

-- the lines of a role's parts
pub role-bytes : (k : ℕ) → k < 256 → (ns : List ℕ) → each (encode 2) (map (part k) ns) ≡ each (part_bytes k) ns
role-bytes k l ns = each_map (encode 2) (part k) ns ∙ each_ext (λ n. encode 2 (part k n)) (part_bytes k) ns (λ n m. encode-part k n l)

-- the lines of a list of parts: role by role, ascending by operation set
pub parts-bytes : (role cls : ℕ → ℕ) (g : List ℕ) → Every (λ i. role i < 32) g → each (encode 2) (part_lines_of role cls g) ≡ each (λ k. each (part_bytes k) (sort ltb (map cls (of_role role g k)))) (up_to 32)
parts-bytes role cls g low =
    ap (each (encode 2)) (part_lines_sorted role cls g low)
    ∙ each-each (encode 2) (λ k. map (part k) (sort ltb (map cls (of_role role g k)))) (up_to 32)
    ∙ each_ext (λ k. each (encode 2) (map (part k) (sort ltb (map cls (of_role role g k))))) (λ k. each (part_bytes k) (sort ltb (map cls (of_role role g k)))) (up_to 32)
    (λ k m. let l = up_to-out 32 m in role-bytes k (omega arith) (sort ltb (map cls (of_role role g k))))

module _ (m : ℕ) where
  -- atom by atom
  pub atom-bytes : each (encode 2) (atom_lines m) ≡ each (λ j. cond (bit m (14 + j)) (link_bytes (j / 6) (j % 6)) []) (up_to 36)
  unfolding atom_lines
  atom-bytes =
      each-each (encode 2) (λ j. only (bit m (14 + j)) (link (j / 6) (j % 6))) (up_to 36)
      ∙ each_ext (λ j. each (encode 2) (only (bit m (14 + j)) (link (j / 6) (j % 6)))) (λ j. cond (bit m (14 + j)) (link_bytes (j / 6) (j % 6)) []) (up_to 36) (λ j k.
      let l = up_to-out 36 k in
      each-only (encode 2) (bit m (14 + j)) (link (j / 6) (j % 6))
      ∙ ap (λ (s : List ℕ). cond (bit m (14 + j)) s []) (encode-link (j / 6) (j % 6) (omega arith) (omega arith)))

  atoms-size : (n : ℕ) → sum (λ j. cond (bit m (14 + j)) n 0) (up_to 36) ≡ n * size (atom_set m)
  atoms-size n = sum_kept n (λ j. bit m (14 + j)) (up_to 36) ∙ ap (λ (k : ℕ). n * k) (sym (size_mask 36 (λ j. bit m (14 + j)) (omega arith)))

  -- the number of bytes of the lines of atoms
  pub atom-length : length (each (encode 2) (atom_lines m)) ≡ 3 * size (atom_set m)
  atom-length =
      ap length atom-bytes
      ∙ length-each (λ j. cond (bit m (14 + j)) (link_bytes (j / 6) (j % 6)) []) (up_to 36)
      ∙ sum_ext (λ j. length (cond (bit m (14 + j)) (link_bytes (j / 6) (j % 6)) [])) (λ j. cond (bit m (14 + j)) 3 0) (up_to 36) (λ j k. length-cond (bit m (14 + j)) (link_bytes (j / 6) (j % 6)))
      ∙ atoms-size 3

module _ (P : Setting) (W : Words) (m : ℕ) where
  -- ---- the lines of a kind

  -- the bytes of the lines of a kind at its place number j
  unfoldable pub place_bytes : Which → Bool → ℕ → List ℕ
  place_bytes w set j = cond (is_kind P m w set (kind_place w j)) (each (value_bytes w set (place_attribute (kind_place w j))) (written_values P W (kind_place w j))) []

  -- place by place
  pub kind_bytes : (w : Which) (set : Bool) → each (encode 2) (kind_lines P W m w set) ≡ each (place_bytes w set) (up_to 7)
  unfolding kind_lines place_bytes
  kind_bytes w set =
      each-each (encode 2) (λ j. cond (is_kind P m w set (kind_place w j)) (attribute_lines P W w set (kind_place w j)) []) (up_to 7)
      ∙ each_ext (λ j. each (encode 2) (cond (is_kind P m w set (kind_place w j)) (attribute_lines P W w set (kind_place w j)) [])) (place_bytes w set) (up_to 7) (λ j k.
      each-cond (encode 2) (is_kind P m w set (kind_place w j)) (attribute_lines P W w set (kind_place w j))
      ∙ ap (λ (l : List ℕ). cond (is_kind P m w set (kind_place w j)) l []) (written-bytes (kind_place w j)))
    where
      written-bytes : (i : ℕ) → each (encode 2) (attribute_lines P W w set i) ≡ each (value_bytes w set (place_attribute i)) (written_values P W i)
      written-bytes i =
          each_map (encode 2) (value w set (place_attribute i)) (written_values P W i)
          ∙ each_ext (λ v. encode 2 (value w set (place_attribute i) v)) (value_bytes w set (place_attribute i)) (written_values P W i) (λ v k. encode-value w set (place_attribute i) v (attribute-byte i))

  -- how many bytes these are to have
  unfoldable pub place_length : Which → Bool → ℕ → ℕ
  place_length w set j = cond (is_kind P m w set (kind_place w j)) (cond set 10 4 * length (written_values P W (kind_place w j))) 0

  -- ---- the lines of a rule

  -- section by section
  pub encoded : (n : ℕ) (ps : Lines) → each (encode 2) (rule_lines P W m n ps)
      ≡ each (encode 2) (kind_lines P W m user false)
      ++ (each (encode 2) (kind_lines P W m user true)
      ++ (each (encode 2) (kind_lines P W m resource false)
      ++ (each (encode 2) (kind_lines P W m resource true)
      ++ (encode 2 (operations W.ops) ++ (each (encode 2) (atom_lines m) ++ (each (encode 2) ps ++ encode 2 (level n)))))))
  unfolding rule_lines
  encoded n ps =
      in_front user false _ (in_front user true _ (in_front resource false _ (in_front resource true _
      (ap (λ (l : List ℕ). encode 2 (operations W.ops) ++ l)
      (each_append (encode 2) (atom_lines m) (ps ++ (level n ∷ [])) ∙ ap (λ (l : List ℕ). each (encode 2) (atom_lines m) ++ l) (each_last (encode 2) ps (level n)))))))
    where
      in_front : (w : Which) (set : Bool) (t : Lines) {l : List ℕ} → each (encode 2) t ≡ l → each (encode 2) (kind_lines P W m w set ++ t) ≡ each (encode 2) (kind_lines P W m w set) ++ l
      in_front w set t e = each_append (encode 2) (kind_lines P W m w set) t ∙ ap (λ (l : List ℕ). each (encode 2) (kind_lines P W m w set) ++ l) e

  -- place by place, with the 21 in front
  pub rule-bytes : (n : ℕ) → n < 256 → (ps : Lines) → each (encode 2) (opens ∷ rule_lines P W m n ps)
      ≡ 0x21
      ∷ (each (place_bytes user false) (up_to 7)
      ++ (each (place_bytes user true) (up_to 7)
      ++ (each (place_bytes resource false) (up_to 7)
      ++ (each (place_bytes resource true) (up_to 7)
      ++ ((0x26 ∷ spread 2 W.ops) ++ (each (λ j. cond (bit m (14 + j)) (link_bytes (j / 6) (j % 6)) []) (up_to 36) ++ (each (encode 2) ps ++ level_bytes n)))))))
  unfolding encode
  rule-bytes n h ps =
      ap (λ (l : List ℕ). 0x21 ∷ l)
      (encoded n ps
      ∙ ap₂ ◌++◌ (kind_bytes user false) (ap₂ ◌++◌ (kind_bytes user true) (ap₂ ◌++◌ (kind_bytes resource false) (ap₂ ◌++◌ (kind_bytes resource true)
      (ap₂ ◌++◌ (encode-operations W.ops) (ap₂ ◌++◌ (atom-bytes m) (ap (λ (l : List ℕ). each (encode 2) ps ++ l) (encode-level n h))))))))

  -- ---- the cost

  -- what the conjunct at a place costs: the elements of its sets, or its values
  unfoldable pub place_cost : ℕ → ℕ
  place_cost i = cond (bit m i) (cond ((P.side (place_side i)).is_set (place_attribute i)) (sum size (written_values P W i)) (length (written_values P W i))) 0

  -- the conditions at the places of the set, each as it is written
  abbrev conditions : List Cond
  conditions = each (λ i. only (bit m i) (trim_cond P (cond_at P W i))) (up_to 50)

  -- of what stands at a place, what is of a side
  abbrev of_side : Which → ℕ → ℕ → ℕ
  of_side w i n = by w (by (place_side i) n 0) (by (place_side i) 0 n)

  -- the places of a side
  side_places : (w : Which) (f : ℕ → ℕ) → sum (λ i. of_side w i (f i)) (up_to 14) ≡ sum (λ j. f (kind_place w j)) (up_to 7)
  side_places user f = omega arith
  side_places resource f = omega arith

  -- what a side's conjuncts cost, place by place
  side-cost : (w : Which) → side_cost P w conditions ≡ sum (λ j. place_cost (kind_place w j)) (up_to 7)
  unfolding side_cost place_cost single_cost set_cost
  side-cost w =
      ap₂ ◌+◌ (sym (sum_if (is_of w) (single_cost P) conditions)) (sym (sum_if (is_of w) (set_cost P) conditions))
      ∙ sum_both (λ c. cond (is_of w c) (single_cost P c) 0) (λ c. cond (is_of w c) (set_cost P c) 0) conditions
      ∙ conjunct-costs P W cost_on m (λ a b. refl)
      ∙ sum_ext (λ i. cond (bit m i) (cost_on (trim_cond P (cond_at P W i))) 0) (λ i. of_side w i (place_cost i)) (up_to 14) (λ i k.
      ap (λ (c : Cond). cond (bit m i) (cost_on c) 0) (written-conjunct P W i (up_to-out 14 k))
      ∙ one w (place_side i) (bit m i) ((P.side (place_side i)).is_set (place_attribute i)) (written_values P W i))
      ∙ side_places w place_cost
    where
      cost_on : Cond → ℕ
      cost_on c = cond (is_of w c) (single_cost P c) 0 + cond (is_of w c) (set_cost P c) 0

      own-side : (b set : Bool) (vs : List ℕ) → cond b (cond set 0 (length vs) + cond set (sum size vs) 0) 0 ≡ cond b (cond set (sum size vs) (length vs)) 0
      own-side true true vs = omega arith
      own-side true false vs = omega arith
      own-side false set vs = refl

      other-side : (b : Bool) → cond b (0 + 0) 0 ≡ 0
      other-side true = refl
      other-side false = refl

      one : (w s : Which) (b set : Bool) (vs : List ℕ)
          → cond b (cond (by w (by s true false) (by s false true)) (cond set 0 (length vs)) 0 + cond (by w (by s true false) (by s false true)) (cond set (sum size vs) 0) 0) 0
          ≡ by w (by s (cond b (cond set (sum size vs) (length vs)) 0) 0) (by s 0 (cond b (cond set (sum size vs) (length vs)) 0))
      one user user b set vs = own-side b set vs
      one resource resource b set vs = own-side b set vs
      one user resource b set vs = other-side b
      one resource user b set vs = other-side b

  -- and its atoms
  atoms-cost : sum (atom_cost P) conditions ≡ size (atom_set m)
  unfolding atom_cost
  atoms-cost =
      atom-costs P W (atom_cost P) m (λ w a vs. refl)
      ∙ sum_ext (λ i. cond (bit m i) (atom_cost P (trim_cond P (cond_at P W i))) 0) (λ i. cond (bit m i) 1 0) (from 14 36) (λ i k. ap (λ (c : Cond). cond (bit m i) (atom_cost P c) 0) (written-atom P W i (from_out 14 36 k).0))
      ∙ atoms-size m 1
      ∙ single (size (atom_set m))

-- the cost of a written rule: what its conjuncts of a side cost, and its atoms
module _ (P : Setting) (Z : Roomy P) (L : Lawful P) (B : Block) (fit : Is (fits P B 3)) where
  pub rule-side : (w : Which) → side_cost P w (written P B).conds ≡ sum (λ j. place_cost P (words_of P B) (kept_places P (words_of P B) (level_of P B)) (kind_place w j)) (up_to 7)
  rule-side w = ap (side_cost P w) (written_places P Z L B fit) ∙ side-cost P (words_of P B) (kept_places P (words_of P B) (level_of P B)) w

  pub rule-atoms : sum (atom_cost P) (written P B).conds ≡ size (atom_set (kept_places P (words_of P B) (level_of P B)))
  rule-atoms = ap (sum (atom_cost P)) (written_places P Z L B fit) ∙ atoms-cost P (words_of P B) (kept_places P (words_of P B) (level_of P B))
