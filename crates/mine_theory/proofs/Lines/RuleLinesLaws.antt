-- The lines of a written rule, sorted, are the lines of its places one after the other.
-- Assumes nothing.
use Rattle.std.specs.Prelude.{ℕ, ◌+◌, ◌/◌, ◌%◌, ◌≤◌, ◌<◌, ◌-◌, eqb, ltb, Bool, ◌⊎◌, ◌≡◌, refl}
use Rattle.std.proofs.Common.{eqb-true, eq-eqb, ltb-true, ltb-false, lt-ltb, le-ltb, inl, inr, sym, ap₂, ◌∙◌, subst, arith}
use Rattle.std.proofs.lemmas.Bool.{eqb-false, false≢true}
use Rattle.std.proofs.Math.Bool.{true, false, cond}
use mathlib.Core.List.Memᴰ
use mathlib.Core.List.{List, [], ◌∷◌, ◌++◌}
use Rattle.std.proofs.Math.Path.{ap}
use Rattle.files.proofs.ReadBackLaws.{lines_strict}
use Rattle.files.specs.RuleFile.{RuleCommand, value_byte, byte_of, operands_of, precedes, is_part_line, Lines, cond_lines, reshapes, opens, value, operations, link, part, level, ends}
use Rattle.policy.specs.Covering.{fits, level_of}
use Rattle.policy.proofs.MergeLaws.{Every}
use Rattle.policy.proofs.RuleLaws.{Lawful}
use Rattle.policy.specs.Rules.{own, Which, by, Setting, Cond, Block, rule_level, user, resource, conjunct, atom}
use Rattle.policy.proofs.SideLaws.{values-rising}
use Rattle.policy.proofs.ThinLaws.{written-level}
use Rattle.policy.specs.Thinning.{trim, trim_cond, written}
use Rattle.mine_theory.specs.Lines.RuleLines.{kind_place, written_values, attribute_lines, is_kind, kind_lines, atom_lines, rule_lines}
use Rattle.sets.specs.ListLaws.{map-rising, sort-is}
use Rattle.sets.specs.LowestLaws.{lowest-passes}
use Rattle.sets.specs.Sets.{bit}
use Rattle.sets.specs.Sorted.{before, Rising, sort, none_left, and-then}
use Rattle.sets.specs.SortedLaws.{Before, sort_in, sort-out, sort-rising, keep-rising, append-rising, each-rising, only-rising, from-rising}
use Rattle.sets.specs.Tests.{Is, ◌is_in◌, each, only, up_to}
use Rattle.sets.specs.TestLaws.{and_in, and_l, and_r, or_l, or_r, test, iff_in, iff-out, each_in, each-out, only_in, only_out, up_to_in, up_to-out, map_in, map-out}
use Rattle.mine_theory.proofs.Words.FlagLaws.{cond-conjunct, cond-atom, written_ops_words, written_places}
use Rattle.mine_theory.specs.Words.Flags.{cond_at, kept_places}
use Rattle.mine_theory.specs.Words.Words.{Words, members_of, Roomy, words_of}
use Rattle.role_record.specs.Places.{place_side, place_attribute}

-- ---- the order of lines

-- the first number that differs decides
first-less : (a b : ℕ) (xs ys : List ℕ) → a < b → Is (before (a ∷ xs) (b ∷ ys))
first-less a b xs ys h = or_l _ (lt-ltb a b h)

next-less : (a : ℕ) (xs ys : List ℕ) → Is (before xs ys) → Is (before (a ∷ xs) (a ∷ ys))
next-less a xs ys h = or_r (ltb a a) (and_in (eq-eqb a a refl) h)

-- lines stand in the order of their command bytes
pub byte-first : (c d : RuleCommand) → byte_of c < byte_of d → Is (precedes c d)
byte-first c d h = first-less (byte_of c) (byte_of d) (operands_of c) (operands_of d) h

-- lines of one kind stand in the order of their attributes
pub attribute-first : (w : Which) (set : Bool) (a b v x : ℕ) → a < b → Is (precedes (value w set a v) (value w set b x))
attribute-first w set a b v x h = next-less (value_byte w set) (a ∷ v ∷ []) (b ∷ x ∷ []) (first-less a b (v ∷ []) (x ∷ []) h)

-- those of one attribute in the order of their values
pub value-next : (w : Which) (set : Bool) (a v x : ℕ) → Is (ltb v x) → Is (precedes (value w set a v) (value w set a x))
value-next w set a v x h = next-less (value_byte w set) (a ∷ v ∷ []) (a ∷ x ∷ []) (next-less a (v ∷ []) (x ∷ []) (first-less v x [] [] (ltb-true v x h)))

link-less : (a b c d : ℕ) → (a < c) ⊎ ((a ≡ c) × (b < d)) → Is (precedes (link a b) (link c d))
link-less a b c d (inl h) = next-less 0x27 (a ∷ b ∷ []) (c ∷ d ∷ []) (first-less a c (b ∷ []) (d ∷ []) h)
link-less a b c d (inr h) = subst (λ (x : ℕ). Is (precedes (link a b) (link x d))) h.0 (next-less 0x27 (a ∷ b ∷ []) (a ∷ d ∷ []) (next-less a (b ∷ []) (d ∷ []) (first-less b d [] [] h.1)))

-- atoms stand in the order of their numbers
pub link-order : (j k : ℕ) → j < k → Is (precedes (link (j / 6) (j % 6)) (link (k / 6) (k % 6)))
link-order j k h = link-less (j / 6) (j % 6) (k / 6) (k % 6) (test (eqb (j / 6) (k / 6)) (λ e. let d = eqb-true (j / 6) (k / 6) e in inr (d, omega arith)) (λ e. let d = eqb-false (j / 6) (k / 6) e in inl (omega arith)))

-- parts stand in the order of their roles
pub role-first : (j k n x : ℕ) → j < k → Is (precedes (part j n) (part k x))
role-first j k n x h = next-less 0x28 (j ∷ n ∷ []) (k ∷ x ∷ []) (first-less j k (n ∷ []) (x ∷ []) h)

-- those of one role in the order of their operation sets
pub part-next : (k n x : ℕ) → Is (ltb n x) → Is (precedes (part k n) (part k x))
part-next k n x h = next-less 0x28 (k ∷ n ∷ []) (k ∷ x ∷ []) (next-less k (n ∷ []) (x ∷ []) (first-less n x [] [] (ltb-true n x h)))

-- ---- places

place_rest : (w : Which) (j : ℕ) → j < 7 → kind_place w j % 7 ≡ j
place_rest user j h = omega arith
place_rest resource j h = omega arith

-- a kind's places are below 14
pub place-below : (w : Which) (j : ℕ) → j < 7 → kind_place w j < 14
place-below user j h = omega arith
place-below resource j h = omega arith

-- they are places of the kind's side
pub place-side : (w : Which) (j : ℕ) → j < 7 → place_side (kind_place w j) ≡ w
place-side user j h = ap (λ (b : Bool). cond b user resource) (lt-ltb (kind_place user j) 7 (omega arith))
place-side resource j h = ap (λ (b : Bool). cond b user resource) (le-ltb (kind_place resource j) 7 (omega arith))

-- and number 6 is the 255
pub place-attribute : (w : Which) (j : ℕ) → j < 7 → place_attribute (kind_place w j) ≡ cond (eqb j 6) own j
place-attribute w j h = ap (λ (n : ℕ). cond (eqb n 6) own n) (place_rest w j h)

-- each place below 14 is one of its side
pub place-own : (i : ℕ) → i < 14 → i ≡ kind_place (place_side i) (i % 7)
place-own i h = go (ltb i 7) refl
  where
    go : (b : Bool) → ltb i 7 ≡ b → i ≡ kind_place (cond b user resource) (i % 7)
    go true e = let d = ltb-true i 7 e in omega arith
    go false e = let d = ltb-false i 7 e in omega arith

-- attributes stand in the order of their places
place-order : (w : Which) (j k : ℕ) → j < k → k < 7 → place_attribute (kind_place w j) < place_attribute (kind_place w k)
place-order w j k h l =
    subst (λ (n : ℕ). n < place_attribute (kind_place w k)) (sym (place-attribute w j (omega arith)))
    (subst (λ (n : ℕ). cond (eqb j 6) own j < n) (sym (place-attribute w k l)) (go (eqb j 6) refl (eqb k 6)))
  where
    go : (b : Bool) → eqb j 6 ≡ b → (c : Bool) → cond b own j < cond c own k
    go true e c = let d = eqb-true j 6 e in absurd (omega arith)
    go false e true = omega arith
    go false e false = h

-- an attribute is a byte
pub attribute-byte : (i : ℕ) → place_attribute i < 256
attribute-byte i = go (eqb (i % 7) 6)
  where
    go : (b : Bool) → cond b own (i % 7) < 256
    go true = omega arith
    go false = omega arith

-- ---- lines from a command byte on

-- they ascend, and none has a lower byte
abbrev FromByte : ℕ → Lines → Type 0
FromByte b ls = Rising (Before precedes) ls × Every (λ c. b ≤ byte_of c) ls

-- lines of one byte, in front of others
byte_more : (b n : ℕ) {s t : Lines} → b < n → Rising (Before precedes) s → Every (λ c. byte_of c ≡ b) s → FromByte n t → FromByte b (s ++ t)
byte_more b n {s} {t} l r e f =
    (append-rising r f.0 (λ c d mc md. byte-first c d (let p = e c mc in let q = f.1 d md in omega arith)), λ c m. go c (Memᴰ.append_cases s m))
  where
    go : (c : RuleCommand) → (c is_in s) ⊎ (c is_in t) → b ≤ byte_of c
    go c (inl m) = let p = e c m in omega arith
    go c (inr m) = let q = f.1 c m in omega arith

part-byte : (c : RuleCommand) → Is (is_part_line c) → byte_of c ≡ 0x28
part-byte reshapes h = absurd (false≢true h)
part-byte opens h = absurd (false≢true h)
part-byte (value w set a v) h = absurd (false≢true h)
part-byte (operations m) h = absurd (false≢true h)
part-byte (link a b) h = absurd (false≢true h)
part-byte (part k m) h = refl
part-byte (level x) h = absurd (false≢true h)
part-byte ends h = absurd (false≢true h)

-- ---- the lines of atoms

module _ (m : ℕ) where
  atoms-rising : Rising (Before precedes) (atom_lines m)
  unfolding atom_lines
  atoms-rising =
      each-rising (λ j. only (bit m (14 + j)) (link (j / 6) (j % 6))) (λ j. only-rising (bit m (14 + j)) (link (j / 6) (j % 6)))
      (λ j k mj mk h c d mc md. rw ((only_out (bit m (14 + j)) mc).1, (only_out (bit m (14 + k)) md).1) (link-order j k h))
      (from-rising 0 36)

  -- where a line of an atom comes from
  pub atom-out : {c : RuleCommand} → c is_in atom_lines m → (j : ℕ) × (j < 36) × Is (bit m (14 + j)) × (c ≡ link (j / 6) (j % 6))
  unfolding atom_lines
  atom-out k =
      let t = each-out (λ j. only (bit m (14 + j)) (link (j / 6) (j % 6))) (up_to 36) k in
      let s = only_out (bit m (14 + t.0)) t.2 in
      (t.0, up_to-out 36 t.1, s.0, s.1)

  -- and the lines that there are
  pub atom-in : (j : ℕ) → j < 36 → Is (bit m (14 + j)) → link (j / 6) (j % 6) is_in atom_lines m
  unfolding atom_lines
  atom-in j l h = each_in (λ j. only (bit m (14 + j)) (link (j / 6) (j % 6))) (up_to_in l) (only_in (link (j / 6) (j % 6)) h)

module _ (P : Setting) where
  -- the condition at a place below 14, as written
  pub written-conjunct : (W : Words) (i : ℕ) → i < 14 → trim_cond P (cond_at P W i) ≡ conjunct (place_side i) (place_attribute i) (written_values P W i)
  unfolding trim_cond written_values
  written-conjunct W i l = ap (trim_cond P) (cond-conjunct P W i l)

  -- and at the others
  pub written-atom : (W : Words) (i : ℕ) → 14 ≤ i → trim_cond P (cond_at P W i) ≡ atom ((i - 14) / 6) ((i - 14) % 6)
  unfolding trim_cond
  written-atom W i l = ap (trim_cond P) (cond-atom P W i l)

  -- the values of a place ascend
  pub values-ascend : (W : Words) (i : ℕ) → Rising (Before ltb) (written_values P W i)
  unfolding written_values trim
  values-ascend W i = go (place_side i) (values-rising (P.side (place_side i)) (bit (members_of W (place_side i))) (place_attribute i))
    where
      go : (w : Which) {vs : List ℕ} → Rising (Before ltb) vs → Rising (Before ltb) (by w (trim ((P.side (place_side i)).below (place_attribute i)) vs) vs)
      go user r = keep-rising _ r
      go resource r = r

  module _ (W : Words) (m : ℕ) where
    -- ---- the lines of a kind

    attribute-rising : (w : Which) (set : Bool) (b : Bool) (i : ℕ) → Rising (Before precedes) (cond b (attribute_lines P W w set i) [])
    attribute-rising w set true i = map-rising (value w set (place_attribute i)) (λ v x mv mx. value-next w set (place_attribute i) v x) (values-ascend W i)
    attribute-rising w set false i = none_left

    attribute-out : (w : Which) (set : Bool) (b : Bool) (i : ℕ) {c : RuleCommand} → c is_in cond b (attribute_lines P W w set i) [] → Is b × (v : ℕ) × (v is_in written_values P W i) × (c ≡ value w set (place_attribute i) v)
    attribute-out w set true i k = let t = map-out (value w set (place_attribute i)) (written_values P W i) k in (refl, t.0, t.1, t.2)
    attribute-out w set false i k = absurd (Memᴰ.not-nil k)

    kind_rising : (w : Which) (set : Bool) → Rising (Before precedes) (kind_lines P W m w set)
    unfolding kind_lines
    kind_rising w set =
        each-rising (λ j. cond (is_kind P m w set (kind_place w j)) (attribute_lines P W w set (kind_place w j)) []) (λ j. attribute-rising w set (is_kind P m w set (kind_place w j)) (kind_place w j))
        (λ j k mj mk h c d mc md.
        let s = attribute-out w set (is_kind P m w set (kind_place w j)) (kind_place w j) mc in
        let t = attribute-out w set (is_kind P m w set (kind_place w k)) (kind_place w k) md in
        rw (s.3, t.3) (attribute-first w set (place_attribute (kind_place w j)) (place_attribute (kind_place w k)) s.1 t.1 (place-order w j k h (up_to-out 7 mk))))
        (from-rising 0 7)

    -- where a line of a kind comes from
    pub kind_out : (w : Which) (set : Bool) {c : RuleCommand} → c is_in kind_lines P W m w set
        → (j : ℕ) × (j < 7) × Is (bit m (kind_place w j)) × ((P.side w).is_set (place_attribute (kind_place w j)) ≡ set) × (v : ℕ) × (v is_in written_values P W (kind_place w j)) × (c ≡ value w set (place_attribute (kind_place w j)) v)
    unfolding kind_lines
    kind_out w set k =
        let t = each-out (λ j. cond (is_kind P m w set (kind_place w j)) (attribute_lines P W w set (kind_place w j)) []) (up_to 7) k in
        let i = kind_place w t.0 in
        let s = attribute-out w set (is_kind P m w set i) i t.2 in
        (t.0, up_to-out 7 t.1, and_l (bit m i) _ s.0, iff-out ((P.side w).is_set (place_attribute i)) set (and_r (bit m i) _ s.0), s.1, s.2, s.3)

    -- and the lines that there are
    pub kind_in : (w : Which) (j : ℕ) → j < 7 → Is (bit m (kind_place w j)) → {v : ℕ} → v is_in written_values P W (kind_place w j)
        → value w ((P.side w).is_set (place_attribute (kind_place w j))) (place_attribute (kind_place w j)) v is_in kind_lines P W m w ((P.side w).is_set (place_attribute (kind_place w j)))
    unfolding kind_lines
    kind_in w j l h {v} k =
        let i = kind_place w j in
        let set = (P.side w).is_set (place_attribute i) in
        each_in (λ j. cond (is_kind P m w set (kind_place w j)) (attribute_lines P W w set (kind_place w j)) []) (up_to_in l)
        (subst (λ (b : Bool). value w set (place_attribute i) v is_in cond b (attribute_lines P W w set i) []) (sym (and_in h (iff_in set set refl))) (map_in (value w set (place_attribute i)) k))

    -- the lines of a kind have its command byte
    pub kind_byte : (w : Which) (set : Bool) → Every (λ c. byte_of c ≡ value_byte w set) (kind_lines P W m w set)
    kind_byte w set c k = ap byte_of (kind_out w set k).6

    -- ---- all lines

    -- where a line comes from
    data LineFrom (l : ℕ) (ps : Lines) (c : RuleCommand) : Type 0 where
      from_kind : (w : Which) (set : Bool) → c is_in kind_lines P W m w set → LineFrom l ps c
      from-operations : c ≡ operations W.ops → LineFrom l ps c
      from-atoms : c is_in atom_lines m → LineFrom l ps c
      from_parts : c is_in ps → LineFrom l ps c
      from-level : c ≡ level l → LineFrom l ps c

    module _ (l : ℕ) (ps : Lines) where
      -- the lines from a section on
      abbrev after_kinds : Lines
      after_kinds = operations W.ops ∷ (atom_lines m ++ (ps ++ (level l ∷ [])))

      abbrev after_users : Lines
      after_users = kind_lines P W m resource false ++ (kind_lines P W m resource true ++ after_kinds)

      abbrev after_singles : Lines
      after_singles = kind_lines P W m user true ++ after_users

      rule-out : {c : RuleCommand} → c is_in rule_lines P W m l ps → LineFrom l ps c
      unfolding rule_lines
      rule-out {c} k = first (Memᴰ.append_cases (kind_lines P W m user false) k)
        where
          last : (c is_in ps) ⊎ (c is_in (level l ∷ [])) → LineFrom l ps c
          last (inl k) = from_parts k
          last (inr k) = from-level (only_out true k).1

          seventh : (c is_in atom_lines m) ⊎ (c is_in (ps ++ (level l ∷ []))) → LineFrom l ps c
          seventh (inl k) = from-atoms k
          seventh (inr k) = last (Memᴰ.append_cases ps k)

          sixth : (c ≡ operations W.ops) ⊎ (c is_in (atom_lines m ++ (ps ++ (level l ∷ [])))) → LineFrom l ps c
          sixth (inl e) = from-operations e
          sixth (inr k) = seventh (Memᴰ.append_cases (atom_lines m) k)

          fourth : (c is_in kind_lines P W m resource true) ⊎ (c is_in after_kinds) → LineFrom l ps c
          fourth (inl k) = from_kind resource true k
          fourth (inr k) = sixth (Memᴰ.cases_cons k)

          third : (c is_in kind_lines P W m resource false) ⊎ (c is_in (kind_lines P W m resource true ++ after_kinds)) → LineFrom l ps c
          third (inl k) = from_kind resource false k
          third (inr k) = fourth (Memᴰ.append_cases (kind_lines P W m resource true) k)

          second : (c is_in kind_lines P W m user true) ⊎ (c is_in after_users) → LineFrom l ps c
          second (inl k) = from_kind user true k
          second (inr k) = third (Memᴰ.append_cases (kind_lines P W m resource false) k)

          first : (c is_in kind_lines P W m user false) ⊎ (c is_in after_singles) → LineFrom l ps c
          first (inl k) = from_kind user false k
          first (inr k) = second (Memᴰ.append_cases (kind_lines P W m user true) k)

      behind-kinds : {c : RuleCommand} → c is_in after_kinds → c is_in rule_lines P W m l ps
      unfolding rule_lines
      behind-kinds k = Memᴰ.append_right (kind_lines P W m user false) (Memᴰ.append_right (kind_lines P W m user true) (Memᴰ.append_right (kind_lines P W m resource false) (Memᴰ.append_right (kind_lines P W m resource true) k)))

      rule-in : {c : RuleCommand} → LineFrom l ps c → c is_in rule_lines P W m l ps
      unfolding rule_lines
      rule-in (from_kind user false k) = Memᴰ.append_left after_singles k
      rule-in (from_kind user true k) = Memᴰ.append_right (kind_lines P W m user false) (Memᴰ.append_left after_users k)
      rule-in (from_kind resource false k) = Memᴰ.append_right (kind_lines P W m user false) (Memᴰ.append_right (kind_lines P W m user true) (Memᴰ.append_left (kind_lines P W m resource true ++ after_kinds) k))
      rule-in (from_kind resource true k) = Memᴰ.append_right (kind_lines P W m user false) (Memᴰ.append_right (kind_lines P W m user true) (Memᴰ.append_right (kind_lines P W m resource false) (Memᴰ.append_left after_kinds k)))
      rule-in (from-operations e) = behind-kinds (Memᴰ.head e)
      rule-in (from-atoms k) = behind-kinds (Memᴰ.tail (Memᴰ.append_left (ps ++ (level l ∷ [])) k))
      rule-in (from_parts k) = behind-kinds (Memᴰ.tail (Memᴰ.append_right (atom_lines m) (Memᴰ.append_left (level l ∷ []) k)))
      rule-in (from-level e) = behind-kinds (Memᴰ.tail (Memᴰ.append_right (atom_lines m) (Memᴰ.append_right ps (Memᴰ.head e))))

      -- a rule's lines ascend where those of its parts do
      pub rule-rising : Every (λ c. Is (is_part_line c)) ps → Rising (Before precedes) ps → Rising (Before precedes) (rule_lines P W m l ps)
      unfolding rule_lines
      rule-rising only_parts r =
          (byte_more 0x22 0x23 (omega arith) (kind_rising user false) (kind_byte user false)
          (byte_more 0x23 0x24 (omega arith) (kind_rising user true) (kind_byte user true)
          (byte_more 0x24 0x25 (omega arith) (kind_rising resource false) (kind_byte resource false)
          (byte_more 0x25 0x26 (omega arith) (kind_rising resource true) (kind_byte resource true)
          (byte_more 0x26 0x27 {s = operations W.ops ∷ []} (omega arith) one-rises (λ c k. ap byte_of (only_out true k).1)
          (byte_more 0x27 0x28 (omega arith) (atoms-rising m) (λ c k. ap byte_of (atom-out m k).3)
          (byte_more 0x28 0x29 (omega arith) r (λ c k. part-byte c (only_parts c k))
          (one-rises, λ c k. let e : byte_of c ≡ 0x29 = ap byte_of (only_out true k).1 in omega arith)))))))
          ).0
        where
          one-rises : {c : RuleCommand} → Rising (Before precedes) (c ∷ [])
          one-rises = and-then (λ y k. absurd (Memᴰ.not-nil k)) none_left

    -- ---- the conditions at the places

    -- the conditions of the written rule, place by place
    abbrev pub place_conds : List Cond
    place_conds = each (λ i. only (bit m i) (trim_cond P (cond_at P W i))) (up_to 50)

    cond_line_in : (i : ℕ) → i < 50 → Is (bit m i) → {c : RuleCommand} → c is_in cond_lines P (trim_cond P (cond_at P W i)) → c is_in each (cond_lines P) place_conds
    cond_line_in i l h k = each_in (cond_lines P) (each_in (λ i. only (bit m i) (trim_cond P (cond_at P W i))) (up_to_in l) (only_in (trim_cond P (cond_at P W i)) h)) k

    cond_line_out : {c : RuleCommand} → c is_in each (cond_lines P) place_conds → (i : ℕ) × (i < 50) × Is (bit m i) × (c is_in cond_lines P (trim_cond P (cond_at P W i)))
    cond_line_out {c} k =
        let t = each-out (cond_lines P) place_conds k in
        let s = each-out (λ i. only (bit m i) (trim_cond P (cond_at P W i))) (up_to 50) t.1 in
        let q = only_out (bit m s.0) s.2 in
        (s.0, up_to-out 50 s.1, q.0, subst (λ (d : Cond). c is_in cond_lines P d) q.1 t.2)

    conjunct-lines : (i : ℕ) → i < 14 → cond_lines P (trim_cond P (cond_at P W i)) ≡ attribute_lines P W (place_side i) ((P.side (place_side i)).is_set (place_attribute i)) i
    unfolding cond_lines
    conjunct-lines i l = ap (cond_lines P) (written-conjunct W i l)

    link-lines : (i : ℕ) → 14 ≤ i → cond_lines P (trim_cond P (cond_at P W i)) ≡ link ((i - 14) / 6) ((i - 14) % 6) ∷ []
    unfolding cond_lines
    link-lines i l = ap (cond_lines P) (written-atom W i l)

    -- the lines of a kind are lines of conditions
    kind_cond : (w : Which) (set : Bool) {c : RuleCommand} → c is_in kind_lines P W m w set → c is_in each (cond_lines P) place_conds
    kind_cond w set {c} k =
        let t = kind_out w set k in
        let i = kind_place w t.0 in
        let a = place_attribute i in
        let below = place-below w t.0 t.1 in
        cond_line_in i (omega arith) t.2
        (subst (λ (l : Lines). c is_in l) (sym (conjunct-lines i below))
        (subst (λ (x : Which). c is_in attribute_lines P W x ((P.side x).is_set a) i) (sym (place-side w t.0 t.1))
        (subst (λ (s : Bool). c is_in attribute_lines P W w s i) (sym t.3)
        (subst (λ (d : RuleCommand). d is_in attribute_lines P W w set i) (sym t.6) (map_in (value w set a) t.5)))))

    atom-cond : {c : RuleCommand} → c is_in atom_lines m → c is_in each (cond_lines P) place_conds
    atom-cond {c} k =
        let t = atom-out m k in
        let j = t.0 in
        let e : 14 + j - 14 ≡ j = omega arith in
        cond_line_in (14 + j) (let l = t.1 in omega arith) t.2
        (subst (λ (l : Lines). c is_in l) (sym (link-lines (14 + j) (omega arith)))
        (subst (λ (n : ℕ). c is_in (link (n / 6) (n % 6) ∷ [])) (sym e) (Memᴰ.head t.3)))

    kind_at : (w : Which) (j : ℕ) → j < 7 → (i : ℕ) → i ≡ kind_place w j → Is (bit m i) → (v : ℕ) → v is_in written_values P W i
        → value w ((P.side w).is_set (place_attribute i)) (place_attribute i) v is_in kind_lines P W m w ((P.side w).is_set (place_attribute i))
    kind_at w j l i e =
        subst (λ (i : ℕ). Is (bit m i) → (v : ℕ) → v is_in written_values P W i → value w ((P.side w).is_set (place_attribute i)) (place_attribute i) v is_in kind_lines P W m w ((P.side w).is_set (place_attribute i))) (sym e) (λ h v k. kind_in w j l h k)

    -- and the lines of conditions are lines of a kind or of atoms
    cond-from : (l : ℕ) (ps : Lines) {c : RuleCommand} → c is_in each (cond_lines P) place_conds → LineFrom l ps c
    cond-from n ps {c} k =
        let t = cond_line_out k in
        test (ltb t.0 14) (λ p. conjunct-from t.0 (ltb-true t.0 14 p) t.2 t.3) (λ p. let l = t.1 in link-from t.0 (ltb-false t.0 14 p) l t.2 t.3)
      where
        conjunct-from : (i : ℕ) → i < 14 → Is (bit m i) → c is_in cond_lines P (trim_cond P (cond_at P W i)) → LineFrom n ps c
        conjunct-from i l h k =
            let set = (P.side (place_side i)).is_set (place_attribute i) in
            let t = map-out (value (place_side i) set (place_attribute i)) (written_values P W i) (subst (λ (s : Lines). c is_in s) (conjunct-lines i l) k) in
            from_kind (place_side i) set (subst (λ (d : RuleCommand). d is_in kind_lines P W m (place_side i) set) (sym t.2) (kind_at (place_side i) (i % 7) (omega arith) i (place-own i l) h t.0 t.1))

        linked : (i : ℕ) → 14 ≤ i → i < 50 → Is (bit m i) → (c ≡ link ((i - 14) / 6) ((i - 14) % 6)) ⊎ (c is_in []) → LineFrom n ps c
        linked i l u h (inl q) =
            let e : i ≡ 14 + (i - 14) = omega arith in
            from-atoms (subst (λ (d : RuleCommand). d is_in atom_lines m) (sym q) (atom-in m (i - 14) (omega arith) (sym (ap (bit m) e) ∙ h)))
        linked i l u h (inr k) = absurd (Memᴰ.not-nil k)

        link-from : (i : ℕ) → 14 ≤ i → i < 50 → Is (bit m i) → c is_in cond_lines P (trim_cond P (cond_at P W i)) → LineFrom n ps c
        link-from i l u h k = linked i l u h (Memᴰ.cases_cons (subst (λ (s : Lines). c is_in s) (link-lines i l) k))

    -- the lines of the conditions at the places, sorted
    pub places_sorted : (l : ℕ) (qs : Lines) → Every (λ c. Is (is_part_line c)) qs → sort precedes (each (cond_lines P) place_conds ++ (operations W.ops ∷ level l ∷ qs)) ≡ rule_lines P W m l (sort precedes qs)
    places_sorted l qs only_parts =
        sort-is precedes lines_strict (each (cond_lines P) place_conds ++ (operations W.ops ∷ level l ∷ qs))
        (rule-rising l (sort precedes qs) (λ c k. only_parts c (sort-out precedes qs k)) (sort-rising precedes lines_strict.chain qs))
        (λ c k. rule-in l (sort precedes qs) (there c (Memᴰ.append_cases (each (cond_lines P) place_conds) k)))
        (λ c k. back c (rule-out l (sort precedes qs) k))
      where
        listed : (c : RuleCommand) → (c ≡ level l) ⊎ (c is_in qs) → LineFrom l (sort precedes qs) c
        listed c (inl e) = from-level e
        listed c (inr k) = from_parts (sort_in precedes lines_strict k)

        behind : (c : RuleCommand) → (c ≡ operations W.ops) ⊎ (c is_in (level l ∷ qs)) → LineFrom l (sort precedes qs) c
        behind c (inl e) = from-operations e
        behind c (inr k) = listed c (Memᴰ.cases_cons k)

        there : (c : RuleCommand) → (c is_in each (cond_lines P) place_conds) ⊎ (c is_in (operations W.ops ∷ level l ∷ qs)) → LineFrom l (sort precedes qs) c
        there c (inl k) = cond-from l (sort precedes qs) k
        there c (inr k) = behind c (Memᴰ.cases_cons k)

        back : (c : RuleCommand) → LineFrom l (sort precedes qs) c → c is_in (each (cond_lines P) place_conds ++ (operations W.ops ∷ level l ∷ qs))
        back c (from_kind w set k) = Memᴰ.append_left (operations W.ops ∷ level l ∷ qs) (kind_cond w set k)
        back c (from-operations e) = Memᴰ.append_right (each (cond_lines P) place_conds) (Memᴰ.head e)
        back c (from-atoms k) = Memᴰ.append_left (operations W.ops ∷ level l ∷ qs) (atom-cond k)
        back c (from_parts k) = Memᴰ.append_right (each (cond_lines P) place_conds) (Memᴰ.tail (Memᴰ.tail (sort-out precedes qs k)))
        back c (from-level e) = Memᴰ.append_right (each (cond_lines P) place_conds) (Memᴰ.tail (Memᴰ.head e))

  -- what fits level 3 fits its own
  fits-own : (B : Block) → Is (fits P B 3) → Is (fits P B (level_of P B))
  unfolding level_of
  fits-own B fit = lowest-passes (fits P B) fit

  -- THE LAW: the lines of a written rule, its level among them, and of its parts, sorted, are those of its places one after the other
  pub lines_sorted : Roomy P → Lawful P → (B : Block) → Is (fits P B 3) → (qs : Lines) → Every (λ c. Is (is_part_line c)) qs
      → sort precedes (each (cond_lines P) (written P B).conds ++ (operations (written P B).ops ∷ level (rule_level P (written P B)) ∷ qs))
      ≡ rule_lines P (words_of P B) (kept_places P (words_of P B) (level_of P B)) (level_of P B) (sort precedes qs)
  lines_sorted Z L B fit qs only_parts =
      ap (λ (l : ℕ). sort precedes (each (cond_lines P) (written P B).conds ++ (operations (written P B).ops ∷ level l ∷ qs))) (written-level P L B (fits-own B fit))
      ∙ ap₂ (λ (cs : List Cond) (o : ℕ). sort precedes (each (cond_lines P) cs ++ (operations o ∷ level (level_of P B) ∷ qs))) (written_places P Z L B fit) (written_ops_words P B)
      ∙ places_sorted (words_of P B) (kept_places P (words_of P B) (level_of P B)) (level_of P B) qs only_parts
