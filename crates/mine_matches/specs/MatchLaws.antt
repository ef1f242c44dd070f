-- What the tables of a policy's record say: who knows an attribute, who meets whose value, and who passes the conjuncts of some members.
-- Assumes nothing.
use Prim.Native.Nat.{ℕ, zero, suc, ◌+◌, ◌*◌, ◌/◌, ◌%◌, ◌^◌, ◌≤◌, ◌<◌}
use borrow.Author.Tests.{eqb-true, eqb-false, eq-eqb, ne_eqb, ltb-true, lt-ltb, le-ltb}
use Rattle.std.proofs.Math.Dec.{eqb}
use Rattle.std.specs.Prelude.{ltb, length, get_or, ◌||◌, List, [], ◌∷◌, ◌++◌, ◌≡◌}
use Rattle.std.proofs.Math.Bool.{Bool, true, false, cond, ◌&&◌, and-true, or-false}
use Rattle.std.proofs.Common.{⊎_elim, ◌∙◌}
use Rattle.std.proofs.Math.Option.{Option, none, some}
use Rattle.std.proofs.Math.Path.{refl, sym, ap, ap₂, subst}
use native.Mathlib.Omega.{arith}
use Rattle.role_admit.specs.AdmitLaws.{side-kinds, column-known}
use Rattle.role_admit.specs.RoleTableLaws.{holders-shown}
use Rattle.files.specs.Beside.{beside_of}
use Rattle.files.specs.RoleFile.{side_by}
use Rattle.files.specs.RuleFile.{legal, value}
use Rattle.role_record.specs.Places.{place_side, place_attribute}
use Rattle.role_record.specs.Record.{Sized, number_or, known_table, value_table, kind_table, record_with, record_of}
use Rattle.role_record.specs.RecordLaws.{table_get, side-room, attributes-room, value-shown}
use Rattle.mine_matches.specs.Matches.{known_for, known_places, match_word, match_table, met_of, passing_of, known_in, matches_in}
use Rattle.rule_meeting.specs.MeetingMeansLaws.{meeting_means}
use Rattle.rule_meeting.specs.Meeting.{meeting_of}
use Rattle.policy.specs.Covering.{all_know}
use Rattle.policy.specs.Policy.{Policy, kind_of, held, roles_of, is_set_at, value_at, side_of, setting_of, roles_in}
use Rattle.policy.proofs.PolicyLaws.{attributes-of}
use Rattle.policy.specs.Rules.{own, Side, Which, by, both, admits, meets, attrs_of, user, resource}
use Rattle.policy.proofs.SideLaws.{declared_in, own_in}
use Rattle.sets.specs.ListLaws.{all_append, all_ext}
use Rattle.sets.specs.MaskLaws.{mask_lt, mask_same, mask_none, bit-low}
use Rattle.sets.specs.SetLaws.{subset-out, subset_in, bit_mask}
use Rattle.sets.specs.Sets.{bit, subset, mask_of}
use Rattle.sets.specs.TestLaws.{and_in, and_l, and_r, test, same, iff_in, all-out, all_in, any_in, any_out, keep_in, keep_out, up_to_in, up_to-out}
use Rattle.sets.specs.Tests.{Is, imp, ◌is_in◌, all, any, keep, only, up_to, is_some}
use Rattle.mine_theory.specs.Words.Words.{met_by, passes}
use Rattle.grant_values.specs.PlaceValues.{count_at, held_roles, value_for}

-- ---- places

-- the side of a place by its number
place-side : (i : ℕ) → i < 14 → place_side i ≡ side_by (i / 7)
place-side i h = ap (λ (b : Bool). cond b user resource) (same (ltb i 7) (eqb (i / 7) 0)
    (λ e. let l = ltb-true i 7 e in eq-eqb (i / 7) 0 (omega arith))
    (λ e. let d = eqb-true (i / 7) 0 e in lt-ltb i 7 (omega arith)))

count-side : (F : Policy) (i : ℕ) → count_at (F.table user).count (F.table resource).count i ≡ (F.table (place_side i)).count
count-side F i = go (ltb i 7)
  where
    go : (b : Bool) → cond b (F.table user).count (F.table resource).count ≡ (F.table (cond b user resource)).count
    go true = refl
    go false = refl

-- to meet one value
meets-one : (S : Side) (a v x : ℕ) → meets S a (v ∷ []) x ≡ both (S.below a) (some v) (S.value a x)
unfolding meets
meets-one S a v x = go (S.value a x)
  where
    go : (o : Option ℕ) → admits (S.below a) (v ∷ []) o ≡ both (S.below a) (some v) o
    go none = refl
    go (some z) = or-false (S.below a v z)

-- beyond the six attributes the kind does not matter, nor the number
own_meeting : (s v n roles : ℕ) (known values holders : List ℕ) (b d : Bool) (j : ℕ) → 6 ≤ j → meeting_of s b j v n roles known values holders ≡ meeting_of s d own v n roles known values holders
unfolding meeting_of
own_meeting s v n roles known values holders b d j h = rw (le-ltb j 6 h) refl

module _ (F : Policy) (Z : Sized F) where
  -- ---- who knows

  known-side : (i y : ℕ) → i < 14 → y < (F.table (side_by (i / 7))).count → bit (known_for (F.table user).count (F.table resource).count (known_table F) i) y ≡ is_some (value_at F (side_by (i / 7)) (place_attribute i) y)
  unfolding known_for value_at
  known-side i y hi hy =
      let e = count-side F i ∙ ap (λ (w : Which). (F.table w).count) (place-side i hi) in
      let m = Z.many (side_by (i / 7)) in
      bit_mask (count_at (F.table user).count (F.table resource).count i) (λ x. eqb (i % 7) 6 || bit (get_or (known_table F) (6 * (i / 7) + i % 7) 0) x) y (omega arith)
      ∙ test (eqb (i % 7) 6)
      (λ p. rw p refl)
      (λ p. let d = eqb-false (i % 7) 6 p in rw (p, ne_eqb (i % 7) own (λ z. omega arith)) (column-known F (i / 7) (i % 7) y (omega arith) (omega arith) (omega arith)))

  -- ---- whose value is what

  held-shown : (u : ℕ) → u < 64 → held_roles (record_of F).holders F.roles u ≡ roles_of F u
  unfolding held_roles roles_of
  held-shown u h =
      let n = Z.few in
      mask_same F.roles (λ k. bit (get_or (record_of F).holders k 0) u) (λ k. held F k u) (λ k l. ap (λ (m : ℕ). bit m u) (holders-shown F Z k (omega arith)) ∙ bit_mask 64 (held F k) u h)

  value-side : (i y : ℕ) → i < 14 → y < 64 → value_for (value_table F) (record_of F).holders F.roles i y ≡ number_or (value_at F (side_by (i / 7)) (place_attribute i) y)
  unfolding value_for value_at
  value-side i y hi hy = test (eqb (i % 7) 6)
      (λ p. let d = eqb-true (i % 7) 6 p in rw (p, le-ltb (i % 7) 6 (omega arith)) (owned (ltb i 7) ∙ ap (λ (w : Which). by w (roles_of F y) y) (place-side i hi)))
      (λ p. let d = eqb-false (i % 7) 6 p in rw (p, lt-ltb (i % 7) 6 (omega arith), ne_eqb (i % 7) own (λ z. omega arith)) (value-shown F (i / 7) (i % 7) y (omega arith) (omega arith) hy))
    where
      owned : (b : Bool) → cond b (held_roles (record_of F).holders F.roles y) y ≡ by (cond b user resource) (roles_of F y) y
      owned true = held-shown y hy
      owned false = refl

  -- THE LAW of whose value is what; 0 where it is unknown
  pub value_means : (i : ℕ) → i < 14 → (y : ℕ) → y < ((setting_of F).side (place_side i)).count
      → value_for (record_of F).values (record_of F).holders (record_of F).roles i y ≡ number_or (((setting_of F).side (place_side i)).value (place_attribute i) y)
  unfolding record_of record_with setting_of side_of
  value_means i hi y hy =
      let n = Z.many (place_side i) in
      value-side i y hi (omega arith) ∙ ap (λ (w : Which). number_or (value_at F w (place_attribute i) y)) (sym (place-side i hi))

  -- ---- who meets it

  met-side : (s a v : ℕ) (set : Bool) → s < 2 → Is (legal (beside_of F) (value (side_by s) set a v))
      → meeting_of s set a v (F.table (side_by s)).count F.roles (known_table F) (value_table F) (record_of F).holders ≡ mask_of (F.table (side_by s)).count (λ x. both (((setting_of F).side (side_by s)).below a) (some v) (((setting_of F).side (side_by s)).value a x))
  met-side s a v set hs h =
      meeting_means F Z s set a v hs h
      ∙ mask_same (F.table (side_by s)).count (meets ((setting_of F).side (side_by s)) a (v ∷ [])) (λ x. both (((setting_of F).side (side_by s)).below a) (some v) (((setting_of F).side (side_by s)).value a x))
      (λ x l. meets-one ((setting_of F).side (side_by s)) a v x)

  -- a 255 whose value somebody has is legal
  own-legal : (s y v : ℕ) → s < 2 → y < (F.table (side_by s)).count → value_at F (side_by s) own y ≡ some v → Is (legal (beside_of F) (value (side_by s) (eqb s 0) own v))
  unfolding legal value_at setting_of side_of roles_in roles_of
  own-legal zero y v hs hy e = lt-ltb v (2 ^ F.roles) (let d : roles_of F y ≡ v = cc in omega (arith, d, mask_lt F.roles (λ k. held F k y)))
  own-legal (suc zero) y v hs hy e = lt-ltb v (F.table resource).count (let d : y ≡ v = cc in omega arith)
  own-legal (suc (suc n)) y v hs hy e = absurd (omega arith)

  -- so is a value of a declared attribute
  declared-legal : (w : Which) (a v : ℕ) → a < length (F.table w).kinds → Is (legal (beside_of F) (value w (kind_of (F.table w) a) a v))
  unfolding legal setting_of side_of is_set_at
  declared-legal w a v h =
      let n = Z.declared w in
      rw (ne_eqb a own (λ z. omega arith)) (and_in (lt-ltb a (length (F.table w).kinds) h) (iff_in (kind_of (F.table w) a) (kind_of (F.table w) a) refl))

  meeting_side : (i y v : ℕ) → i < 14 → place_attribute i is_in attrs_of ((setting_of F).side (side_by (i / 7))) true → y < (F.table (side_by (i / 7))).count → value_at F (side_by (i / 7)) (place_attribute i) y ≡ some v
      → meeting_of (i / 7) (bit (get_or (kind_table F) (i / 7) 0) (i % 7)) (i % 7) v (F.table (side_by (i / 7))).count F.roles (known_table F) (value_table F) (record_of F).holders ≡ mask_of (F.table (side_by (i / 7))).count (λ x. both (((setting_of F).side (side_by (i / 7))).below (place_attribute i)) (some v) (((setting_of F).side (side_by (i / 7))).value (place_attribute i) x))
  meeting_side i y v hi m hy e = go (eqb (i % 7) 6) refl m e
    where
      declared : (j : ℕ) → j < 6 → j is_in attrs_of ((setting_of F).side (side_by (i / 7))) true
          → meeting_of (i / 7) (bit (get_or (kind_table F) (i / 7) 0) j) j v (F.table (side_by (i / 7))).count F.roles (known_table F) (value_table F) (record_of F).holders ≡ mask_of (F.table (side_by (i / 7))).count (λ x. both (((setting_of F).side (side_by (i / 7))).below j) (some v) (((setting_of F).side (side_by (i / 7))).value j x))
      declared j lj m = ⊎_elim
          (λ (l : j < length (F.table (side_by (i / 7))).kinds).
          ap (λ (b : Bool). meeting_of (i / 7) b j v (F.table (side_by (i / 7))).count F.roles (known_table F) (value_table F) (record_of F).holders) (ap (λ (x : ℕ). bit x j) (side-kinds F (i / 7) (omega arith)) ∙ bit_mask 64 (kind_of (F.table (side_by (i / 7)))) j (omega arith))
          ∙ met-side (i / 7) j v (kind_of (F.table (side_by (i / 7))) j) (omega arith) (declared-legal (side_by (i / 7)) j v l))
          (λ (q : j ≡ own). absurd (omega arith))
          (attributes-of F (side_by (i / 7)) j m)

      go : (b : Bool) → eqb (i % 7) 6 ≡ b → cond b own (i % 7) is_in attrs_of ((setting_of F).side (side_by (i / 7))) true → value_at F (side_by (i / 7)) (cond b own (i % 7)) y ≡ some v
          → meeting_of (i / 7) (bit (get_or (kind_table F) (i / 7) 0) (i % 7)) (i % 7) v (F.table (side_by (i / 7))).count F.roles (known_table F) (value_table F) (record_of F).holders ≡ mask_of (F.table (side_by (i / 7))).count (λ x. both (((setting_of F).side (side_by (i / 7))).below (cond b own (i % 7))) (some v) (((setting_of F).side (side_by (i / 7))).value (cond b own (i % 7)) x))
      go true p m e =
          let d = eqb-true (i % 7) 6 p in
          own_meeting (i / 7) v (F.table (side_by (i / 7))).count F.roles (known_table F) (value_table F) (record_of F).holders (bit (get_or (kind_table F) (i / 7) 0) (i % 7)) (eqb (i / 7) 0) (i % 7) (omega arith)
          ∙ met-side (i / 7) own v (eqb (i / 7) 0) (omega arith) (own-legal (i / 7) y v (omega arith) hy e)
      go false p m e = let d = eqb-false (i % 7) 6 p in declared (i % 7) (omega arith) m

  -- the word of somebody at a place, by side
  word-side : (i y : ℕ) → i < 14 → place_attribute i is_in attrs_of ((setting_of F).side (side_by (i / 7))) true → y < (F.table (side_by (i / 7))).count
      → match_word (kind_table F) (known_table F) (value_table F) (record_of F).holders (F.table user).count (F.table resource).count F.roles i y
      ≡ mask_of (F.table (side_by (i / 7))).count (λ x. both (((setting_of F).side (side_by (i / 7))).below (place_attribute i)) (value_at F (side_by (i / 7)) (place_attribute i) y) (((setting_of F).side (side_by (i / 7))).value (place_attribute i) x))
  unfolding match_word
  word-side i y hi m hy =
      go (value_at F (side_by (i / 7)) (place_attribute i) y) refl (bit (known_for (F.table user).count (F.table resource).count (known_table F) i) y) (known-side i y hi hy)
    where
      answer : Bool → ℕ
      answer b = cond b (meeting_of (i / 7) (bit (get_or (kind_table F) (i / 7) 0) (i % 7)) (i % 7) (value_for (value_table F) (record_of F).holders F.roles i y) (count_at (F.table user).count (F.table resource).count i) F.roles (known_table F) (value_table F) (record_of F).holders) 0

      go : (o : Option ℕ) → value_at F (side_by (i / 7)) (place_attribute i) y ≡ o → (b : Bool) → b ≡ is_some (value_at F (side_by (i / 7)) (place_attribute i) y)
          → answer b ≡ mask_of (F.table (side_by (i / 7))).count (λ x. both (((setting_of F).side (side_by (i / 7))).below (place_attribute i)) o (((setting_of F).side (side_by (i / 7))).value (place_attribute i) x))
      go none e b q = ap answer (q ∙ ap is_some e) ∙ sym (mask_none (F.table (side_by (i / 7))).count (λ x. false) (λ x l. refl))
      go (some v) e b q =
          let l = Z.many (side_by (i / 7)) in
          ap answer (q ∙ ap is_some e)
          ∙ ap₂ (λ (z n : ℕ). meeting_of (i / 7) (bit (get_or (kind_table F) (i / 7) 0) (i % 7)) (i % 7) z n F.roles (known_table F) (value_table F) (record_of F).holders)
          (value-side i y hi (omega arith) ∙ ap number_or e)
          (count-side F i ∙ ap (λ (w : Which). (F.table w).count) (place-side i hi))
          ∙ meeting_side i y v hi m hy e

  -- THE LAW of who knows an attribute
  pub known_means : (i : ℕ) → i < 14 → (y : ℕ) → y < ((setting_of F).side (place_side i)).count → bit (get_or (known_in F) i 0) y ≡ is_some (((setting_of F).side (place_side i)).value (place_attribute i) y)
  unfolding known_places record_of record_with setting_of side_of
  known_means i hi y hy =
      ap (λ (m : ℕ). bit m y) (table_get 14 (known_for (F.table user).count (F.table resource).count (known_table F)) i hi)
      ∙ known-side i y hi (subst (λ (w : Which). y < (F.table w).count) (place-side i hi) hy)
      ∙ ap (λ (w : Which). is_some (value_at F w (place_attribute i) y)) (sym (place-side i hi))

  -- the word of somebody at a place
  word-shown : (i y : ℕ) → i < 14 → y < 64 → get_or (matches_in F) (64 * i + y) 0 ≡ match_word (kind_table F) (known_table F) (value_table F) (record_of F).holders (F.table user).count (F.table resource).count F.roles i y
  unfolding match_table record_of record_with
  word-shown i y hi hy =
      table_get 896 (λ k. match_word (kind_table F) (known_table F) (value_table F) (record_of F).holders (F.table user).count (F.table resource).count F.roles (k / 64) (k % 64)) (64 * i + y) (omega arith)
      ∙ ap₂ (match_word (kind_table F) (known_table F) (value_table F) (record_of F).holders (F.table user).count (F.table resource).count F.roles) (let e : (64 * i + y) / 64 ≡ i = omega arith in e) (let e : (64 * i + y) % 64 ≡ y = omega arith in e)

  module _ (i : ℕ) (hi : i < 14) (m : place_attribute i is_in attrs_of ((setting_of F).side (place_side i)) true) where
    -- everybody who meets somebody's value, as one set
    pub word_means : (y : ℕ) → y < ((setting_of F).side (place_side i)).count
        → get_or (matches_in F) (64 * i + y) 0 ≡ mask_of ((setting_of F).side (place_side i)).count (λ x. both (((setting_of F).side (place_side i)).below (place_attribute i)) (((setting_of F).side (place_side i)).value (place_attribute i) y) (((setting_of F).side (place_side i)).value (place_attribute i) x))
    unfolding setting_of side_of
    word_means y hy =
        let n = Z.many (place_side i) in
        word-shown i y hi (omega arith)
        ∙ subst (λ (w : Which). place_attribute i is_in attrs_of ((setting_of F).side w) true → y < (F.table w).count
        → match_word (kind_table F) (known_table F) (value_table F) (record_of F).holders (F.table user).count (F.table resource).count F.roles i y ≡ mask_of (F.table w).count (λ x. both (((setting_of F).side w).below (place_attribute i)) (value_at F w (place_attribute i) y) (((setting_of F).side w).value (place_attribute i) x)))
        (sym (place-side i hi)) (word-side i y hi) m hy

    -- THE LAW of who meets whose value
    pub match_means : (y x : ℕ) → y < ((setting_of F).side (place_side i)).count → x < ((setting_of F).side (place_side i)).count
        → bit (get_or (matches_in F) (64 * i + y) 0) x ≡ both (((setting_of F).side (place_side i)).below (place_attribute i)) (((setting_of F).side (place_side i)).value (place_attribute i) y) (((setting_of F).side (place_side i)).value (place_attribute i) x)
    match_means y x hy hx =
        ap (λ (k : ℕ). bit k x) (word_means y hy)
        ∙ bit_mask ((setting_of F).side (place_side i)).count (λ x. both (((setting_of F).side (place_side i)).below (place_attribute i)) (((setting_of F).side (place_side i)).value (place_attribute i) y) (((setting_of F).side (place_side i)).value (place_attribute i) x)) x hx

    -- THE LAW of who meets the conjunct of some members' values
    pub met_means : (members x : ℕ) → members < 2 ^ ((setting_of F).side (place_side i)).count → x < ((setting_of F).side (place_side i)).count
        → bit (met_of (matches_in F) i members) x ≡ met_by ((setting_of F).side (place_side i)) (place_attribute i) (bit members) x
    unfolding met_of met_by
    met_means members x hm hx =
        let n = many-there in
        bit_mask 64 (λ x. any (λ y. bit members y && bit (get_or (matches_in F) (64 * i + y) 0) x) (up_to 64)) x (omega arith)
        ∙ same (any (λ y. bit members y && bit (get_or (matches_in F) (64 * i + y) 0) x) (up_to 64)) (any (λ y. bit members y && meets_theirs y) (up_to ((setting_of F).side (place_side i)).count))
        (λ h. let t = any_out (λ y. bit members y && bit (get_or (matches_in F) (64 * i + y) 0) x) (up_to 64) h in
        let b = and_l (bit members t.0) _ t.2 in
        let l = bit-low ((setting_of F).side (place_side i)).count members t.0 hm b in
        any_in (λ y. bit members y && meets_theirs y) (up_to_in l) (and_in b (sym (match_means t.0 x l hx) ∙ and_r (bit members t.0) _ t.2)))
        (λ h. let t = any_out (λ y. bit members y && meets_theirs y) (up_to ((setting_of F).side (place_side i)).count) h in
        let l = up_to-out ((setting_of F).side (place_side i)).count t.1 in
        any_in (λ y. bit members y && bit (get_or (matches_in F) (64 * i + y) 0) x) (up_to_in {n = 64} (omega arith)) (and_in (and_l (bit members t.0) _ t.2) (match_means t.0 x l hx ∙ and_r (bit members t.0) _ t.2)))
      where
        many-there : ((setting_of F).side (place_side i)).count ≤ 64
        many-there = side-room F Z (place_side i)

        meets_theirs : ℕ → Bool
        meets_theirs y = both (((setting_of F).side (place_side i)).below (place_attribute i)) (((setting_of F).side (place_side i)).value (place_attribute i) y) (((setting_of F).side (place_side i)).value (place_attribute i) x)

  -- THE LAW of who gives a conjunct: all members know the attribute where they lie within those who do
  pub know_means : (i : ℕ) → i < 14 → (members : ℕ) → members < 2 ^ ((setting_of F).side (place_side i)).count
      → subset members (get_or (known_in F) i 0) ≡ all_know ((setting_of F).side (place_side i)) (bit members) (place_attribute i)
  unfolding all_know
  know_means i hi members hm =
      same (subset members (get_or (known_in F) i 0)) (all (λ w. is_some (((setting_of F).side (place_side i)).value (place_attribute i) w)) (keep (bit members) (up_to ((setting_of F).side (place_side i)).count)))
      (λ h. all_in (λ w. is_some (((setting_of F).side (place_side i)).value (place_attribute i) w)) (keep (bit members) (up_to ((setting_of F).side (place_side i)).count)) λ y k.
      let t = keep_out (bit members) (up_to ((setting_of F).side (place_side i)).count) k in
      sym (known_means i hi y (up_to-out ((setting_of F).side (place_side i)).count t.0)) ∙ subset-out members (get_or (known_in F) i 0) h y t.1)
      (λ h. subset_in members (get_or (known_in F) i 0) λ y b.
      let l = bit-low ((setting_of F).side (place_side i)).count members y hm b in
      known_means i hi y l ∙ all-out (λ w. is_some (((setting_of F).side (place_side i)).value (place_attribute i) w)) h (keep_in (bit members) (up_to_in l) b))

  -- ---- who passes, by side

  module _ (side : ℕ) (hs : side < 2) (members : ℕ) (hm : members < 2 ^ ((setting_of F).side (side_by side)).count) where
    side-of : (j : ℕ) → j < 7 → place_side (7 * side + j) ≡ side_by side
    side-of j l = let e : (7 * side + j) / 7 ≡ side = omega arith in place-side (7 * side + j) (omega arith) ∙ ap side_by e

    attribute-of : (j : ℕ) → j < 7 → place_attribute (7 * side + j) ≡ cond (eqb j 6) own j
    attribute-of j l = let e : (7 * side + j) % 7 ≡ j = omega arith in ap (λ (y : ℕ). cond (eqb y 6) own y) e

    -- one conjunct: whether there is one, and who meets it
    asked-at : (j : ℕ) → j < 7 → subset members (get_or (known_in F) (7 * side + j) 0) ≡ all_know ((setting_of F).side (side_by side)) (bit members) (cond (eqb j 6) own j)
    asked-at j l =
        subst (λ (w : Which). members < 2 ^ ((setting_of F).side w).count → subset members (get_or (known_in F) (7 * side + j) 0) ≡ all_know ((setting_of F).side w) (bit members) (cond (eqb j 6) own j)) (side-of j l)
        (λ h. know_means (7 * side + j) (omega arith) members h ∙ ap (all_know ((setting_of F).side (place_side (7 * side + j))) (bit members)) (attribute-of j l)) hm

    met_at_lem : (j x : ℕ) → j < 7 → cond (eqb j 6) own j is_in attrs_of ((setting_of F).side (side_by side)) true → x < ((setting_of F).side (side_by side)).count
        → bit (met_of (matches_in F) (7 * side + j) members) x ≡ met_by ((setting_of F).side (side_by side)) (cond (eqb j 6) own j) (bit members) x
    met_at_lem j x l =
        subst (λ (w : Which). members < 2 ^ ((setting_of F).side w).count → cond (eqb j 6) own j is_in attrs_of ((setting_of F).side w) true → x < ((setting_of F).side w).count → bit (met_of (matches_in F) (7 * side + j) members) x ≡ met_by ((setting_of F).side w) (cond (eqb j 6) own j) (bit members) x) (side-of j l)
        (λ h. subst (λ (a : ℕ). a is_in attrs_of ((setting_of F).side (place_side (7 * side + j))) true → x < ((setting_of F).side (place_side (7 * side + j))).count → bit (met_of (matches_in F) (7 * side + j) members) x ≡ met_by ((setting_of F).side (place_side (7 * side + j))) a (bit members) x) (attribute-of j l)
        (λ m. met_means (7 * side + j) (omega arith) m members x h)) hm

    -- what the covering rule asks of somebody for an attribute
    abbrev asks : ℕ → ℕ → Bool
    asks x a = imp (all_know ((setting_of F).side (side_by side)) (bit members) a) (met_by ((setting_of F).side (side_by side)) a (bit members) x)

    declared-asks : (x a : ℕ) → x < ((setting_of F).side (side_by side)).count → a < ((setting_of F).side (side_by side)).attrs
        → imp (subset members (get_or (known_in F) (7 * side + a) 0)) (bit (met_of (matches_in F) (7 * side + a) members) x) ≡ asks x a
    declared-asks x a hx ha =
        let n = attributes-room F Z (side_by side) in
        let e = ap (λ (b : Bool). cond b own a) (ne_eqb a 6 (λ z. omega arith)) in
        ap₂ imp (asked-at a (omega arith)) (met_at_lem a x (omega arith) (subst (λ (c : ℕ). c is_in attrs_of ((setting_of F).side (side_by side)) true) (sym e) (declared_in ((setting_of F).side (side_by side)) true a ha)) hx) ∙ ap (asks x) e

    -- everybody knows a 255
    own-asks : (x : ℕ) → x < ((setting_of F).side (side_by side)).count → bit (met_of (matches_in F) (7 * side + 6) members) x ≡ asks x own
    unfolding all_know setting_of side_of value_at
    own-asks x hx =
        met_at_lem 6 x (omega arith) (own_in ((setting_of F).side (side_by side)) true refl) hx
        ∙ sym (ap (λ (b : Bool). imp b (met_by ((setting_of F).side (side_by side)) own (bit members) x)) (all_in (λ w. true) (keep (bit members) (up_to (F.table (side_by side)).count)) (λ w k. refl)))

    -- THE LAW of who passes all conjuncts of the covering rule of these members
    pub passing_means : (b : Bool)
        → passing_of (matches_in F) (known_in F) ((setting_of F).side (side_by side)).attrs side b members ((setting_of F).side (side_by side)).count ≡ mask_of ((setting_of F).side (side_by side)).count (passes ((setting_of F).side (side_by side)) (attrs_of ((setting_of F).side (side_by side)) b) (bit members))
    unfolding passing_of passes attrs_of
    passing_means b =
        mask_same ((setting_of F).side (side_by side)).count (λ x. all (conjunct-at x) (up_to ((setting_of F).side (side_by side)).attrs) && imp b (bit (met_of (matches_in F) (7 * side + 6) members) x)) (λ x. all (asks x) (up_to ((setting_of F).side (side_by side)).attrs ++ only b own))
        (λ x hx.
        ap₂ ◌&&◌ (all_ext (conjunct-at x) (asks x) (up_to ((setting_of F).side (side_by side)).attrs) (λ a m. declared-asks x a hx (up_to-out ((setting_of F).side (side_by side)).attrs m))) (owned b x hx)
        ∙ sym (all_append (asks x) (up_to ((setting_of F).side (side_by side)).attrs) (only b own)))
      where
        conjunct-at : ℕ → ℕ → Bool
        conjunct-at x a = imp (subset members (get_or (known_in F) (7 * side + a) 0)) (bit (met_of (matches_in F) (7 * side + a) members) x)

        owned : (b : Bool) (x : ℕ) → x < ((setting_of F).side (side_by side)).count → imp b (bit (met_of (matches_in F) (7 * side + 6) members) x) ≡ all (asks x) (only b own)
        owned true x hx = own-asks x hx ∙ sym (and-true (asks x own))
        owned false x hx = refl
