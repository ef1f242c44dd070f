-- The places that are kept, worked out from the tables of a policy's record, are those of the written rule.
-- Assumes nothing.
use Prim.Native.Nat.{ℕ, zero, suc, ◌+◌, ◌*◌, ◌/◌, ◌%◌, ◌^◌, ◌-◌, ◌≤◌, ◌<◌}
use borrow.Author.Tests.{ltb-true, ltb-false, lt-ltb, le-ltb}
use Rattle.std.specs.Prelude.{eqb, Bool, ◌⊎◌, ◌≡◌}
use Rattle.std.proofs.Math.Dec.{ltb}
use Rattle.std.proofs.Math.ListN.{get_or}
use Rattle.std.proofs.Math.Bool.{true, false, cond, ◌&&◌}
use mathlib.Core.List.Memᴰ
use mathlib.Core.List.{List}
use Rattle.std.proofs.Common.{inl, inr, ◌∙◌, subst}
use Rattle.std.proofs.Math.Path.{refl, sym, ap, ap₂}
use native.Mathlib.Omega.{arith}
use Rattle.role_record.specs.Places.{place_side, place_attribute}
use Rattle.role_record.specs.Record.{Sized, attribute_table, record_with, record_of}
use Rattle.rule_conjuncts.specs.Summary.{met_by_all}
use Rattle.files.specs.Calls.{first}
use Rattle.grant_grids.specs.Grid.{differ_at, difference_of, is_same}
use Rattle.grant_grids.proofs.GridLaws.{triples-same, same_means}
use Rattle.role_record.specs.RecordLaws.{table_get, side-room, attributes-room}
use Rattle.mine_matches.specs.MatchLaws.{met_means, know_means}
use Rattle.mine_matches.specs.Matches.{known_in, matches_in, met_of}
use Rattle.mine_corners.specs.FitLaws.{Declared, table-spans, words-declared}
use Rattle.grant_grids.specs.Links.{links_of}
use Rattle.mine_corners.specs.Pairing.{table_spans}
use Rattle.policy.specs.Covering.{stands_in}
use Rattle.policy.specs.Policy.{Policy, side_of, setting_of}
use Rattle.policy.specs.Rules.{own, Side, Which, by, Block, attrs_of, own_at, holds, Triple, same_block, user, resource, atom}
use Rattle.policy.proofs.SideLaws.{attribute_cases, declared_in, own_in}
use Rattle.sets.specs.ListLaws.{all_append, all_ext}
use Rattle.sets.specs.Sets.{narrowing, bit, mask_of, less_one}
use Rattle.sets.specs.MaskLaws.{bit-mask_of, mask_lt, mask_same}
use Rattle.sets.specs.SetLaws.{bit_mask, bit-down}
use Rattle.sets.specs.Tests.{Is, imp, ◌is_in◌, all, only, from, up_to, elem}
use Rattle.sets.specs.TestLaws.{and_l, and_r, test, same, only_in, only_out, up_to-out, elem_in, elem_out}
use Rattle.mine_theory.specs.Words.Flags.{has_at, holds_at, places_grant, thinned_at, thinned_to, kept_places}
use Rattle.mine_theory.proofs.Words.WordLaws.{same_tests}
use Rattle.mine_theory.specs.Words.Words.{Words, members_of, met_by, words_of, atoms_hold, spans}
use Rattle.mine_rows.specs.Others.{rule_over, first_other}
use Rattle.mine_rows.specs.KeptPlaces.{met_at, met_places, allowed_at, conjunct_at, present_places, grants_same, thin_by, thin_to, kept_in}

-- ---- the attributes of a side

module _ (S : Side) (b : Bool) where
  -- the attribute at place j of a side, with the 255 at 6
  attribute-at : (j : ℕ) → j < 7 → S.attrs ≤ 6 → cond (eqb j 6) b (ltb j S.attrs) ≡ elem (cond (eqb j 6) own j) (attrs_of S b)
  attribute-at j h l = test (eqb j 6)
      (λ e. rw e (same b (elem own (attrs_of S b)) (λ h. elem_in (own_in S b h)) (λ h. owned (attribute_cases S b own (elem_out own (attrs_of S b) h)))))
      (λ e. rw e (same (ltb j S.attrs) (elem j (attrs_of S b)) (λ h. elem_in (declared_in S b j (ltb-true j S.attrs h))) (λ q. given (attribute_cases S b j (elem_out j (attrs_of S b) q)))))
    where
      owned : (own < S.attrs) ⊎ (Is b × (own ≡ own)) → Is b
      owned (inl k) = absurd (omega arith)
      owned (inr k) = k.0

      given : (j < S.attrs) ⊎ (Is b × (j ≡ own)) → Is (ltb j S.attrs)
      given (inl k) = lt-ltb j S.attrs k
      given (inr k) = absurd (omega (arith, k.1))

  -- every attribute of a level is one of level 3
  attribute-wide : (a : ℕ) → a is_in attrs_of S b → a is_in attrs_of S true
  unfolding attrs_of
  attribute-wide a m = go (Memᴰ.append_cases (up_to S.attrs) m)
    where
      go : (a is_in up_to S.attrs) ⊎ (a is_in only b own) → a is_in attrs_of S true
      go (inl k) = Memᴰ.append_left (only true own) k
      go (inr k) = Memᴰ.append_right (up_to S.attrs) (rw (only_out b k).1 (only_in own refl))

-- the 50 places by their kinds
places_split : (f : ℕ → Bool) → all f (up_to 50) ≡ (all (λ i. f (7 * 0 + i)) (up_to 7) && (all (λ i. f (7 * 1 + i)) (up_to 7) && all (λ i. f (14 + i)) (up_to 36)))
places_split f = all_append f (up_to 7) (from 7 43) ∙ ap (λ (b : Bool). all f (up_to 7) && b) (all_append f (from 7 7) (from 14 36))

-- a place of a side
side-at : (w : Which) (j : ℕ) → j < 7 → place_side (7 * by w 0 1 + j) ≡ w
side-at user j l = ap (λ (b : Bool). cond b user resource) (lt-ltb (7 * 0 + j) 7 (omega arith))
side-at resource j l = ap (λ (b : Bool). cond b user resource) (le-ltb (7 * 1 + j) 7 (omega arith))

place-low : (w : Which) (j : ℕ) → j < 7 → 7 * by w 0 1 + j < 14
place-low user j l = omega arith
place-low resource j l = omega arith

-- a set less one has no more
less-within : (m i j : ℕ) → Is (bit (less_one m i) j) → Is (bit m j)
unfolding less_one
less-within m i j h = and_l (bit m j) _ (and_r (ltb j 64) _ (sym (bit-mask_of 64 _ j) ∙ h))

module _ (links met : List ℕ) (us rs os : ℕ) (W : Words) (p : ℕ) where
  -- thinning takes places away and adds none
  pub thin-within : (n j : ℕ) → Is (bit (thin_to links met us rs os W p n) j) → Is (bit p j)
  unfolding thin_by
  thin-within zero j h = h
  thin-within (suc n) j h =
      thin-within n j (go (bit (thin_to links met us rs os W p n) n && grants_same links met us rs os W (less_one (thin_to links met us rs os W p n) n)) h)
    where
      go : (b : Bool) → Is (bit (cond b (less_one (thin_to links met us rs os W p n) n) (thin_to links met us rs os W p n)) j) → Is (bit (thin_to links met us rs os W p n) j)
      go true k = less-within (thin_to links met us rs os W p n) n j k
      go false k = k

module _ (F : Policy) where
  -- where the covering rule of a group has a condition, by the tables of the policy's record
  abbrev pub places_in : Words → ℕ → ℕ
  places_in = present_places (known_in F) (record_of F).attributes

  -- who meets the conjunct of each of these places
  abbrev pub met_in : Words → ℕ → List ℕ
  met_in W l = met_places (matches_in F) W (places_in W l)

  -- the places that stay
  abbrev pub kept_for : Words → ℕ → ℕ
  kept_for = kept_in (links_of F) (matches_in F) (known_in F) (record_of F).attributes (record_of F).users (record_of F).resources (record_of F).operations

module _ (F : Policy) (Z : Sized F) where
  attributes-shown : (i : ℕ) → i < 14 → get_or (record_of F).attributes (i / 7) 0 ≡ ((setting_of F).side (place_side i)).attrs
  unfolding record_of record_with attribute_table setting_of side_of
  attributes-shown i h = test (ltb i 7)
      (λ e. let t = ltb-true i 7 e in let d : i / 7 ≡ 0 = omega arith in rw (e, d) refl)
      (λ e. let t = ltb-false i 7 e in let d : i / 7 ≡ 1 = omega arith in rw (e, d) refl)

  -- which attributes a rule of a level may use
  allowed_means : (l i : ℕ) → i < 14 → allowed_at (record_of F).attributes l i ≡ elem (place_attribute i) (attrs_of ((setting_of F).side (place_side i)) (own_at (place_side i) l))
  unfolding allowed_at
  allowed_means l i h =
      ap (λ (n : ℕ). cond (eqb (i % 7) 6) (own_at (place_side i) l) (ltb (i % 7) n)) (attributes-shown i h)
      ∙ attribute-at ((setting_of F).side (place_side i)) (own_at (place_side i) l) (i % 7) (omega arith) (attributes-room F Z (place_side i))

  module _ (W : Words) (within : (w : Which) → members_of W w < 2 ^ ((setting_of F).side w).count) (l : ℕ) where
    -- THE LAW of where the covering rule has a condition
    pub present_means : places_in F W l ≡ mask_of 50 (has_at (setting_of F) W l)
    unfolding present_places conjunct_at has_at
    present_means = mask_same 50 _ _ λ i _. test (ltb i 14)
        (λ e. rw e (ap₂ ◌&&◌ (allowed_means l i (ltb-true i 14 e)) (know_means F Z i (ltb-true i 14 e) (members_of W (place_side i)) (within (place_side i)))))
        (λ e. rw e refl)

    has_there : (i : ℕ) → Is (bit (places_in F W l) i) → (i < 50) × Is (has_at (setting_of F) W l i)
    has_there i h =
        let k = sym (ap (λ (m : ℕ). bit m i) present_means ∙ bit-mask_of 50 (has_at (setting_of F) W l) i) ∙ h in
        (ltb-true i 50 (and_l (ltb i 50) _ k), and_r (ltb i 50) _ k)

    attribute-there : (i : ℕ) → i < 14 → Is (bit (places_in F W l) i) → place_attribute i is_in attrs_of ((setting_of F).side (place_side i)) true
    unfolding has_at
    attribute-there i l14 h =
        attribute-wide ((setting_of F).side (place_side i)) (own_at (place_side i) l) (place_attribute i) (elem_out (place_attribute i) _ (and_l (elem (place_attribute i) (attrs_of ((setting_of F).side (place_side i)) (own_at (place_side i) l))) _ (rw (lt-ltb i 14 l14) at (has_there i h).1)))

    met-shown : (i : ℕ) → i < 14 → Is (bit (places_in F W l) i) → get_or (met_in F W l) i 0 ≡ met_of (matches_in F) i (members_of W (place_side i))
    unfolding met_places met_at
    met-shown i h e = table_get 14 (met_at (matches_in F) W (places_in F W l)) i h ∙ ap (λ (b : Bool). cond b (met_of (matches_in F) i (members_of W (place_side i))) 0) e

    holds-shown : (i u r : ℕ) → i < 14 → Is (bit (places_in F W l) i) → by (place_side i) u r < ((setting_of F).side (place_side i)).count → bit (get_or (met_in F W l) i 0) (by (place_side i) u r) ≡ holds_at (setting_of F) W i u r
    unfolding holds_at
    holds-shown i u r h e t =
        ap (λ (m : ℕ). bit m (by (place_side i) u r)) (met-shown i h e)
        ∙ met_means F Z i h (attribute-there i h e) (members_of W (place_side i)) (by (place_side i) u r) (within (place_side i)) t
        ∙ sym (ap (λ (b : Bool). cond b (met_by ((setting_of F).side (place_side i)) (place_attribute i) (bit (members_of W (place_side i))) (by (place_side i) u r)) (holds (setting_of F) (atom ((i - 14) / 6) ((i - 14) % 6)) u r)) (lt-ltb i 14 h))

    module _ (m : ℕ) (sub : (i : ℕ) → Is (bit m i) → Is (bit (places_in F W l) i)) where
      -- who meets all conjuncts of a side
      conjuncts_meet : (w : Which) (u r : ℕ) → by w u r < ((setting_of F).side w).count
          → bit (met_by_all (met_in F W l) m (by w 0 1) ((setting_of F).side w).count) (by w u r) ≡ all (λ i. imp (bit m (7 * by w 0 1 + i)) (holds_at (setting_of F) W (7 * by w 0 1 + i) u r)) (up_to 7)
      unfolding met_by_all
      conjuncts_meet w u r t =
          let n = side-room F Z w in
          bit_mask 64 (narrowing (mask_of 64 (λ x. ltb x ((setting_of F).side w).count)) (λ i. bit m (7 * by w 0 1 + i)) (λ i. get_or (met_in F W l) (7 * by w 0 1 + i) 0) 7) (by w u r) (omega arith)
          ∙ ap₂ ◌&&◌ (bit_mask 64 (λ x. ltb x ((setting_of F).side w).count) (by w u r) (omega arith) ∙ lt-ltb (by w u r) ((setting_of F).side w).count t)
          (all_ext (λ i. imp (bit m (7 * by w 0 1 + i)) (bit (get_or (met_in F W l) (7 * by w 0 1 + i) 0) (by w u r))) (λ i. imp (bit m (7 * by w 0 1 + i)) (holds_at (setting_of F) W (7 * by w 0 1 + i) u r)) (up_to 7) λ i k.
          test (bit m (7 * by w 0 1 + i))
          (λ e. ap (imp (bit m (7 * by w 0 1 + i))) (ap (λ (v : Which). bit (get_or (met_in F W l) (7 * by w 0 1 + i) 0) (by v u r)) (sym (side-at w i (up_to-out 7 k)))
          ∙ holds-shown (7 * by w 0 1 + i) u r (place-low w i (up_to-out 7 k)) (sub (7 * by w 0 1 + i) e) (subst (λ (v : Which). by v u r < ((setting_of F).side v).count) (sym (side-at w i (up_to-out 7 k))) t)))
          (λ e. rw e refl))

      -- the atoms
      atoms_meet : (u r : ℕ) → atoms_hold (setting_of F) (m / 2 ^ 14) u r ≡ all (λ i. imp (bit m (14 + i)) (holds_at (setting_of F) W (14 + i) u r)) (up_to 36)
      unfolding atoms_hold holds_at
      atoms_meet u r = all_ext (λ i. imp (bit (m / 2 ^ 14) i) (holds (setting_of F) (atom (i / 6) (i % 6)) u r)) (λ i. imp (bit m (14 + i)) (holds_at (setting_of F) W (14 + i) u r)) (up_to 36) λ i _.
          let n : (14 + i) - 14 ≡ i = omega arith in
          ap₂ imp (bit-down m 14 i) (sym (ap (λ (b : Bool). cond b (met_by ((setting_of F).side (place_side (14 + i))) (place_attribute (14 + i)) (bit (members_of W (place_side (14 + i)))) (by (place_side (14 + i)) u r)) (holds (setting_of F) (atom (((14 + i) - 14) / 6) (((14 + i) - 14) % 6)) u r)) (le-ltb (14 + i) 14 (omega arith)) ∙ ap (λ (j : ℕ). holds (setting_of F) (atom (j / 6) (j % 6)) u r) n))

      module _ (d : Declared (setting_of F) W.atoms) where
        atoms-declared : Declared (setting_of F) (m / 2 ^ 14)
        unfolding has_at
        atoms-declared i h =
            let n : (14 + i) - 14 ≡ i = omega arith in
            d i (sym (ap (bit W.atoms) n) ∙ (rw (le-ltb (14 + i) 14 (omega arith)) at (has_there (14 + i) (sub (14 + i) (sym (bit-down m 14 i) ∙ h))).1))

        -- who and what meet the conjuncts
        abbrev who : ℕ
        who = met_by_all (met_in F W l) m 0 ((setting_of F).side user).count

        abbrev what : ℕ
        what = met_by_all (met_in F W l) m 1 ((setting_of F).side resource).count

        -- what the table of links has of the rule is what its places grant
        rule-grants : (u r o : ℕ) → Triple (setting_of F) u r o → table_spans (links_of F) (rule_over W (m / 2 ^ 14) who what) u r o ≡ places_grant (setting_of F) W m u r o
        unfolding spans places_grant rule_over
        rule-grants u r o t =
            table-spans F Z (rule_over W (m / 2 ^ 14) who what) atoms-declared u r o t
            ∙ ap (λ (b : Bool). bit W.ops o && b)
            (ap₂ ◌&&◌ (conjuncts_meet user u r t.user) (ap₂ ◌&&◌ (conjuncts_meet resource u r t.resource) (atoms_meet u r))
            ∙ sym (places_split (λ i. imp (bit m i) (holds_at (setting_of F) W i u r))))

        -- THE LAW of the comparison: the rule with the conditions at these places grants just the group's triples
        pub grants_mean : grants_same (links_of F) (met_in F W l) (record_of F).users (record_of F).resources (record_of F).operations W m ≡ same_block (setting_of F) (places_grant (setting_of F) W m) (spans (setting_of F) W)
        unfolding grants_same first_other differ_at record_of record_with setting_of side_of
        grants_mean =
            ap (λ (ts : List (ℕ × ℕ × ℕ)). is_same (difference_of (first (differ_at (table_spans (links_of F) (rule_over W (m / 2 ^ 14) who what)) (table_spans (links_of F) W)) ts))) (sym (triples-same (setting_of F)))
            ∙ same_means (setting_of F) (table_spans (links_of F) (rule_over W (m / 2 ^ 14) who what)) (table_spans (links_of F) W)
            ∙ same_tests (setting_of F) (table_spans (links_of F) (rule_over W (m / 2 ^ 14) who what)) (table_spans (links_of F) W) (places_grant (setting_of F) W m) (spans (setting_of F) W) rule-grants (table-spans F Z W d)

    module _ (d : Declared (setting_of F) W.atoms) where
      -- thinning by the tables is thinning by the policy
      thin_means : (n : ℕ) → thin_to (links_of F) (met_in F W l) (record_of F).users (record_of F).resources (record_of F).operations W (places_in F W l) n ≡ thinned_to (setting_of F) W (places_in F W l) n
      unfolding thin_by thinned_at less_one
      thin_means zero = refl
      thin_means (suc n) =
          let m = thin_to (links_of F) (met_in F W l) (record_of F).users (record_of F).resources (record_of F).operations W (places_in F W l) n in
          ap (λ (b : Bool). cond (bit m n && b) (less_one m n) m)
          (grants_mean (less_one m n) (λ i h. thin-within (links_of F) (met_in F W l) (record_of F).users (record_of F).resources (record_of F).operations W (places_in F W l) n i (less-within m n i h)) d)
          ∙ ap (λ (k : ℕ). thinned_at (setting_of F) W k n) (thin_means n)

      -- the places that stay, for any words of the policy
      pub kept-words : kept_for F W l ≡ kept_places (setting_of F) W l
      unfolding kept_in kept_places
      kept-words = thin_means 50 ∙ ap (λ (m : ℕ). thinned_to (setting_of F) W m 50) present_means

  members-within : (B : Block) (w : Which) → members_of (words_of (setting_of F) B) w < 2 ^ ((setting_of F).side w).count
  unfolding words_of
  members-within B user = mask_lt ((setting_of F).side user).count (stands_in (setting_of F) B user)
  members-within B resource = mask_lt ((setting_of F).side resource).count (stands_in (setting_of F) B resource)

  -- THE LAW of the places that stay of a set of triples: at its level they are those of its written rule (words/specs/FlagLaws)
  pub kept_means : (B : Block) (l : ℕ) → kept_for F (words_of (setting_of F) B) l ≡ kept_places (setting_of F) (words_of (setting_of F) B) l
  kept_means B l = kept-words (words_of (setting_of F) B) (members-within B) l (words-declared (setting_of F) B)
