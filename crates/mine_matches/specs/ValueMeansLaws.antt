-- What a conjunct lists, read off the tables of a policy's record, is what its covering rule lists, thinned.
-- Assumes nothing.
use Rattle.std.specs.Prelude.{ℕ, ◌%◌, ◌^◌, ◌<◌, ltb, get_or, Bool, false, not, List, ◌≡◌, refl}
use borrow.Author.Tests.{eqb-true, eqb-false, eq-eqb, ne_eqb, ltb-true, not-true}
use Rattle.std.proofs.Math.Dec.{eqb}
use Rattle.std.proofs.Math.Bool.{cond}
use Rattle.std.proofs.Math.Option.{some}
use Rattle.std.proofs.Math.Path.{sym, ap, fun_ext}
use Rattle.std.proofs.Common.{◌∙◌}
use native.Mathlib.Omega.{arith}
use Rattle.role_admit.specs.AdmitLaws.{side-kinds}
use Rattle.role_record.specs.Places.{place_side, place_attribute}
use Rattle.role_record.specs.Record.{Sized, number_or, record_with, record_of}
use Rattle.role_record.specs.RecordLaws.{table_get, side-room}
use Rattle.policy.specs.Covering.{all_know, values_of}
use Rattle.policy.specs.Policy.{Policy, kind_of, meets_value, is_set_at, side_of, setting_of}
use Rattle.policy.specs.Rules.{own, Which, by, user, resource, conjunct}
use Rattle.policy.proofs.SideLaws.{values-in, values-out, values-rising}
use Rattle.policy.specs.Thinning.{strictly, trim, trim_cond}
use Rattle.sets.specs.ListLaws.{keep_all}
use Rattle.sets.specs.MaskLaws.{bit-low}
use Rattle.sets.specs.Sets.{bit, subset}
use Rattle.sets.specs.SetLaws.{bit_mask, subset-out}
use Rattle.sets.specs.SortedLaws.{rising_ext, numbers}
use Rattle.sets.specs.Tests.{Is, ◌is_in◌, any, is_some}
use Rattle.sets.specs.TestLaws.{and_l, and_r, never, test, fails, all-out, any_out, keep_in, up_to_in, is_some-out, not_in}
use Rattle.mine_theory.proofs.Words.FlagLaws.{cond-conjunct}
use Rattle.mine_theory.specs.Words.Flags.{cond_at}
use Rattle.mine_theory.specs.Words.Words.{Words, members_of}
use Rattle.mine_matches.specs.MatchLaws.{value_means, know_means}
use Rattle.mine_matches.specs.Matches.{known_for, known_places, known_in}
use Rattle.mine_matches.specs.MatchTableLaws.{known_valued}
use Rattle.grant_values.specs.PlaceValues.{value_for, values_at, knowing}
use Rattle.grant_listed.specs.ValueLaws.{among_in, among-out, among-rising}
use Rattle.grant_listed.specs.Values.{lists_least, values_among, listed_of}

-- the values at a place, from the tables of a policy's record
abbrev pub values_in : Policy → ℕ → List ℕ
values_in F i = values_at (record_of F).values (record_of F).holders (record_of F).roles i

-- ---- thinning by other orders

trim_ext : (le le' : ℕ → ℕ → Bool) (vs : List ℕ) → ((x y : ℕ) → le x y ≡ le' x y) → trim le vs ≡ trim le' vs
trim_ext le le' vs h = ap (λ (o : ℕ → ℕ → Bool). trim o vs) (fun_ext λ x. fun_ext λ y. h x y)

-- no value lies strictly above another by equality
trim-equal : (vs : List ℕ) → trim eqb vs ≡ vs
unfolding trim
trim-equal vs = keep_all (λ v. not (any (λ w. strictly eqb w v) vs)) vs λ v m. not_in (any (λ w. strictly eqb w v) vs) (fails (any (λ w. strictly eqb w v) vs) λ p.
    let t = any_out (λ w. strictly eqb w v) vs p in
    never (eq-eqb v t.0 (sym (eqb-true t.0 v (and_l (eqb t.0 v) _ t.2)))) (not-true (eqb v t.0) (and_r (eqb t.0 v) _ t.2)))

module _ (F : Policy) (Z : Sized F) where
  -- user sets are thinned by containment
  pub below-sets : (a : ℕ) → Is (((setting_of F).side user).is_set a) → (x y : ℕ) → ((setting_of F).side user).below a x y ≡ subset x y
  unfolding setting_of side_of
  below-sets a h x y = ap (λ (b : Bool). meets_value user b x y) h

  -- single user values are compared by equality
  pub below_singles : (a : ℕ) → ((setting_of F).side user).is_set a ≡ false → (x y : ℕ) → ((setting_of F).side user).below a x y ≡ eqb x y
  unfolding setting_of side_of
  below_singles a h x y = ap (λ (b : Bool). meets_value user b x y) h

  -- THE LAW of where only the least sets are listed: in conjuncts of user sets
  pub least_means : (i : ℕ) → i < 14 → lists_least (record_of F).kinds i ≡ by (place_side i) (((setting_of F).side (place_side i)).is_set (place_attribute i)) false
  unfolding lists_least record_of record_with setting_of side_of is_set_at
  least_means i hi = test (ltb i 7)
      (λ h. let l = ltb-true i 7 h in
      let e : i % 7 ≡ i = omega arith in
      rw (h, e) (test (eqb i 6)
      (λ q. rw q refl)
      (λ q. let d = eqb-false i 6 q in rw (q, ne_eqb i own (λ z. omega arith), side-kinds F 0 (omega arith)) (bit_mask 64 (kind_of (F.table user)) i (omega arith)))))
      (λ h. rw h refl)

  -- of a user set only the least are listed, of anything else all
  thinned-side : (w : Which) (a : ℕ) (table vs : List ℕ) (members : ℕ) (least : Bool) → least ≡ by w (((setting_of F).side w).is_set a) false → values_among table members ≡ vs
      → listed_of table members least ≡ by w (trim (((setting_of F).side w).below a) vs) vs
  unfolding listed_of
  thinned-side user a table vs members least q e = test (((setting_of F).side user).is_set a)
      (λ h. ap (λ (b : Bool). cond b (trim subset (values_among table members)) (values_among table members)) (q ∙ h) ∙ ap (trim subset) e ∙ sym (trim_ext (((setting_of F).side user).below a) subset vs (below-sets a h)))
      (λ h. ap (λ (b : Bool). cond b (trim subset (values_among table members)) (values_among table members)) (q ∙ h) ∙ e ∙ sym (trim_ext (((setting_of F).side user).below a) eqb vs (below_singles a h) ∙ trim-equal vs))
  thinned-side resource a table vs members least q e = ap (λ (b : Bool). cond b (trim subset (values_among table members)) (values_among table members)) q ∙ e

  module _ (i : ℕ) (hi : i < 14) where
    -- THE LAW of values: a word of the table is the value, where it is known
    pub values_means : (x v : ℕ) → x < ((setting_of F).side (place_side i)).count → ((setting_of F).side (place_side i)).value (place_attribute i) x ≡ some v → get_or (values_in F i) x 0 ≡ v
    unfolding values_at
    values_means x v l e =
        let n = side-room F Z (place_side i) in
        table_get 64 (value_for (record_of F).values (record_of F).holders (record_of F).roles i) x (omega arith)
        ∙ value_means F Z i hi x l ∙ ap number_or e

    module _ (members : ℕ) (hm : members < 2 ^ ((setting_of F).side (place_side i)).count) (k : Is (all_know ((setting_of F).side (place_side i)) (bit members) (place_attribute i))) where
      known-value : (x : ℕ) → x < ((setting_of F).side (place_side i)).count → Is (bit members x) → ((setting_of F).side (place_side i)).value (place_attribute i) x ≡ some (get_or (values_in F i) x 0)
      unfolding all_know
      known-value x l b =
          let t = is_some-out (((setting_of F).side (place_side i)).value (place_attribute i) x) (all-out (λ w. is_some (((setting_of F).side (place_side i)).value (place_attribute i) w)) k (keep_in (bit members) (up_to_in l) b)) in
          t.1 ∙ ap some (sym (values_means x t.0 l t.1))

      -- whoever is a member has a value there
      pub members_valued : (x : ℕ) → Is (bit members x) → Is (bit (knowing (record_of F).users (record_of F).resources (record_of F).known i) x)
      unfolding known_places
      members_valued x b =
          let n = side-room F Z (place_side i) in
          let l = bit-low ((setting_of F).side (place_side i)).count members x hm b in
          known_valued (record_of F).users (record_of F).resources (record_of F).known i x (omega arith)
          (ap (λ (m : ℕ). bit m x) (sym (table_get 14 (known_for (record_of F).users (record_of F).resources (record_of F).known) i hi))
          ∙ subset-out members (get_or (known_in F) i 0) (know_means F Z i hi members hm ∙ k) x b)

      -- THE LAW of the values of some members: they are those of the covering rule's conjunct
      pub among_means : values_among (values_in F i) members ≡ values_of ((setting_of F).side (place_side i)) (bit members) (place_attribute i)
      among_means =
          rising_ext numbers.apart (among-rising (values_in F i) members) (values-rising ((setting_of F).side (place_side i)) (bit members) (place_attribute i)) there back
        where
          there : (v : ℕ) → v is_in values_among (values_in F i) members → v is_in values_of ((setting_of F).side (place_side i)) (bit members) (place_attribute i)
          there v m =
              let t = among-out (values_in F i) members m in
              let l = bit-low ((setting_of F).side (place_side i)).count members t.0 hm t.2 in
              values-in ((setting_of F).side (place_side i)) (bit members) (place_attribute i) l t.2 (known-value t.0 l t.2 ∙ ap some (sym t.3))

          back : (v : ℕ) → v is_in values_of ((setting_of F).side (place_side i)) (bit members) (place_attribute i) → v is_in values_among (values_in F i) members
          back v m =
              let t = values-out ((setting_of F).side (place_side i)) (bit members) (place_attribute i) m in
              let n = side-room F Z (place_side i) in
              let d = values_means t.0 v t.1 t.3 in
              rw (← d) (among_in (values_in F i) members t.0 (omega arith) t.2)

      -- THE LAW of a conjunct: what is listed is what the written rule lists at that place
      pub values-place : (W : Words) (least : Bool) → members_of W (place_side i) ≡ members → least ≡ by (place_side i) (((setting_of F).side (place_side i)).is_set (place_attribute i)) false
          → conjunct (place_side i) (place_attribute i) (listed_of (values_in F i) members least) ≡ trim_cond (setting_of F) (cond_at (setting_of F) W i)
      unfolding trim_cond
      values-place W least e q =
          ap (conjunct (place_side i) (place_attribute i))
          (thinned-side (place_side i) (place_attribute i) (values_in F i) (values_of ((setting_of F).side (place_side i)) (bit (members_of W (place_side i))) (place_attribute i)) members least q
          (among_means ∙ ap (λ (m : ℕ). values_of ((setting_of F).side (place_side i)) (bit m) (place_attribute i)) (sym e)))
          ∙ sym (ap (trim_cond (setting_of F)) (cond-conjunct (setting_of F) W i hi))
