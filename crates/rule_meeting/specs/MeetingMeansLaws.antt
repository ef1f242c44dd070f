-- Who the tables say meets a listed value is who the definitions say does.
-- Assumes nothing.
use Rattle.std.specs.Prelude.{ℕ, zero, suc, ◌+◌, ◌*◌, ◌^◌, ◌<◌, ltb, length, get_or, Bool, true, cond, ◌||◌, [], ◌∷◌, ◌≡◌}
use borrow.Author.Tests.{eqb-true, eq-eqb, ne_eqb, ltb-true, ltb-false, lt-ltb}
use Rattle.std.proofs.Math.Dec.{eqb}
use Rattle.std.proofs.Math.ListN.{set}
use Rattle.std.proofs.Math.Bool.{false, ◌&&◌, or-false}
use Rattle.std.proofs.lemmas.Bool.{false≢true}
use Rattle.std.proofs.Math.Option.{Option, none, some}
use Rattle.std.proofs.Math.Path.{refl, sym, ap, ap₂}
use Rattle.std.proofs.Common.{◌∙◌}
use native.Mathlib.Omega.{arith}
use Rattle.role_admit.specs.AdmitLaws.{column-known}
use Rattle.role_record.specs.Record.{Sized, number_or, known_table, value_table, record_with, record_of}
use Rattle.files.specs.Beside.{beside_of}
use Rattle.files.specs.RoleFile.{side_by}
use Rattle.files.specs.RuleFile.{own_value, legal, value}
use Rattle.role_record.specs.RecordLaws.{table_get, value-shown}
use Rattle.rule_meeting.specs.Meeting.{order, meets_at, holds_all, meeting_of}
use Rattle.policy.specs.Policy.{Policy, kind_of, meets_value, held, roles_of, is_set_at, value_at, side_of, setting_of, roles_in}
use Rattle.policy.specs.Rules.{own, Which, by, admits, meets, user, resource}
use Rattle.sets.specs.MaskLaws.{bit-out, mask_same, mask_wide}
use Rattle.sets.specs.Sets.{bit, subset, mask_of}
use Rattle.sets.specs.SetLaws.{bit-none, subset-out, subset_in, bit_mask}
use Rattle.sets.specs.Tests.{Is, imp, iff, all, up_to, is_some}
use Rattle.sets.specs.TestLaws.{and_in, and_l, and_r, never, test, fails, same, imp_in, imp-out, iff-out, all-out, all_in, up_to_in, up_to-out}

module _ (F : Policy) (Z : Sized F) where
  -- the sides' ways of meeting a value: user sets contain it, all others equal it
  order-meets : (w : Which) (set : Bool) (v x : ℕ) → order (by w set false) v x ≡ meets_value w set v x
  order-meets user true v x = refl
  order-meets user false v x = refl
  order-meets resource set v x = refl

  -- somebody's value and whether it is known
  admits-shown : (le : ℕ → ℕ → Bool) (v : ℕ) (o : Option ℕ) → (is_some o && le v (number_or o)) ≡ admits le (v ∷ []) o
  admits-shown le v none = refl
  admits-shown le v (some y) = sym (or-false (le v y))

  -- ---- a declared attribute

  declared-met : (side : ℕ) (set : Bool) (a v x : ℕ) → side < 2 → a < length (F.table (side_by side)).kinds → kind_of (F.table (side_by side)) a ≡ set → x < 64
      → meets_at (get_or (known_table F) (6 * side + a) 0) (value_table F) (6 * side + a) v (cond (eqb side 0) set false) x ≡ meets ((setting_of F).side (side_by side)) a (v ∷ []) x
  unfolding meets_at meets setting_of side_of is_set_at value_at
  declared-met side set a v x hs ha e hx =
      let n = Z.declared (side_by side) in
      let h6 : a < 6 = omega arith in
      ap₂ ◌&&◌ (column-known F side a x hs h6 hx) (ap (order (cond (eqb side 0) set false) v) (value-shown F side a x hs h6 hx))
      ∙ ap (λ (b : Bool). is_some ((F.table (side_by side)).value a x) && order b v (number_or ((F.table (side_by side)).value a x))) (by_side side hs)
      ∙ ap (λ (b : Bool). is_some ((F.table (side_by side)).value a x) && b) (order-meets (side_by side) set v (number_or ((F.table (side_by side)).value a x)))
      ∙ admits-shown (meets_value (side_by side) set) v ((F.table (side_by side)).value a x)
      ∙ rw (not_255, e) refl
    where
      not_255 : eqb a own ≡ false
      not_255 = let n = Z.declared (side_by side) in ne_eqb a own (omega arith)

      by_side : (side : ℕ) → side < 2 → cond (eqb side 0) set false ≡ by (side_by side) set false
      by_side zero h = refl
      by_side (suc zero) h = refl
      by_side (suc (suc n)) h = absurd (omega arith)

  -- ---- the roles held

  holder-shown : (k u : ℕ) → k < F.roles → u < 64 → bit (get_or (record_of F).holders k 0) u ≡ bit (roles_of F u) k
  unfolding record_of record_with roles_of
  holder-shown k u lk lu =
      let n = Z.few in
      ap (λ (m : ℕ). bit m u) (table_get 32 (λ k. mask_of 64 (held F k)) k (omega arith)) ∙ bit_mask 64 (held F k) u lu ∙ sym (bit_mask F.roles (λ k. held F k u) k lk)

  roles-met : (v u : ℕ) → v < 2 ^ F.roles → u < 64 → holds_all (record_of F).holders F.roles v u ≡ meets ((setting_of F).side user) own (v ∷ []) u
  unfolding holds_all meets setting_of side_of is_set_at value_at
  roles-met v u hv hu = same (all (λ k. imp (bit v k) (bit (get_or (record_of F).holders k 0) u)) (up_to F.roles)) (subset v (roles_of F u)) there back ∙ sym (or-false (subset v (roles_of F u)))
    where
      there : Is (all (λ k. imp (bit v k) (bit (get_or (record_of F).holders k 0) u)) (up_to F.roles)) → Is (subset v (roles_of F u))
      there h = subset_in v (roles_of F u) λ k b.
          test (ltb k F.roles)
          (λ e. let l = ltb-true k F.roles e in sym (holder-shown k u l hu) ∙ imp-out (bit (get_or (record_of F).holders k 0) u) (all-out (λ k. imp (bit v k) (bit (get_or (record_of F).holders k 0) u)) h (up_to_in l)) b)
          (λ e. never b (bit-out F.roles v k hv (ltb-false k F.roles e)))

      back : Is (subset v (roles_of F u)) → Is (all (λ k. imp (bit v k) (bit (get_or (record_of F).holders k 0) u)) (up_to F.roles))
      back h = all_in (λ k. imp (bit v k) (bit (get_or (record_of F).holders k 0) u)) (up_to F.roles) λ k m.
          imp_in (bit v k) (bit (get_or (record_of F).holders k 0) u) (λ b. holder-shown k u (up_to-out F.roles m) hu ∙ subset-out v (roles_of F u) h k b)

  -- ---- the resource's own number

  number-met : (v x : ℕ) → eqb x v ≡ meets ((setting_of F).side resource) own (v ∷ []) x
  unfolding meets setting_of side_of is_set_at value_at
  number-met v x = same (eqb x v) (eqb v x) (λ h. eq-eqb v x (sym (eqb-true x v h))) (λ h. eq-eqb x v (sym (eqb-true v x h))) ∙ sym (or-false (eqb v x))

  -- THE LAW: who meets a legal listed value
  pub meeting_means : (side : ℕ) (set : Bool) (a v : ℕ) → side < 2 → Is (legal (beside_of F) (value (side_by side) set a v))
      → meeting_of side set a v (F.table (side_by side)).count F.roles (known_table F) (value_table F) (record_of F).holders ≡ mask_of (F.table (side_by side)).count (meets ((setting_of F).side (side_by side)) a (v ∷ []))
  unfolding meeting_of legal setting_of side_of is_set_at roles_in
  meeting_means side set a v hs h = go (eqb a own) refl h
    where
      declared : eqb a own ≡ false → Is (ltb a (length (F.table (side_by side)).kinds) && iff (is_set_at F (side_by side) a) set)
          → meeting_of side set a v (F.table (side_by side)).count F.roles (known_table F) (value_table F) (record_of F).holders ≡ mask_of (F.table (side_by side)).count (meets ((setting_of F).side (side_by side)) a (v ∷ []))
      declared e k =
          let la = ltb-true a (length (F.table (side_by side)).kinds) (and_l (ltb a (length (F.table (side_by side)).kinds)) _ k) in
          let q = iff-out (is_set_at F (side_by side) a) set (and_r (ltb a (length (F.table (side_by side)).kinds)) _ k) in
          let n = Z.declared (side_by side) in
          let m = Z.many (side_by side) in
          rw (lt-ltb a 6 (omega arith))
          (mask_same (F.table (side_by side)).count (meets_at (get_or (known_table F) (6 * side + a) 0) (value_table F) (6 * side + a) v (cond (eqb side 0) set false)) (meets ((setting_of F).side (side_by side)) a (v ∷ [])) (λ x l. declared-met side set a v x hs la (sym (rw e refl) ∙ q) (omega arith)))

      own-user : (set : Bool) → a ≡ own → Is (own_value (setting_of F) (roles_in F) user set v) → meeting_of 0 set a v (F.table user).count F.roles (known_table F) (value_table F) (record_of F).holders ≡ mask_of (F.table user).count (meets ((setting_of F).side user) a (v ∷ []))
      own-user true e k =
          let m = Z.many user in
          rw e (mask_same (F.table user).count (holds_all (record_of F).holders F.roles v) (meets ((setting_of F).side user) own (v ∷ [])) (λ u l. roles-met v u (ltb-true v (2 ^ F.roles) k) (omega arith)))
      own-user false e k = absurd (false≢true k)

      own-resource : (set : Bool) → a ≡ own → Is (own_value (setting_of F) (roles_in F) resource set v) → meeting_of 1 set a v (F.table resource).count F.roles (known_table F) (value_table F) (record_of F).holders ≡ mask_of (F.table resource).count (meets ((setting_of F).side resource) a (v ∷ []))
      own-resource true e k = absurd (false≢true k)
      own-resource false e k =
          let m = Z.many resource in
          let l = ltb-true v (F.table resource).count k in
          rw e
          (mask_same 64 (λ k. bit 0 k || eqb k v) (λ k. ltb k (F.table resource).count && meets ((setting_of F).side resource) own (v ∷ []) k)
          (λ x lx. ap (λ (b : Bool). b || eqb x v) (bit-none x) ∙ test (eqb x v)
          (λ q. let d = eqb-true x v q in q ∙ sym (and_in (lt-ltb x (F.table resource).count (omega arith)) (sym (number-met v x) ∙ q)))
          (λ q. q ∙ sym (fails (ltb x (F.table resource).count && meets ((setting_of F).side resource) own (v ∷ []) x) λ y. never (number-met v x ∙ and_r (ltb x (F.table resource).count) _ y) q)))
          ∙ sym (mask_wide (F.table resource).count 64 (meets ((setting_of F).side resource) own (v ∷ [])) m))

      owned : (side : ℕ) → side < 2 → a ≡ own → Is (own_value (setting_of F) (roles_in F) (side_by side) set v) → meeting_of side set a v (F.table (side_by side)).count F.roles (known_table F) (value_table F) (record_of F).holders ≡ mask_of (F.table (side_by side)).count (meets ((setting_of F).side (side_by side)) a (v ∷ []))
      owned zero hs e k = own-user set e k
      owned (suc zero) hs e k = own-resource set e k
      owned (suc (suc n)) hs e k = absurd (omega arith)

      go : (b : Bool) → eqb a own ≡ b → Is (cond b (own_value (setting_of F) (roles_in F) (side_by side) set v) (ltb a (length (F.table (side_by side)).kinds) && iff (is_set_at F (side_by side) a) set)) → meeting_of side set a v (F.table (side_by side)).count F.roles (known_table F) (value_table F) (record_of F).holders ≡ mask_of (F.table (side_by side)).count (meets ((setting_of F).side (side_by side)) a (v ∷ []))
      go true e k = owned side hs (eqb-true a own e) k
      go false e k = declared e k
