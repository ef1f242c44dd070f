-- What the tables say of operands is what the definitions say.
-- Assumes nothing.
use Prim.Native.Nat.{ℕ, zero, suc, ◌≤◌, ◌<◌}
use borrow.Author.Tests.{ne_eqb, ltb-true, lt-ltb, le-ltb}
use Rattle.std.specs.Prelude.{eqb, ltb, length, get_or, Bool, cond, List, ◌≡◌}
use Rattle.std.proofs.Math.ListN.{set}
use Rattle.std.proofs.Math.Bool.{true, false, not}
use Rattle.std.proofs.Math.Option.{none}
use Rattle.std.proofs.Math.Path.{refl, ap}
use Rattle.std.proofs.Common.{sym, ◌∙◌, arith}
use Rattle.role_admit.specs.AdmitLaws.{side-attributes, side-kinds}
use Rattle.role_record.specs.Record.{Sized, attribute_table, kind_table, domain_table, same_domain}
use Rattle.role_record.specs.RecordLaws.{domains_same}
use Rattle.files.specs.Beside.{beside_of}
use Rattle.files.specs.RoleFile.{side_by}
use Rattle.files.specs.RuleFile.{own_value, legal, value, link}
use Rattle.rule_legal.specs.Operands.{own_legal, value_legal, link_legal}
use Rattle.policy.specs.Policy.{Policy, kind_of, is_set_at, side_of, setting_of, roles_in}
use Rattle.policy.specs.Rules.{own, Which, form_of, user, resource}
use Rattle.sets.specs.Sets.{bit}
use Rattle.sets.specs.SetLaws.{bit_mask}
use Rattle.sets.specs.Tests.{is_some}
use Rattle.sets.specs.TestLaws.{test}

form_there : (x y : Bool) → is_some (form_of x y) ≡ cond x true (not y)
form_there true true = refl
form_there true false = refl
form_there false true = refl
form_there false false = refl

form_within : (same x y : Bool) → cond same (cond x true (not y)) false ≡ is_some (cond same (form_of x y) none)
form_within true x y = sym (form_there x y)
form_within false x y = refl

module _ (F : Policy) (Z : Sized F) where
  -- a declared attribute is no 255
  not_own : (w : Which) (a : ℕ) → a < length (F.table w).kinds → eqb a own ≡ false
  not_own w a h = let n = Z.declared w in ne_eqb a own (omega arith)

  below-six : (w : Which) (a : ℕ) → a < length (F.table w).kinds → a < 6
  below-six w a h = let n = Z.declared w in omega arith

  pub kind_shown : (side a : ℕ) → side < 2 → a < length (F.table (side_by side)).kinds → bit (get_or (kind_table F) side 0) a ≡ is_set_at F (side_by side) a
  unfolding is_set_at
  kind_shown side a hs ha =
      let n = Z.declared (side_by side) in
      ap (λ (m : ℕ). bit m a) (side-kinds F side hs) ∙ bit_mask 64 (kind_of (F.table (side_by side))) a (omega arith) ∙ rw (not_own (side_by side) a ha) refl

  -- ---- commands 22 to 25

  own_means : (side : ℕ) (set : Bool) (v : ℕ) → side < 2 → own_legal side set v F.roles (F.table resource).count ≡ own_value (setting_of F) (roles_in F) (side_by side) set v
  unfolding own_legal setting_of side_of roles_in
  own_means zero true v h = refl
  own_means zero false v h = refl
  own_means (suc zero) true v h = refl
  own_means (suc zero) false v h = refl
  own_means (suc (suc n)) set v h = absurd (omega arith)

  pub value_means : (side : ℕ) (set : Bool) (a v : ℕ) → side < 2 → value_legal side set a v F.roles (F.table resource).count (attribute_table F) (kind_table F) ≡ legal (beside_of F) (value (side_by side) set a v)
  unfolding value_legal legal setting_of side_of
  value_means side set a v h =
      test (eqb a own)
      (λ e. rw e (own_means side set v h))
      (λ e. rw (e, side-attributes F side h) (test (ltb a (length (F.table (side_by side)).kinds))
      (λ q. rw (q, kind_shown side a h (ltb-true a (length (F.table (side_by side)).kinds) q)) refl)
      (λ q. rw q refl)))

  -- ---- command 27

  pub link_means : (a b : ℕ) → link_legal a b (attribute_table F) (kind_table F) (domain_table F) ≡ legal (beside_of F) (link a b)
  unfolding link_legal legal setting_of side_of
  link_means a b =
      rw (side-attributes F 0 (omega arith), side-attributes F 1 (omega arith))
      (test (ltb a (length (F.table user).kinds))
      (λ p. test (ltb b (length (F.table resource).kinds))
      (λ q. rw (p, q, kind_shown 0 a (omega arith) (ltb-true a (length (F.table user).kinds) p), kind_shown 1 b (omega arith) (ltb-true b (length (F.table resource).kinds) q), domains_same F a b (below-six user a (ltb-true a (length (F.table user).kinds) p)) (below-six resource b (ltb-true b (length (F.table resource).kinds) q))) (form_within (eqb ((F.table user).domain a) ((F.table resource).domain b)) (is_set_at F user a) (is_set_at F resource b)))
      (λ q. rw (p, q) refl))
      (λ p. rw p refl))

-- ---- whether an atom is legal, test by test

module _ (a b : ℕ) (attributes kinds domains : List ℕ) where
  -- the user's attribute is not declared
  pub link_user_unknown : get_or attributes 0 0 ≤ a → false ≡ link_legal a b attributes kinds domains
  unfolding link_legal
  link_user_unknown h = rw (le-ltb a (get_or attributes 0 0) h) refl

  -- the resource's is not
  pub link_resource_unknown : a < get_or attributes 0 0 → get_or attributes 1 0 ≤ b → false ≡ link_legal a b attributes kinds domains
  unfolding link_legal
  link_resource_unknown h k = rw (lt-ltb a (get_or attributes 0 0) h, le-ltb b (get_or attributes 1 0) k) refl

  -- the domains differ
  pub link_across : a < get_or attributes 0 0 → b < get_or attributes 1 0 → same_domain domains a b ≡ false → false ≡ link_legal a b attributes kinds domains
  unfolding link_legal
  link_across h k d = rw (lt-ltb a (get_or attributes 0 0) h, lt-ltb b (get_or attributes 1 0) k, d) refl

  -- a set may contain either kind
  pub link_of_set : a < get_or attributes 0 0 → b < get_or attributes 1 0 → same_domain domains a b ≡ true → bit (get_or kinds 0 0) a ≡ true → true ≡ link_legal a b attributes kinds domains
  unfolding link_legal
  link_of_set h k d e = rw (lt-ltb a (get_or attributes 0 0) h, lt-ltb b (get_or attributes 1 0) k, d, e) refl

  -- a single equals only a single
  pub link_of_single : {set : Bool} → a < get_or attributes 0 0 → b < get_or attributes 1 0 → same_domain domains a b ≡ true → bit (get_or kinds 0 0) a ≡ false → set ≡ bit (get_or kinds 1 0) b → not set ≡ link_legal a b attributes kinds domains
  unfolding link_legal
  link_of_single h k d e q = rw (lt-ltb a (get_or attributes 0 0) h, lt-ltb b (get_or attributes 1 0) k, d, e) (ap not q)
