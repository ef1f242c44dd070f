-- The tables' classes and parts are those of the policy, and each part has its cell in the tables.
-- Assumes nothing.
use Rattle.std.specs.Prelude.{ℕ, ◌≤◌, ◌<◌, ltb, get_or, Bool, ◌&&◌, List, ◌≡◌}
use Rattle.std.proofs.Common.{eq-eqb, ne_eqb, lt-ltb, le-ltb, sym, ◌∙◌}
use Rattle.std.proofs.Math.Dec.{eqb}
use Rattle.std.proofs.Math.Bool.{true, false, cond, not}
use Rattle.std.proofs.Math.Path.{refl, ap, ap₂}
use native.Mathlib.Omega.{arith}
use Rattle.role_admit.specs.RoleTableLaws.{permitted_on, row-shown, holders-shown, holder-within, rows_alike}
use Rattle.grant_parts.specs.Parts.{same_row, class_row, is_first, is_part_in}
use Rattle.role_record.specs.Cells.{most_operations, permission_at}
use Rattle.role_record.specs.Record.{Sized, permission_table, record_with, record_of}
use Rattle.policy.proofs.ClassLaws.{part_facts}
use Rattle.policy.specs.Policy.{Policy, held, side_of, setting_of, roles_in}
use Rattle.policy.specs.Roles.{Part, alike, leads, is_part, parts, class_of}
use Rattle.policy.specs.Rules.{user, resource}
use Rattle.policy.proofs.WrittenLaws.{mask_some}
use Rattle.sets.specs.MaskLaws.{mask_same, mask_none}
use Rattle.sets.specs.Sets.{mask_of}
use Rattle.sets.specs.Tests.{Is, ◌is_in◌, any, up_to}
use Rattle.sets.specs.TestLaws.{never, test, fails, any_in, any_out, any_ext, up_to_in, up_to-out, eqb_turned}

-- ---- cells
-- ---- tests of one operation, one by one

-- the verdict, by the outcome of each test
pub part_by_tests : (holders permissions : List ℕ) (ops k o : ℕ) (b1 b2 b3 : Bool) → ltb o ops ≡ b1 → eqb (get_or holders k 0) 0 ≡ b2 → eqb (get_or permissions (permission_at k o) 0) 0 ≡ b3
    → is_part_in holders permissions ops k o ≡ cond b1 (cond b2 false (cond b3 false (is_first permissions k o))) false
unfolding is_part_in
part_by_tests holders permissions ops k o b1 b2 b3 p q r = rw (p, q, r) refl

-- beyond the operations there are no parts
pub no_part : (holders permissions : List ℕ) (ops k o : ℕ) → ops ≤ o → is_part_in holders permissions ops k o ≡ false
unfolding is_part_in
no_part holders permissions ops k o h = rw (le-ltb o ops h) refl

-- a set of those below n is empty where none of them passes
mask_empty : (f : ℕ → Bool) (n : ℕ) → n ≤ 64 → ((i : ℕ) → Is (f i) → i < n) → eqb (mask_of 64 f) 0 ≡ not (any f (up_to n))
mask_empty f n h within =
    test (any f (up_to n))
    (λ a. let t = any_out f (up_to n) a in
    let l = up_to-out n t.1 in
    let s = mask_some 64 f t.0 (omega arith) t.2 in
    ne_eqb (mask_of 64 f) 0 (λ z. omega arith) ∙ sym (ap not a))
    (λ a. eq-eqb (mask_of 64 f) 0 (mask_none 64 f (λ i l. fails (f i) (λ p. never (any_in f (up_to_in (within i p)) p) a))) ∙ sym (ap not a))

module _ (F : Policy) (Z : Sized F) where
  -- the tables have room for each part
  pub part-role : {p : Part} → p is_in parts (setting_of F) (roles_in F) → p.role < 32
  unfolding roles_in
  part-role {p} i = let n = Z.few in let l : p.role < F.roles = (part_facts (setting_of F) (roles_in F) i).in_roles in omega arith

  pub part-lead : {p : Part} → p is_in parts (setting_of F) (roles_in F) → p.lead < most_operations
  unfolding setting_of
  part-lead {p} i = let n = Z.operable in let l : p.lead < F.operations = (part_facts (setting_of F) (roles_in F) i).in_slots in omega arith

  module _ (k o : ℕ) (hk : k < 32) (ho : o < most_operations) where
    -- THE LAW of classes
    pub class_shown : class_row (record_of F).permissions k (record_of F).operations o ≡ class_of (setting_of F) (roles_in F) (record { role = k; lead = o })
    unfolding record_of record_with class_row class_of setting_of
    class_shown =
        mask_same F.operations (same_row (permission_table F) k o) (alike (setting_of F) (roles_in F) k o)
        (λ q l. let n = Z.operable in ap₂ eqb (row-shown F Z k q hk (omega arith)) (row-shown F Z k o hk ho) ∙ eqb_turned (permitted_on F k q) (permitted_on F k o) ∙ rows_alike F Z k o q)

    first-shown : is_first (record_of F).permissions k o ≡ not (any (λ q. alike (setting_of F) (roles_in F) k q o) (up_to o))
    unfolding record_of record_with is_first
    first-shown =
        ap not (any_ext (same_row (permission_table F) k o) (λ q. alike (setting_of F) (roles_in F) k q o) (up_to o)
        (λ q m. let l = up_to-out o m in ap₂ eqb (row-shown F Z k q hk (omega arith)) (row-shown F Z k o hk ho) ∙ rows_alike F Z k q o))

  -- THE LAW of parts: an operation is the lowest of a part where the tables say so
  pub part-shown : (k o : ℕ) → k < 32 → o < F.operations → is_part_in (record_of F).holders (record_of F).permissions (record_of F).operations k o ≡ is_part (setting_of F) (roles_in F) k o
  unfolding record_of record_with is_part leads permitted_on setting_of side_of roles_in
  part-shown k o hk ho =
      let n = Z.operable in
      let l : o < most_operations = omega arith in
      part_by_tests (record_of F).holders (permission_table F) F.operations k o true _ _ (lt-ltb o F.operations ho)
      (ap (λ (x : ℕ). eqb x 0) (holders-shown F Z k hk) ∙ mask_empty (held F k) (F.table user).count (Z.many user) (holder-within F Z k))
      (ap (λ (x : ℕ). eqb x 0) (row-shown F Z k o hk l) ∙ mask_empty (λ r. F.permitted k r o) (F.table resource).count (Z.many resource) (λ r p. (Z.permits k r o p).1))
      ∙ by_tests (any (λ u. held F k u) (up_to (F.table user).count)) (any (λ r. F.permitted k r o) (up_to (F.table resource).count)) (is_first (permission_table F) k o) _ (first-shown k o hk l)
    where
      by_tests : (a b c d : Bool) → c ≡ d → cond (not a) false (cond (not b) false c) ≡ (a && (b && d))
      by_tests true true c d e = e
      by_tests true false c d e = refl
      by_tests false b c d e = refl
