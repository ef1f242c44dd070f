-- What the tables of a policy's record show of its roles.
-- Assumes nothing.
use Rattle.std.specs.Prelude.{ℕ, ◌≤◌, ◌<◌, eqb, ltb, get_or, ◌⊎◌, ◌≡◌}
use borrow.Author.Tests.{eqb-true, eq-eqb, ltb-true, ltb-false}
use Rattle.std.proofs.Math.Bool.{false, ◌&&◌}
use Rattle.std.proofs.Common.{inl, inr, ◌∙◌}
use Rattle.std.proofs.Math.Path.{sym, ap, ap₂}
use native.Mathlib.Omega.{arith}
use Rattle.role_record.specs.Cells.{most_operations, permission_at, permission_role, permission_operation, permission_cells}
use Rattle.role_record.specs.CellsLaws.{permission_parts}
use Rattle.role_record.specs.Record.{Sized, permission_table, record_with, record_of}
use Rattle.role_record.specs.RecordLaws.{table_get}
use Rattle.policy.proofs.PartLaws.{alike-out, alike_in}
use Rattle.policy.specs.Policy.{Policy, senior, held, side_of, setting_of, roles_in}
use Rattle.policy.proofs.PolicyLaws.{granted}
use Rattle.policy.specs.Roles.{alike, roles_grant}
use Rattle.policy.specs.Rules.{Triple, user, resource}
use Rattle.sets.specs.MaskLaws.{mask_same}
use Rattle.sets.specs.Sets.{bit, mask_of}
use Rattle.sets.specs.SetLaws.{bit_mask}
use Rattle.sets.specs.Tests.{Is, any, up_to}
use Rattle.sets.specs.TestLaws.{and_r, or_out, test, fails, same, any_out, up_to-out, any_ext}

-- the resources that a role is permitted under an operation
unfoldable pub permitted_on : Policy → ℕ → ℕ → ℕ
permitted_on F k o = mask_of 64 (λ r. F.permitted k r o)

module _ (F : Policy) (Z : Sized F) where
  pub row-shown : (k o : ℕ) → k < 32 → o < most_operations → get_or (permission_table F) (permission_at k o) 0 ≡ permitted_on F k o
  unfolding permission_table permitted_on
  row-shown k o hk ho =
      table_get (permission_cells most_operations) (λ i. mask_of 64 (λ r. F.permitted (permission_role i) r (permission_operation i))) (permission_at k o) (omega arith)
      ∙ permission_parts (λ x y. mask_of 64 (λ r. F.permitted x r y)) k o hk

  pub holders-shown : (k : ℕ) → k < 32 → get_or (record_of F).holders k 0 ≡ mask_of 64 (held F k)
  unfolding record_of record_with
  holders-shown k h = table_get 32 (λ k. mask_of 64 (held F k)) k h

  pub holder-within : (k u : ℕ) → Is (held F k u) → u < (F.table user).count
  unfolding held
  holder-within k u h = go (or_out (F.assigned k u) (any (λ s. senior F k s && F.assigned s u) (up_to F.roles)) h)
    where
      go : Is (F.assigned k u) ⊎ Is (any (λ s. senior F k s && F.assigned s u) (up_to F.roles)) → u < (F.table user).count
      go (inl a) = (Z.assigned-to k u a).1
      go (inr a) = let t = any_out (λ s. senior F k s && F.assigned s u) (up_to F.roles) a in (Z.assigned-to t.0 u (and_r (senior F k t.0) (F.assigned t.0 u) t.2)).1

  -- operations are alike where their rows are equal
  pub rows_alike : (k q o : ℕ) → eqb (permitted_on F k q) (permitted_on F k o) ≡ alike (setting_of F) (roles_in F) k q o
  unfolding permitted_on roles_in setting_of side_of
  rows_alike k q o =
      same (eqb (permitted_on F k q) (permitted_on F k o)) (alike (setting_of F) (roles_in F) k q o)
      (λ h. alike_in (setting_of F) (roles_in F) k q o (λ r l. let m = Z.many resource in sym (bit_mask 64 (λ r. F.permitted k r q) r (omega arith)) ∙ ap (λ (x : ℕ). bit x r) (eqb-true (permitted_on F k q) (permitted_on F k o) h) ∙ bit_mask 64 (λ r. F.permitted k r o) r (omega arith)))
      (λ h. eq-eqb (permitted_on F k q) (permitted_on F k o) (mask_same 64 (λ r. F.permitted k r q) (λ r. F.permitted k r o) (λ r l. test (ltb r (F.table resource).count)
      (λ e. alike-out (setting_of F) (roles_in F) k q o r (ltb-true r (F.table resource).count e) h)
      (λ e. let n = ltb-false r (F.table resource).count e in outside k r q n ∙ sym (outside k r o n)))))
    where
      outside : (k r o : ℕ) → (F.table resource).count ≤ r → F.permitted k r o ≡ false
      outside k r o n = fails (F.permitted k r o) λ p. let a = (Z.permits k r o p).1 in omega arith

  -- ---- what the tables grant

  role-grants : (u r o k : ℕ) → u < 64 → r < 64 → o < most_operations → k < 32
      → (bit (get_or (record_of F).holders k 0) u && bit (get_or (record_of F).permissions (permission_at k o) 0) r) ≡ (held F k u && F.permitted k r o)
  unfolding record_of record_with permitted_on
  role-grants u r o k hu hr ho hk =
      ap₂ ◌&&◌
      (ap (λ (m : ℕ). bit m u) (holders-shown k hk) ∙ bit_mask 64 (held F k) u hu)
      (ap (λ (m : ℕ). bit m r) (row-shown k o hk ho) ∙ bit_mask 64 (λ r. F.permitted k r o) r hr)

  -- some role that the user holds has the permission, by the tables
  pub record-grants : (u r o : ℕ) → Triple (setting_of F) u r o
      → any (λ k. bit (get_or (record_of F).holders k 0) u && bit (get_or (record_of F).permissions (permission_at k o) 0) r) (up_to F.roles) ≡ roles_grant (setting_of F) (roles_in F) u r o
  unfolding setting_of side_of
  record-grants u r o t =
      let lu = t.user in
      let lr = t.resource in
      let lo = t.op in
      let mu = Z.many user in
      let mr = Z.many resource in
      let mo = Z.operable in
      let mk = Z.few in
      any_ext (λ k. bit (get_or (record_of F).holders k 0) u && bit (get_or (record_of F).permissions (permission_at k o) 0) r) (λ k. held F k u && F.permitted k r o) (up_to F.roles)
      (λ k m. let l = up_to-out F.roles m in role-grants u r o k (omega arith) (omega arith) (omega arith) (omega arith))
      ∙ sym (granted F u r o t)
