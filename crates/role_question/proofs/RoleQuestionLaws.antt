-- What the record says of a question is what the policy says.
-- Assumes nothing.
use Rattle.std.specs.Prelude.{ℕ, ◌≤◌, ◌<◌, get_or, Bool, true, false, ◌&&◌, List, ◌≡◌, refl}
use Rattle.std.proofs.Common.{sym, ap, ◌∙◌, arith}
use Rattle.files.specs.Answer.{Refusal, beyond, refused, accepted, map_answer}
use Rattle.files.proofs.AnswerLaws.{map-refused}
use Rattle.files.proofs.CallLaws.{triple-of}
use Rattle.files.specs.Calls.{is_triple, role_question}
use Rattle.files.specs.RoleFile.{read_roles}
use Rattle.policy.specs.Policy.{Policy, side_of, setting_of, roles_in}
use Rattle.policy.specs.Roles.{roles_grant}
use Rattle.role_admit.specs.RoleTableLaws.{record-grants}
use Rattle.role_file.specs.SizedLaws.{read_policy}
use Rattle.role_record.specs.Cells.{most_operations, permission_at}
use Rattle.role_record.specs.Record.{Sized, sizes_of, in_sizes, record_with, record_of}
use Rattle.role_record.specs.declared.RoleFile.{RoleFile}
use Rattle.sets.specs.Sets.{bit}
use Rattle.sets.specs.Tests.{Is, any, up_to}

-- by a record: some role that the user holds has the permission
abbrev pub granted_in : RoleFile → ℕ → ℕ → ℕ → Bool
granted_in f u r o = any (λ k. bit (get_or f.holders k 0) u && bit (get_or f.permissions (permission_at k o) 0) r) (up_to f.roles)

-- the record has a user, a resource and an operation where the policy has them
triple-same : (F : Policy) (u r o : ℕ) → in_sizes (sizes_of (record_of F)) u r o ≡ is_triple (setting_of F) u r o
unfolding in_sizes record_of record_with is_triple setting_of side_of
triple-same F u r o = refl

roles-same : (F : Policy) → (record_of F).roles ≡ F.roles
unfolding record_of record_with
roles-same F = refl

slots-few : (F : Policy) → Sized F → (u r o : ℕ) → Is (is_triple (setting_of F) u r o) → o < most_operations
unfolding setting_of
slots-few F Z u r o t = let l = (triple-of (setting_of F) u r o t).op in let m = Z.operable in omega arith

grants-same : (F : Policy) → Sized F → (u r o : ℕ) → Is (is_triple (setting_of F) u r o) → granted_in (record_of F) u r o ≡ roles_grant (setting_of F) (roles_in F) u r o
unfolding record_of record_with
grants-same F Z u r o t = record-grants F Z u r o (triple-of (setting_of F) u r o t)

module _ (bytes : List ℕ) (u r o : ℕ) where
  -- a refused file
  pub file-refused : (e : Refusal) → refused e ≡ map_answer record_of (read_roles 2 bytes) → refused e ≡ role_question 2 bytes u r o
  unfolding role_question
  file-refused e h = rw (map-refused record_of e (read_roles 2 bytes) h) refl

  module _ (f : RoleFile) (h : accepted f ≡ map_answer record_of (read_roles 2 bytes)) where
    -- a number beyond the sizes
    pub question-beyond : in_sizes (sizes_of f) u r o ≡ false → refused beyond ≡ role_question 2 bytes u r o
    unfolding role_question
    question-beyond b =
        let p = read_policy bytes f h in
        rw (p.2, sym (triple-same p.0 u r o) ∙ ap (λ (g : RoleFile). in_sizes (sizes_of g) u r o) (sym p.3) ∙ b) refl

    -- and others
    module _ (b : in_sizes (sizes_of f) u r o ≡ true) where
      inside : (F : Policy) → f ≡ record_of F → Is (is_triple (setting_of F) u r o)
      inside F e = sym (triple-same F u r o) ∙ ap (λ (g : RoleFile). in_sizes (sizes_of g) u r o) (sym e) ∙ b

      pub tables-long : (f.roles ≤ 32) × (o < most_operations)
      tables-long =
          let p = read_policy bytes f h in
          let few = p.1.few in
          let same = ap (λ (g : RoleFile). g.roles) p.3 ∙ roles-same p.0 in
          (omega arith, slots-few p.0 p.1 u r o (inside p.0 p.3))

      pub question-answered : accepted (granted_in f u r o) ≡ role_question 2 bytes u r o
      unfolding role_question
      question-answered =
          let p = read_policy bytes f h in
          let t = inside p.0 p.3 in
          rw (p.2, t) (ap accepted (ap (λ (g : RoleFile). granted_in g u r o) p.3 ∙ grants-same p.0 p.1 u r o t))
