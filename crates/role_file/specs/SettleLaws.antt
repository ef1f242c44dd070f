-- Closing seniority on the record's tables is closing it on the policy.
-- Assumes nothing.
use Rattle.std.specs.Prelude.{ℕ, get_or, Bool, ◌&&◌, ◌||◌, not, ◌≡◌}
use Rattle.std.proofs.Math.Bool.{true, false}
use mathlib.Core.List.{List}
use Rattle.std.proofs.Math.Path.{refl, sym, ap, ap₂}
use Rattle.std.proofs.Common.{◌∙◌, arith}
use Rattle.role_record.specs.Record.{Sized, table_of, assigned_table, line_table, record_with, record_so_far, record_of, set_derived}
use Rattle.files.specs.Answer.{unless, map_answer, own_senior, refused, accepted}
use Rattle.role_record.specs.RecordLaws.{table-bits}
use Rattle.policy.specs.Policy.{Policy, reach, senior, circular, held}
use Rattle.policy.specs.Rules.{user}
use Rattle.role_file.specs.Reading.{settled_of}
use Rattle.role_seniority.specs.Closure.{among, closed, held_by, held_table}
use Rattle.role_seniority.specs.ClosureLaws.{closed-bit, held-bit, senior-bit, circular-table, holder-bit}
use Rattle.sets.specs.LoopLaws.{table_same}
use Rattle.sets.specs.MaskLaws.{mask_same}
use Rattle.sets.specs.Sets.{bit, mask_of}
use Rattle.sets.specs.Tests.{any, up_to}
use Rattle.role_record.specs.declared.RoleFile.{RoleFile}

module _ (F : Policy) (Z : Sized F) where
  lines-shown : (i j : ℕ) → F.line i j ≡ among (line_table F) i j
  unfolding line_table
  lines-shown = table-bits 32 F.line (λ i j h. let a = Z.lined i j h in let n = Z.few in (omega (arith, a.0), omega (arith, a.1)))

  pub assigned-shown : (k u : ℕ) → F.assigned k u ≡ among (assigned_table F) k u
  unfolding assigned_table
  assigned-shown = table-bits 32 F.assigned (λ k u h. let a = Z.assigned-to k u h in let n = Z.few in let m = Z.many user in (omega (arith, a.0), omega (arith, a.1)))

  pub seniors-shown : closed (line_table F) F.roles ≡ table_of 32 (λ k. mask_of 64 (senior F k))
  unfolding closed table_of
  seniors-shown = table_same 32 (λ i. mask_of 64 (λ j. reach (among (line_table F)) F.roles i j)) (λ k. mask_of 64 (senior F k)) (λ i l. mask_same 64 (λ j. reach (among (line_table F)) F.roles i j) (senior F i) (λ j m. sym (closed-bit (line_table F) F.roles i j l m) ∙ senior-bit F Z.few (line_table F) lines-shown i j l m))

  pub holders-shown : held_table (assigned_table F) (closed (line_table F) F.roles) F.roles ≡ table_of 32 (λ k. mask_of 64 (held F k))
  unfolding held_table held_by table_of
  holders-shown =
      table_same 32 (λ k. mask_of 64 (λ u. bit (get_or (assigned_table F) k 0) u || any (λ j. bit (get_or (closed (line_table F) F.roles) k 0) j && among (assigned_table F) j u) (up_to F.roles))) (λ k. mask_of 64 (held F k))
      (λ k l. mask_same 64 (λ u. bit (get_or (assigned_table F) k 0) u || any (λ j. bit (get_or (closed (line_table F) F.roles) k 0) j && among (assigned_table F) j u) (up_to F.roles)) (held F k)
      (λ u m. sym (held-bit (assigned_table F) (closed (line_table F) F.roles) F.roles k u l m) ∙ holder-bit F Z.few (line_table F) lines-shown (assigned_table F) assigned-shown k u l m))

  -- THE LAW
  pub settled : settled_of (record_so_far F) ≡ map_answer record_of (unless (not (circular F)) own_senior (accepted F))
  unfolding settled_of record_so_far record_with record_of
  settled =
      ap (λ (b : Bool). unless (not b) own_senior (accepted (set_derived (record_so_far F) (closed (line_table F) F.roles) (held_table (assigned_table F) (closed (line_table F) F.roles) F.roles)))) (circular-table F Z.few (line_table F) lines-shown)
      ∙ ap₂ (λ (s h : List ℕ). unless (not (circular F)) own_senior (accepted (set_derived (record_so_far F) s h))) seniors-shown holders-shown
      ∙ go (circular F)
    where
      go : (b : Bool) → unless (not b) own_senior (accepted (set_derived (record_so_far F) (table_of 32 (λ k. mask_of 64 (senior F k))) (table_of 32 (λ k. mask_of 64 (held F k))))) ≡ map_answer record_of (unless (not b) own_senior (accepted F))
      go true = refl
      go false = refl

-- what the code has worked out is what settling comes to
pub settled-refused : (f : RoleFile) (l : List ℕ) → l ≡ closed f.lines f.roles → any (λ k. bit (get_or l k 0) k) (up_to f.roles) ≡ true → refused own_senior ≡ settled_of f
unfolding settled_of
settled-refused f l e h = rw (← e, h) refl

pub settled-done : (f : RoleFile) (l h : List ℕ) → l ≡ closed f.lines f.roles → any (λ k. bit (get_or l k 0) k) (up_to f.roles) ≡ false → h ≡ held_table f.assigned l f.roles → accepted (set_derived f l h) ≡ settled_of f
unfolding settled_of
settled-done f l h e k q = rw (← e, k, ← q) refl
