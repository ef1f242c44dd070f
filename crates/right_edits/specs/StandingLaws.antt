-- What the code has worked out is what the calls come to.
-- Assumes nothing.
use Rattle.std.specs.Prelude.{ℕ, ◌<◌, length, get_or, Bool, true, false, ◌≡◌}
use Rattle.std.proofs.Math.Bool.{cond}
use Rattle.std.specs.Bool.{beq}
use mathlib.Core.List.{List}
use Rattle.std.proofs.Math.Path.{sym, ap}
use Rattle.std.proofs.Common.{◌∙◌, arith}
use Rattle.files.specs.Answer.{code_of, left_by}
use Rattle.files.proofs.AnswerLaws.{code-kept}
use Rattle.files.specs.Edits.{Edit}
use Rattle.right_answers.specs.Codes.{fill_code, edit_code}
use Rattle.right_answers.specs.CodeLaws.{fill-code, fill_accepted, edit-code, edit_passed, edit_accepted}
use Rattle.right_edits.specs.Standing.{standing, filled, fill_answer, is_so, changed, edited, standing_answer}
use Rattle.right_record.specs.Reassigned.{record_as}
use Rattle.right_words.specs.Rights.{rights_table, refreshed}
use Rattle.role_record.specs.Record.{WithinLimits, sizes_of}
use Rattle.role_record.specs.declared.RoleFile.{RoleFile}
use Rattle.role_seniority.specs.Closure.{held_table}
use Rattle.sets.specs.Sets.{bit}
use Rattle.sets.specs.Tests.{iff}
use Rattle.sets.specs.TestLaws.{beq_iff}

-- ---- filling

module _ (f : RoleFile) (t : List ℕ) where
  pub fill_refused : (code : ℕ) → code ≡ fill_code (sizes_of f) (length t) → (code ≡ 0 → ⊥) → (code ≡ code_of (fill_answer f (length t))) × (t ≡ left_by t (fill_answer f (length t)))
  unfolding fill_answer
  fill_refused code e h =
      let same = e ∙ sym (fill-code (sizes_of f) (length t) (filled f)) in
      (same, sym (code-kept t (fill_answer f (length t)) (λ z. h (same ∙ z))))

  pub fill_done : (holders after : List ℕ) → fill_code (sizes_of f) (length t) ≡ 0 → holders ≡ held_table f.assigned f.seniors f.roles → after ≡ rights_table (sizes_of f) holders f.permissions
      → (0 ≡ code_of (fill_answer f (length t))) × (after ≡ left_by t (fill_answer f (length t)))
  unfolding fill_answer filled
  fill_done holders after h p q =
      let taken = fill_accepted (sizes_of f) (length t) (filled f) h in
      (sym (ap code_of taken), q ∙ ap (λ (x : List ℕ). rights_table (sizes_of f) x f.permissions) p ∙ sym (ap (left_by t) taken))

-- ---- an edit

module _ (f : RoleFile) (t : List ℕ) (e : Edit) where
  abbrev pub Comes : ℕ → RoleFile → List ℕ → Type 0
  Comes code g after = (code ≡ code_of (standing_answer (standing f t) e)) × (standing g after ≡ left_by (standing f t) (standing_answer (standing f t) e))

  pub edit_refused : (code : ℕ) → code ≡ edit_code (sizes_of f) (length t) e.role e.user → (code ≡ 0 → ⊥) → Comes code f t
  unfolding standing_answer
  edit_refused code p h =
      let same = p ∙ sym (edit-code (sizes_of f) (length t) e (edited (standing f t) e)) in
      (same, sym (code-kept (standing f t) (standing_answer (standing f t) e) (λ z. h (same ∙ z))))

  -- what was accepted
  comes : (g : RoleFile) (after : List ℕ) → edit_code (sizes_of f) (length t) e.role e.user ≡ 0 → standing g after ≡ edited (standing f t) e → Comes 0 g after
  unfolding standing_answer
  comes g after h q =
      let taken = edit_accepted (sizes_of f) (length t) e (edited (standing f t) e) h in
      (sym (ap code_of taken), q ∙ sym (ap (left_by (standing f t)) taken))

  -- the assignment is so already
  pub edit_same : (has : Bool) → edit_code (sizes_of f) (length t) e.role e.user ≡ 0 → has ≡ bit (get_or f.assigned e.role 0) e.user → beq has e.gives ≡ true → Comes 0 f t
  unfolding edited is_so
  edit_same has h p q = comes f t h (sym (ap (λ (b : Bool). cond b (standing f t) (changed (standing f t) e)) (ap (λ (b : Bool). iff b e.gives) (sym p) ∙ sym (beq_iff has e.gives) ∙ q)))

  -- it is changed
  pub edit_done : (has : Bool) (g : RoleFile) (after : List ℕ) → edit_code (sizes_of f) (length t) e.role e.user ≡ 0 → has ≡ bit (get_or f.assigned e.role 0) e.user → beq has e.gives ≡ false
      → g ≡ record_as f e → after ≡ refreshed (sizes_of f) g.holders g.permissions e.user t → Comes 0 g after
  unfolding edited is_so changed record_as
  edit_done has g after h p q r w =
      comes g after h
      (ap (standing g) w ∙ ap (λ (x : RoleFile). standing x (refreshed (sizes_of f) x.holders x.permissions e.user t)) r
      ∙ sym (ap (λ (b : Bool). cond b (standing f t) (changed (standing f t) e)) (ap (λ (b : Bool). iff b e.gives) (sym p) ∙ sym (beq_iff has e.gives) ∙ q)))

  -- what a 0 says to the code
  pub edit_room : edit_code (sizes_of f) (length t) e.role e.user ≡ 0 → (length t ≡ 1024) × WithinLimits (sizes_of f) × (e.role < 32) × (e.user < 64)
  edit_room h =
      let p = edit_passed (sizes_of f) (length t) e h in
      let n = p.1 in
      let k = p.2 in
      let u = p.3 in
      (p.0, n, omega (arith, k, n), omega (arith, u, n))
