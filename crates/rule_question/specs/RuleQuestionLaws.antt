-- What was read of both files answers the question.
-- Assumes nothing.
use Rattle.std.specs.Prelude.{ℕ, ◌-◌, ◌<◌, ltb, Bool, true, false, ◌&&◌, take, List, ◌≡◌}
use borrow.Author.Tests.{ltb-true}
use Rattle.std.proofs.Common.{sym, ap, ◌∙◌, subst}
use Rattle.role_record.specs.Cells.{grid_cells}
use Rattle.role_record.specs.Record.{Sized, record_with, record_of, sizes_of, in_sizes}
use Rattle.files.specs.Answer.{Refusal, Answer, unless, and_then, map_answer, beyond, refused, accepted}
use Rattle.files.proofs.AnswerLaws.{map-refused}
use Rattle.files.specs.Calls.{is_triple, rules_grant, read_both, rule_question}
use Rattle.files.specs.RuleFile.{Lines}
use Rattle.files.proofs.CallLaws.{triple-of}
use Rattle.grant_grids.specs.Grid.{grid_of, in_grid}
use Rattle.policy.specs.Policy.{Policy, side_of, setting_of}
use Rattle.rule_reading.specs.BothFiles.{both_of, GridLent}
use Rattle.rule_file.specs.LegalLaws.{both-accepted}
use Rattle.rule_file.specs.OpenedLaws.{first-words}
use Rattle.rule_steps.specs.GrantedLaws.{in_rules}
use Rattle.rule_steps.specs.Shows.{granted_within}
use Rattle.rule_reading.specs.declared.BothFiles.{BothFiles}
use Rattle.role_record.specs.declared.Sizes.{Sizes}
use Rattle.sets.specs.TestLaws.{and_l, and_r}

module _ (u r o : ℕ) where
  -- the answer from what was read
  abbrev answered : Answer (Policy × List Lines) → Answer Bool
  answered a = and_then a (λ (p : Policy × List Lines). unless (is_triple (setting_of p.0) u r o) beyond (accepted (rules_grant (setting_of p.0) p.1 u r o)))

  -- there are the numbers asked of where they make a triple
  sized-so : (p : Policy × List Lines) (b : BothFiles) → b ≡ both_of p → in_sizes (sizes_of b.file) u r o ≡ is_triple (setting_of p.0) u r o
  unfolding in_sizes is_triple both_of record_of record_with setting_of side_of
  sized-so p b m = ap (λ (x : BothFiles). in_sizes (sizes_of x.file) u r o) m

  granted : (F : Policy) (rules : List Lines) (grid : List ℕ) → Sized F → grid ≡ grid_of F.operations (granted_within F rules) → is_triple (setting_of F) u r o ≡ true
      → in_grid grid u r o ≡ rules_grant (setting_of F) rules u r o
  granted F rules grid z e t = ap (λ (g : List ℕ). in_grid g u r o) e ∙ in_rules F z rules u r o (triple-of (setting_of F) u r o t)

  -- of the grid that was lent
  lent : (p : Policy × List Lines) (b : BothFiles) (grid : List ℕ) → b ≡ both_of p → GridLent (accepted p) grid → take (grid_cells b.file.operations - 0) grid ≡ grid_of p.0.operations (granted_within p.0 p.1)
  unfolding both_of record_of record_with GridLent
  lent p b grid m e = first-words (grid_cells b.file.operations) grid ∙ ap (λ (x : BothFiles). take (grid_cells x.file.operations) grid) m ∙ e

  -- a user and an operation that there are have a cell in a grid
  pub cell-inside : (s : Sizes) → in_sizes s u r o ≡ true → (u < s.users) × (o < s.operations)
  unfolding in_sizes
  cell-inside s e =
      let m = and_r (ltb u s.users) (ltb r s.resources && ltb o s.operations) e in
      (ltb-true u s.users (and_l (ltb u s.users) _ e), ltb-true o s.operations (and_r (ltb r s.resources) (ltb o s.operations) m))

  module _ (file rules : List ℕ) where
    -- THE LAWS: both files are refused, or they are read
    pub unanswered : (e : Refusal) → refused e ≡ map_answer both_of (read_both 2 file rules) → refused e ≡ rule_question 2 file rules u r o
    unfolding rule_question
    unanswered e h = sym (ap answered (map-refused both_of e (read_both 2 file rules) h))

    module _ (b : BothFiles) (h : accepted b ≡ map_answer both_of (read_both 2 file rules)) where
      -- a number is beyond the sizes
      pub answered-beyond : in_sizes (sizes_of b.file) u r o ≡ false → refused beyond ≡ rule_question 2 file rules u r o
      unfolding rule_question
      answered-beyond e =
          let p = (both-accepted file rules b h).from in
          sym (ap answered p.is ∙ ap (λ (t : Bool). unless t beyond (accepted (rules_grant (setting_of p.value.0) p.value.1 u r o))) (sym (sized-so p.value b p.made) ∙ e))

      -- none is, and the grid answers
      pub answered-grid : (grid : List ℕ) (granted : Bool) → GridLent (read_both 2 file rules) grid → in_sizes (sizes_of b.file) u r o ≡ true
          → granted ≡ in_grid (take (grid_cells b.file.operations - 0) grid) u r o → accepted granted ≡ rule_question 2 file rules u r o
      unfolding rule_question
      answered-grid grid x g e q =
          let a = both-accepted file rules b h in
          let p = a.from in
          let t = sym (sized-so p.value b p.made) ∙ e in
          ap (λ (y : Bool). accepted y) (q ∙ granted p.value.0 p.value.1 _ a.sound.sized (lent p.value b grid p.made (subst (λ (y : Answer (Policy × List Lines)). GridLent y grid) p.is g)) t)
          ∙ sym (ap answered p.is ∙ ap (λ (y : Bool). unless y beyond (accepted (rules_grant (setting_of p.value.0) p.value.1 u r o))) t)
