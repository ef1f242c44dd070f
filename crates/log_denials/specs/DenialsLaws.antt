-- What was read of both files answers for the log.
-- Assumes nothing.
use Rattle.std.specs.Prelude.{ℕ, ◌%◌, eqb, leb, length, take, Bool, true, false, cond, ◌&&◌, List, ◌≡◌, refl, Result, Ok, Err}
use borrow.Author.Tests.{eq-eqb, ne_eqb, le-leb}
use Rattle.std.proofs.Common.{sym, ap, ◌∙◌, subst, arith}
use Rattle.files.specs.Answer.{Refusal as Cause, Answer, unless, and_then, beyond, wrong_window, ragged_log, refused, accepted, map_answer}
use Rattle.files.proofs.AnswerLaws.{map-refused}
use Rattle.files.specs.Calls.{is_triple, rules_grant, read_both}
use Rattle.files.specs.Cause.{answer_of}
use Rattle.files.proofs.DenialLaws.{log_same}
use Rattle.files.specs.Denials.{of_record, record_count, denied_by, log_answer, denial_answer}
use Rattle.files.specs.RuleFile.{Lines}
use Rattle.files.specs.Windows.{worst}
use Rattle.files.specs.declared.refusal.Refusal.{Refusal}
use Rattle.files.specs.declared.refusal.Refusal.TheVariants.{Beyond}
use Rattle.grant_grids.specs.Grid.{grid_of, in_grid}
use Rattle.log_windows.specs.Counting.{worst_of, counted_of}
use Rattle.log_windows.specs.declared.Worst.{Worst}
use Rattle.policy.specs.Policy.{Policy, side_of, setting_of}
use Rattle.policy.specs.Rules.{Block}
use Rattle.role_record.specs.Cells.{grid_cells}
use Rattle.role_record.specs.Record.{Sized, sizes_of, in_sizes, record_with, record_of}
use Rattle.rule_file.specs.LegalLaws.{Accepted, both-accepted}
use Rattle.rule_reading.specs.BothFiles.{both_of, GridLent}
use Rattle.rule_steps.specs.GrantedLaws.{in_rules}
use Rattle.rule_steps.specs.Shows.{granted_within}
use Rattle.sets.specs.Tests.{all, up_to}
use Rattle.role_record.specs.declared.RoleFile.{RoleFile}
use Rattle.rule_reading.specs.declared.BothFiles.{BothFiles}

-- ---- of a policy and its rules

module _ (F : Policy) (log : List ℕ) (w : ℕ) where
  -- the records are tested, and then counted
  tested : (G : Block) → answer_of (counted_of G (sizes_of (record_of F)) log w) ≡ map_answer worst_of (unless (all (of_record (is_triple (setting_of F)) log) (up_to (record_count log))) beyond (accepted (worst (denied_by G log) (record_count log) w)))
  unfolding counted_of in_sizes record_of record_with is_triple setting_of side_of
  tested G = go (all (of_record (is_triple (setting_of F)) log) (up_to (record_count log)))
    where
      go : (a : Bool) → answer_of (cond a (Ok (worst_of (worst (denied_by G log) (record_count log) w))) (Err Beyond)) ≡ map_answer worst_of (unless a beyond (accepted (worst (denied_by G log) (record_count log) w)))
      go true = refl
      go false = refl

  module _ (e : (leb 1 w && leb w 64) ≡ true) (d : length log % 3 ≡ 0) where
    tested-all : (G : Block) → answer_of (counted_of G (sizes_of (record_of F)) log w) ≡ map_answer worst_of (log_answer (setting_of F) G log w)
    unfolding log_answer
    tested-all G = tested G ∙ sym (rw (e, eq-eqb (length log % 3) 0 d) refl)

    -- by a grid of what the rules grant
    by-rules : (rules : List Lines) → Sized F → (grid : List ℕ) → grid ≡ grid_of F.operations (granted_within F rules) → answer_of (counted_of (in_grid grid) (sizes_of (record_of F)) log w) ≡ map_answer worst_of (log_answer (setting_of F) (rules_grant (setting_of F) rules) log w)
    by-rules rules Z grid g =
        tested-all (in_grid grid)
        ∙ ap (map_answer worst_of) (log_same (setting_of F) (in_grid grid) (rules_grant (setting_of F) rules) (λ u r o t. ap (λ (g : List ℕ). in_grid g u r o) g ∙ in_rules F Z rules u r o t) log w)

-- ---- the answer, by the outcome of each test

module _ (file rules log : List ℕ) (w : ℕ) where
  pub files-refused : (e : Cause) → refused e ≡ map_answer both_of (read_both 2 file rules) → refused e ≡ map_answer worst_of (denial_answer 2 file rules log w)
  unfolding denial_answer
  files-refused e h = rw (map-refused both_of e (read_both 2 file rules) h) refl

  module _ (b : BothFiles) (h : accepted b ≡ map_answer both_of (read_both 2 file rules)) where
    abbrev both : Accepted file rules b
    both = both-accepted file rules b h

    abbrev policy : Policy
    policy = both.from.value.0

    -- of two files that were accepted the log answers
    by-log : denial_answer 2 file rules log w ≡ log_answer (setting_of policy) (rules_grant (setting_of policy) both.from.value.1) log w
    unfolding denial_answer
    by-log = ap (λ (a : Answer (Policy × List Lines)). and_then a (λ (p : Policy × List Lines). log_answer (setting_of p.0) (rules_grant (setting_of p.0) p.1) log w)) both.from.is

    pub no_window : (leb 1 w && leb w 64) ≡ false → refused wrong_window ≡ map_answer worst_of (denial_answer 2 file rules log w)
    unfolding log_answer
    no_window e = rw (by-log, e) refl

    pub ragged : (leb 1 w && leb w 64) ≡ true → (length log % 3 ≡ 0 → ⊥) → refused ragged_log ≡ map_answer worst_of (denial_answer 2 file rules log w)
    unfolding log_answer
    ragged e d = rw (by-log, e, ne_eqb (length log % 3) 0 d) refl

    file-same : b.file ≡ record_of policy
    unfolding both_of
    file-same = ap (λ (c : BothFiles). c.file) both.from.made

    -- the words lent are what the rules grant
    words-same : (grid : List ℕ) → GridLent (read_both 2 file rules) grid → take (grid_cells policy.operations) grid ≡ grid_of policy.operations (granted_within policy both.from.value.1)
    unfolding GridLent
    words-same grid g = subst (λ (a : Answer (Policy × List Lines)). GridLent a grid) both.from.is g

    pub whole : (leb 1 w && leb w 64) ≡ true → length log % 3 ≡ 0 → (grid : List ℕ) → GridLent (read_both 2 file rules) grid
        → (r : Result Worst Refusal) → r ≡ counted_of (in_grid (take (grid_cells b.file.operations) grid)) (sizes_of b.file) log w → answer_of r ≡ map_answer worst_of (denial_answer 2 file rules log w)
    unfolding record_of record_with
    whole e d grid g r k =
        ap answer_of (k ∙ ap (λ (f : RoleFile). counted_of (in_grid (take (grid_cells f.operations) grid)) (sizes_of f) log w) file-same)
        ∙ by-rules policy log w e d both.from.value.1 both.sound.sized (take (grid_cells policy.operations) grid) (words-same grid g)
        ∙ sym (ap (map_answer worst_of) by-log)

-- a window of no records does not fit; of others only the most counts
pub none-fits : (w : ℕ) → w ≡ 0 → false ≡ (leb 1 w && leb w 64)
none-fits w e = rw e refl

pub some_fit : (w : ℕ) → (w ≡ 0 → ⊥) → leb w 64 ≡ (leb 1 w && leb w 64)
some_fit w e = rw (le-leb 1 w (omega arith)) refl
