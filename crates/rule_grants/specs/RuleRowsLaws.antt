-- The rows and the operations of a rule summed up say what it grants.
-- Assumes nothing.
use Rattle.std.specs.Prelude.{ℕ, ◌^◌, ◌<◌, get_or, Bool, cond, ◌&&◌, List, ◌≡◌}
use Rattle.std.proofs.Math.Bool.{true, false}
use Rattle.std.proofs.Math.Path.{refl, ap}
use Rattle.std.proofs.Common.{sym, ◌∙◌, subst, arith}
use Rattle.rule_conjuncts.specs.Summary.{met_by_all}
use Rattle.grant_blocks.specs.Rows.{cell_of}
use Rattle.grant_links.specs.Linked.{linked_with, row_of}
use Rattle.grant_links.specs.LinkedLaws.{linked-low}
use Rattle.role_record.specs.RecordLaws.{table_get}
use Rattle.rule_grants.specs.RuleRows.{rule_rows, summary_grants}
use Rattle.sets.specs.Sets.{bit}
use Rattle.sets.specs.SetLaws.{bit-none}

module _ (met : List ℕ) (asked atoms : ℕ) (links : List ℕ) (users resources : ℕ) where
  row_at : (u : ℕ) → u < 64 → get_or (rule_rows met asked atoms links users resources) u 0 ≡ cond (bit (met_by_all met asked 0 users) u) (linked_with links atoms u (met_by_all met asked 1 resources)) 0
  unfolding rule_rows row_of
  row_at u l = table_get 64 (row_of links atoms (met_by_all met asked 0 users) (met_by_all met asked 1 resources)) u l

  -- a row is a word
  pub rows_low : (u : ℕ) → u < 64 → get_or (rule_rows met asked atoms links users resources) u 0 < 2 ^ 64
  rows_low u l = subst (λ (m : ℕ). m < 2 ^ 64) (sym (row_at u l)) (go (bit (met_by_all met asked 0 users) u))
    where
      go : (b : Bool) → cond b (linked_with links atoms u (met_by_all met asked 1 resources)) 0 < 2 ^ 64
      go true = linked-low links atoms u (met_by_all met asked 1 resources)
      go false = omega arith

  -- THE LAW
  pub rows_grant : (acts u r o : ℕ) → u < 64 → bit (cell_of (rule_rows met asked atoms links users resources) acts u o) r ≡ summary_grants met asked atoms acts links users resources u r o
  unfolding cell_of summary_grants
  rows_grant acts u r o l =
      ap (λ (m : ℕ). bit (cond (bit acts o) m 0) r) (row_at u l)
      ∙ both-asked (bit acts o) (bit (met_by_all met asked 0 users) u) (linked_with links atoms u (met_by_all met asked 1 resources))
    where
      both-asked : (a b : Bool) (m : ℕ) → bit (cond a (cond b m 0) 0) r ≡ (a && (b && bit m r))
      both-asked true true m = refl
      both-asked true false m = bit-none r
      both-asked false b m = bit-none r
