-- Which parts are listed, as tables of the lowest operations of their classes by role; and the first part not listed exactly once.
-- Assumes nothing.
use Rattle.std.specs.Prelude.{ℕ, suc, eqb, ltb, length, get_or, set, Bool, false, cond, ◌&&◌, List, [], ◌∷◌, Some, None, Option as Found}
use Rattle.std.proofs.Math.Option.{Option, none, some}
use Rattle.files.specs.RuleFile.{RuleCommand, Lines, reshapes, opens, value, operations, link, part, level, ends}
use Rattle.grant_parts.specs.Parts.{is_part_in}
use Rattle.role_record.specs.Cells.{row_start, cell_row, cell_operation}
use Rattle.role_record.specs.Record.{table_of, marked}
use Rattle.sets.specs.Lowest.{lowest_from}
use Rattle.sets.specs.Sets.{bit, mask_of}
use Rattle.sets.specs.Tests.{keep, up_to, sum}

-- the lowest operation of a class
abbrev pub lead_of : ℕ → ℕ
lead_of m = lowest_from (bit m) 0 64

-- ---- what the tables are after one more line that lists a part: its role, its class

unfoldable pub seen_after : List ℕ → ℕ → ℕ → List ℕ
seen_after seen k m = set seen k (marked (get_or seen k 0) (lead_of m))

unfoldable pub again_after : List ℕ → List ℕ → ℕ → ℕ → List ℕ
again_after seen again k m = cond (bit (get_or seen k 0) (lead_of m)) (set again k (marked (get_or again k 0) (lead_of m))) again

-- ---- what the tables say of a rule file

-- a line lists a part of role k whose lowest operation is o
abbrev pub lists_lead : ℕ → ℕ → RuleCommand → Bool
lists_lead k o reshapes = false
lists_lead k o opens = false
lists_lead k o (value w set a v) = false
lists_lead k o (operations m) = false
lists_lead k o (link a b) = false
lists_lead k o (part j m) = eqb k j && eqb o (lead_of m)
lists_lead k o (level x) = false
lists_lead k o ends = false

-- how often the rules list one
unfoldable pub times_listed : List Lines → ℕ → ℕ → ℕ
times_listed rules k o = sum (λ ls. length (keep (lists_lead k o) ls)) rules

-- listed at least once; at least twice
unfoldable pub seen_table : List Lines → List ℕ
seen_table rules = table_of 32 (λ k. mask_of 64 (λ o. ltb 0 (times_listed rules k o)))

unfoldable pub again_table : List Lines → List ℕ
again_table rules = table_of 32 (λ k. mask_of 64 (λ o. ltb 1 (times_listed rules k o)))

-- ---- the first part that is not listed exactly once

-- seen, and not again
unfoldable pub once_in : List ℕ → List ℕ → ℕ → ℕ → Bool
once_in seen again k o = cond (bit (get_or again k 0) o) false (bit (get_or seen k 0) o)

-- of the words that are parts, numbered from n on, the first that is not listed once
abbrev pub stray_from : (ℕ → Bool) → (ℕ → Bool) → ℕ → List ℕ → Found ℕ
stray_from is_one listed_once n [] = None
stray_from is_one listed_once n (w ∷ ws) =
    let behind = stray_from is_one listed_once (suc n) ws in let on = stray_from is_one listed_once n ws in cond (is_one w) (cond (listed_once w) behind (Some n)) on

-- in the cell of its role and lowest operation
unfoldable pub stray_of : List ℕ → List ℕ → ℕ → ℕ → List ℕ → List ℕ → Found ℕ
stray_of holders permissions roles ops seen again =
    stray_from (λ w. is_part_in holders permissions ops (cell_row w) (cell_operation w)) (λ w. once_in seen again (cell_row w) (cell_operation w)) 0 (up_to (row_start roles))

-- the answer as code gives it
unfoldable pub stray_part_of : Option ℕ → Found ℕ
stray_part_of none = None
stray_part_of (some p) = Some p
