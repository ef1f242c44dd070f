-- The numbers that the reader of rule files keeps, and what its steps make of them.
-- Assumes nothing.
use Rattle.std.specs.Prelude.{ℕ, ◌+◌, eqb, Bool, true, false, cond, ◌&&◌, ◌||◌, not, List, Option, Some, None, is_none}
use Rattle.grant_blocks.specs.Rows.{added_rows, same_rows}
use Rattle.rule_commands.specs.Raw.{line, raw_before}
use Rattle.rule_commands.specs.declared.Raw.{Raw}
use Rattle.rule_grants.specs.RuleRows.{rule_rows}
use Rattle.rule_levels.specs.Levels.{level_for}
use Rattle.sets.specs.Sets.{bit}
use Rattle.rule_notes.specs.declared.Tally.{Tally}

unfoldable pub begun_with : Tally
begun_with = record { inside = false; asked = 0; atoms = 0; operations = 0; listing = false; telling = false; last = line 0x21 0 0; rules = 0; stray = None }

-- behind a 21
unfoldable pub opened_with : Tally → Tally
opened_with k = record { inside = true; asked = 0; atoms = 0; operations = 0; listing = false; telling = false; last = line 0x21 0 0; rules = k.rules; stray = k.stray }

-- one more rule; which was the first stray one
abbrev pub tallied : Tally → Option ℕ → Tally
tallied k stray = record { inside = k.inside; asked = k.asked; atoms = k.atoms; operations = k.operations; listing = k.listing; telling = k.telling; last = k.last; rules = k.rules + 1; stray = stray }

-- one more rule, stray unless it grants the same as its parts
unfoldable pub counted_with : Tally → Bool → Tally
counted_with k same = tallied k (cond (not same && is_none k.stray) (Some k.rules) k.stray)

-- the rows of the open rule, from its summary
unfoldable pub open_rows : Tally → List ℕ → List ℕ → ℕ → ℕ → List ℕ
open_rows k met links users resources = rule_rows met k.asked k.atoms links users resources

-- the open rule closed, with n operations declared: it is stray unless the grid of the parts listed under it has just its rows at its operations
unfoldable pub closed_with : Tally → List ℕ → List ℕ → List ℕ → ℕ → ℕ → ℕ → Tally
closed_with k met listed links users resources n = counted_with k (same_rows n (open_rows k met links users resources) k.operations listed)

-- the open rule closed, if there is one
unfoldable pub finished_with : Tally → List ℕ → List ℕ → List ℕ → ℕ → ℕ → ℕ → Tally
finished_with k met listed links users resources n = cond k.inside (closed_with k met listed links users resources n) k

-- the grid of what the rules grant, with the open rule's rows joined at its operations
unfoldable pub finished_grid : Tally → List ℕ → List ℕ → ℕ → ℕ → ℕ → List ℕ → List ℕ
finished_grid k met links users resources n grid = cond k.inside (added_rows n (open_rows k met links users resources) k.operations grid) grid

-- ---- where commands may stand

-- a 21 or 2F: the open rule has operations, a part and its level
unfoldable pub may_close : Tally → Bool
may_close k = cond k.inside (not (eqb k.operations 0) && (k.listing && k.telling)) true

-- a second 26, or a second 29
unfoldable pub is_second : Tally → ℕ → Bool
is_second k b = (eqb b 0x26 && not (eqb k.operations 0)) || (eqb b 0x29 && k.telling)

-- another: in an open rule, behind its last command, and no second 26 or 29
unfoldable pub follows_with : Tally → Raw → Bool
follows_with k a = k.inside && (not (is_second k a.byte) && raw_before k.last a)

-- a 29 tells the level of the rule: places 6 and 13 are those of the 255s
unfoldable pub levelled_with : Tally → Raw → Bool
levelled_with k a = not (eqb a.byte 0x29) || eqb a.first (level_for (bit k.asked 6) (bit k.asked 13))
