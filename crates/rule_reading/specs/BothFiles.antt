-- What reading both files comes to, as the code hands it back.
-- Assumes nothing.
use Rattle.std.specs.Prelude.{ℕ, length, take, List, ◌≡◌}
use Rattle.files.specs.Answer.{Answer, refused, accepted}
use Rattle.files.specs.Calls.{first_stray_rule}
use Rattle.files.specs.RuleFile.{Lines}
use Rattle.grant_grids.specs.Grid.{grid_of}
use Rattle.rule_listings.specs.Listed.{seen_table, again_table}
use Rattle.role_record.specs.Cells.{grid_cells}
use Rattle.role_record.specs.Record.{record_of}
use Rattle.policy.specs.Policy.{Policy, setting_of, roles_in}
use Rattle.rule_steps.specs.Shows.{option_of, granted_within}
use Rattle.rule_reading.specs.declared.BothFiles.{BothFiles}

-- what is handed back of a policy and the rules beside it
unfoldable pub both_of : Policy × List Lines → BothFiles
both_of p = record {
  file = record_of p.0;
  rules = length p.1;
  stray = option_of (first_stray_rule (setting_of p.0) (roles_in p.0) p.1);
  seen = seen_table p.1;
  again = again_table p.1;
}

-- and the grid: what the rules grant, for the operations declared. After a refusal it holds anything
unfoldable pub GridShown : Answer (Policy × List Lines) → List ℕ → Type 0
GridShown (refused e) grid = Unit {0}
GridShown (accepted p) grid = grid ≡ grid_of p.0.operations (granted_within p.0 p.1)

-- and the grid that was lent: its first words are what the rules grant, for the operations declared. After a refusal it holds anything
unfoldable pub GridLent : Answer (Policy × List Lines) → List ℕ → Type 0
GridLent (refused e) grid = Unit {0}
GridLent (accepted p) grid = take (grid_cells p.0.operations) grid ≡ grid_of p.0.operations (granted_within p.0 p.1)
