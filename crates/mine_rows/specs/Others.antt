-- Where a rule with the operations of a group and the group differ.
-- Assumes nothing.
use Rattle.std.specs.Prelude.{Bool, ℕ, List}
use Rattle.std.proofs.Math.Option.{Option}
use Rattle.files.specs.Calls.{first}
use Rattle.grant_grids.specs.Grid.{triple_list, differ_at, difference_of, is_same}
use Rattle.mine_corners.specs.Pairing.{table_spans}
use Rattle.mine_theory.specs.Words.Words.{Words}

-- a rule with the operations of a group: its atoms, and who and what meet its conjuncts
unfoldable pub rule_over : Words → ℕ → ℕ → ℕ → Words
rule_over W atoms who what = record { users = who; resources = what; ops = W.ops; atoms = atoms }

-- the first triple at which it and the group differ
unfoldable pub first_other : List ℕ → Words → ℕ → ℕ → ℕ → ℕ → ℕ → ℕ → Option (ℕ × ℕ × ℕ)
first_other links W atoms who what us rs os = first (differ_at (table_spans links (rule_over W atoms who what)) (table_spans links W)) (triple_list us rs os)

-- no triple differs
unfoldable pub no_other : List ℕ → Words → ℕ → ℕ → ℕ → ℕ → ℕ → ℕ → Bool
no_other links W atoms who what us rs os = is_same (difference_of (first_other links W atoms who what us rs os))
