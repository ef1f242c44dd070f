-- What mining tells of the rules that are written, as the code has it.
-- Assumes nothing.
use Rattle.std.specs.Prelude.{ℕ, List, [], ◌∷◌}
use Rattle.files.specs.Calls.{Counts}
use Rattle.policy.specs.declared.Weights.{Weights}
use Rattle.write_answer.specs.declared.Mined.{Mined}
use Rattle.write_answer.specs.declared.Written.{Written}
use Rattle.write_cost.specs.CostSums.{weighed}

-- what is told for these counts
abbrev pub mined_of : Counts → Mined
mined_of c = record { length = c.size; parts = c.parts; rules = c.rules; merges = c.merges; cost = c.cost }

-- the values of what is told: length, parts, rules, merges and cost
abbrev pub mined_numbers : Mined → List ℕ
mined_numbers m = m.length ∷ m.parts ∷ m.rules ∷ m.merges ∷ m.cost ∷ []

-- what is told, by some weights, of what was written
abbrev pub weighed_by : Weights → Written → Mined
weighed_by weights w = record { length = w.length; parts = w.parts; rules = w.rules; merges = w.merges; cost = weighed weights w.sums }
