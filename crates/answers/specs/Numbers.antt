-- How an answer in 01's numbers (`told`: a refusal's number, or 0 and the values of what was accepted) is handed over to C: its first
-- number is returned, the values are stored in memory that the caller lends.
-- Assumes nothing.
use Rattle.std.specs.Prelude.{ℕ, length, get_or, drop, List, [], ◌∷◌, ◌++◌}
use Rattle.files.specs.RuleFile.{Lines}
use Rattle.policy.specs.Policy.{Policy}

-- the number returned: 0, or the refusal's
abbrev pub returned : List ℕ → ℕ
returned told = get_or told 0 0

-- memory for values: they stand at its front, and what they leave free is as it was
abbrev pub front : List ℕ → List ℕ → List ℕ
front values former = values ++ drop (length values) former

abbrev pub stored : List ℕ → List ℕ → List ℕ
stored told former = front (drop 1 told) former

-- the values of an answer that has none; and of rules that were read: how many they are
abbrev pub no_values : {A : Type 0} → A → List ℕ
no_values a = []

abbrev pub rules_told : Policy × List Lines → List ℕ
rules_told p = length p.1 ∷ []
