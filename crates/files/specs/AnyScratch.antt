-- Mining with more or less scratch. 02, request 13, "Mining on the small router".
-- Assumes nothing.
use Rattle.std.specs.Prelude.{ℕ, ◌≤◌, length, List, ◌≡◌}
use Rattle.files.specs.Calls.{least_scratch, mine_answer, mine_output}
use Rattle.policy.specs.declared.Weights.{Weights}

-- "For every amount accepted, output bytes and counts are equal, also to those made with 4,096": of any two amounts, so also of an amount and
-- 4,096; the answer, be it counts or a refusal, and the output memory afterwards
abbrev pub AnyScratch : ℕ → Type 0
AnyScratch W =
    (file cuts : List ℕ) (weights : Weights) (m n : ℕ) (former : List ℕ) → least_scratch ≤ m → least_scratch ≤ n
    → (mine_answer W file cuts weights m (length former) ≡ mine_answer W file cuts weights n (length former)) × (mine_output W file cuts m former ≡ mine_output W file cuts n former)
