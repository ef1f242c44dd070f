-- Windows over a run of records, and the one in which a test passes most often. 02, request 10, "Denials in the usage log".
-- Assumes nothing.
use Rattle.std.specs.Prelude.{ℕ, suc, ◌-◌, max, min, eqb, length, Bool, List, [], ◌∷◌, map}
use Rattle.sets.specs.Lowest.{lowest_from}
use Rattle.sets.specs.Tests.{keep, from, up_to}

-- "the most records ... in any w neighbouring ones, and the lowest start that has so many"
pub record Worst : Type 0 where
  pub most : ℕ
  pub start : ℕ

-- the values of such an answer
abbrev pub worst_values : Worst → List ℕ
worst_values x = x.most ∷ x.start ∷ []

abbrev pub largest : List ℕ → ℕ
largest [] = 0
largest (x ∷ xs) = max x (largest xs)

-- "the plain count of each window": of the w records from s on, those that pass
abbrev pub plain_count : (ℕ → Bool) → ℕ → ℕ → ℕ
plain_count f s w = length (keep f (from s w))

-- n records in windows of w
module _ (f : ℕ → Bool) (n w : ℕ) where
  -- "any w neighbouring ones", from record s on; "A log shorter than w is one window"
  unfoldable pub window_count : ℕ → ℕ
  window_count s = plain_count f s (min w n)

  -- where a window of w records may start; a shorter log, and the empty one, has the start 0 alone
  unfoldable pub starts : List ℕ
  starts = up_to (suc (n - w))

  unfoldable pub most_in : ℕ
  most_in = largest (map window_count starts)

  -- "the lowest start that has so many, as a record number from 0"
  unfoldable pub lowest_start : ℕ
  lowest_start = lowest_from (λ s. eqb (window_count s) most_in) 0 (suc (n - w))

  unfoldable pub worst : Worst
  worst = record { most = most_in; start = lowest_start }
