-- The miner's table of who meets whose value, filled from the tables of distinct values.
-- Assumes nothing.
use Rattle.std.specs.Prelude.{ℕ, ◌+◌, ◌*◌, get_or, true, cond, List}
use Rattle.grant_joins.specs.Tables.{meet_of, turns, spread_of, joins, union_of}
use Rattle.grant_joins.specs.Tables.{value_count}
use Rattle.grant_listed.specs.Values.{lists_least}
use Rattle.role_record.specs.Record.{table_of}

module _ (distinct having : List ℕ) where
  -- who meets the value number k of a place: of user sets whoever has one that contains it, of others whoever has it
  unfoldable pub met_by_number : (kinds : List ℕ) → (place k : ℕ) → ℕ
  met_by_number kinds place k =
      cond (lists_least kinds place)
      (union_of distinct having (joins true true true (get_or distinct (64 * place + k) 0)) place (value_count having place))
      (get_or having (64 * place + k) 0)

  -- the known ones are those of all 14 places
  module _ (known kinds : List ℕ) where
    unfoldable pub match_value : (place k : ℕ) → List ℕ → List ℕ
    match_value place k table =
        spread_of 896 place (meet_of (get_or known place 0) (get_or having (64 * place + k) 0)) (meet_of (get_or known place 0) (met_by_number kinds place k)) table

    unfoldable pub match_place : ℕ → List ℕ → List ℕ
    match_place place table = turns (match_value place) (value_count having place) table

    unfoldable pub matches_by : List ℕ
    matches_by = turns match_place 14 (table_of 896 (λ i. 0))
