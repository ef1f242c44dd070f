-- The laws of the loops that fill the table of who meets whose value.
-- Assumes nothing.
use Rattle.std.specs.Prelude.{ℕ, ◌+◌, ◌*◌, get_or, Bool, true, false, List, ◌≡◌}
use Rattle.std.proofs.Math.ListN.{length}
use Rattle.std.proofs.Math.Path.{refl, ap}
use Rattle.std.proofs.Common.{sym, ◌∙◌}
use Rattle.grant_joins.specs.Tables.{meet_of, spread_of, joins, union_of}
use Rattle.grant_joins.specs.Tables.{value_count}
use Rattle.grant_joins.specs.LinkTurnLaws.{turns-long, spread-long}
use Rattle.grant_listed.specs.Values.{lists_least}
use Rattle.mine_tables.specs.Matching.{met_by_number, match_value, match_place}

module _ (distinct having known kinds : List ℕ) where
  -- who meets a value of a user set
  pub met-least : (place k count found : ℕ) (least : Bool) → count ≡ value_count having place → least ≡ lists_least kinds place → least ≡ true
      → found ≡ union_of distinct having (joins true true true (get_or distinct (64 * place + k) 0)) place count → found ≡ met_by_number distinct having kinds place k
  unfolding met_by_number
  met-least place k count found least ec e h q = rw (sym e ∙ h, ← ec) q

  -- and one of another attribute
  pub met-other : (place k : ℕ) (least : Bool) → least ≡ lists_least kinds place → least ≡ false → get_or having (64 * place + k) 0 ≡ met_by_number distinct having kinds place k
  unfolding met_by_number
  met-other place k least e h = rw (sym e ∙ h) refl

  -- a turn of the loop over the values of a place, `spread(place, meet(known, having), meet(known, met))`
  pub match_turn : (place k members met word : ℕ) (out after : List ℕ) → length out ≡ 896 → members ≡ meet_of (get_or known place 0) (get_or having (64 * place + k) 0)
      → met ≡ met_by_number distinct having kinds place k → word ≡ meet_of (get_or known place 0) met → after ≡ spread_of (length out) place members word out
      → after ≡ match_value distinct having known kinds place k out
  unfolding match_value
  match_turn place k members met word out after e em et ew q = rw (← e, ← em, ← et, ← ew) q

  -- the length stays
  pub match_long : (place : ℕ) (out after : List ℕ) → length out ≡ 896 → after ≡ match_place distinct having known kinds place out → length after ≡ 896
  unfolding match_place match_value
  match_long place out after e q =
      ap length q
      ∙ turns-long (match_value distinct having known kinds place) out 896 (value_count having place)
      (λ k t h. spread-long 896 place (meet_of (get_or known place 0) (get_or having (64 * place + k) 0)) (meet_of (get_or known place 0) (met_by_number distinct having kinds place k)) t) e
