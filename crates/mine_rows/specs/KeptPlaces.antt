-- Which conditions of a group's covering rule stay, from the group's words and the tables. The 50 places are those of words/specs/Flags.
-- Assumes nothing.
use Rattle.std.specs.Prelude.{ℕ, zero, suc, ◌/◌, ◌%◌, ◌^◌, ◌-◌, eqb, ltb, get_or, Bool, cond, ◌&&◌, List}
use Rattle.rule_conjuncts.specs.Summary.{met_by_all}
use Rattle.grant_grids.specs.Grid.{difference_of, is_same}
use Rattle.role_record.specs.Places.{place_side}
use Rattle.role_record.specs.Record.{table_of}
use Rattle.mine_matches.specs.Matches.{met_of}
use Rattle.policy.specs.Rules.{own_at}
use Rattle.sets.specs.Sets.{bit, subset, mask_of, less_one}
use Rattle.mine_theory.specs.Words.Words.{Words, members_of}
use Rattle.mine_rows.specs.Others.{first_other}

-- who meets the conjunct of a group's members at a place, if the place is one of a set; else nobody
unfoldable pub met_at : List ℕ → Words → ℕ → ℕ → ℕ
met_at matches W places i = cond (bit places i) (met_of matches i (members_of W (place_side i))) 0

unfoldable pub met_places : List ℕ → Words → ℕ → List ℕ
met_places matches W places = table_of 14 (met_at matches W places)

-- a rule of a level may have a conjunct at a place
unfoldable pub allowed_at : List ℕ → ℕ → ℕ → Bool
allowed_at attributes l i = cond (eqb (i % 7) 6) (own_at (place_side i) l) (ltb (i % 7) (get_or attributes (i / 7) 0))

-- who knows which attribute, how many attributes each side has
module _ (known attributes : List ℕ) (W : Words) (l : ℕ) where
  -- the covering rule of a group at a level has a conjunct at a place
  unfoldable pub conjunct_at : ℕ → Bool
  conjunct_at i = allowed_at attributes l i && subset (members_of W (place_side i)) (get_or known i 0)

  -- the places where it has a condition
  unfoldable pub present_places : ℕ
  present_places = mask_of 50 (λ i. cond (ltb i 14) (conjunct_at i) (bit W.atoms (i - 14)))

-- links, who meets the conjunct of each place; users, resources, operations
module _ (links met : List ℕ) (us rs os : ℕ) (W : Words) where
  -- the rule with the conditions at these places grants the group's triples and no other
  unfoldable pub grants_same : ℕ → Bool
  grants_same m = is_same (difference_of (first_other links W (m / 2 ^ 14) (met_by_all met m 0 us) (met_by_all met m 1 rs) us rs os))

  -- one turn of thinning: a place that is there goes if the grants stay the same
  unfoldable pub thin_by : ℕ → ℕ → ℕ
  thin_by m i = cond (bit m i && grants_same (less_one m i)) (less_one m i) m

  -- and as many turns as a number says
  abbrev pub thin_to : ℕ → ℕ → ℕ
  thin_to m zero = m
  thin_to m (suc n) = thin_by (thin_to m n) n

-- the places of the conditions that stay
unfoldable pub kept_in : (links matches known attributes : List ℕ) → (us rs os : ℕ) → Words → ℕ → ℕ
kept_in links matches known attributes us rs os W l =
    thin_to links (met_places matches W (present_places known attributes W l)) us rs os W (present_places known attributes W l) 50
