-- The table of the atoms that hold, filled from the tables of distinct values: each pair of distinct values is looked at once, and the word
-- is joined to the words of all who have the value.
-- Assumes nothing.
use Rattle.std.specs.Prelude.{ℕ, zero, suc, ◌+◌, ◌*◌, ◌/◌, ◌%◌, eqb, ltb, get_or, Bool, false, cond, ◌&&◌, ◌||◌, List}
use Rattle.grant_grids.specs.Updates.{updated}
use Rattle.role_record.specs.Record.{table_of, same_domain}
use Rattle.policy.specs.Rules.{form_of, linked}
use Rattle.sets.specs.Sets.{joining, bit, mask_of}
use Rattle.sets.specs.Lowest.{lowest_from}

-- who is in both of two sets
abbrev pub meet_of : ℕ → ℕ → ℕ
meet_of a b = mask_of 64 (λ k. bit a k && bit b k)

-- a table after n turns, each of which changes it by its number
abbrev pub turns : (ℕ → List ℕ → List ℕ) → ℕ → List ℕ → List ℕ
turns step zero table = table
turns step (suc n) table = step n (turns step n table)

-- the table of n words, 64 to a block, with a set joined to the words of some members of a block
unfoldable pub spread_of : (n block members word : ℕ) → List ℕ → List ℕ
spread_of n block members word table = updated n (λ i. eqb (i / 64) block && bit members (i % 64)) (λ i old. mask_of 64 (λ x. bit old x || bit word x)) table

-- the forms of atoms, and the same with the two values changed round
unfoldable pub joins : (left right turned : Bool) → ℕ → ℕ → Bool
joins left right turned v w = cond turned (linked (form_of left right) w v) (linked (form_of left right) v w)

-- how many distinct values a place has: nobody has the next
unfoldable pub value_count : (having : List ℕ) → ℕ → ℕ
value_count having place = lowest_from (λ k. eqb (get_or having (64 * place + k) 0) 0) 0 64

-- how many user values an atom looks at: none across domains
unfoldable pub looked_at : (having domains : List ℕ) → (a b : ℕ) → ℕ
looked_at having domains a b = cond (same_domain domains a b) (value_count having a) 0

module _ (distinct having : List ℕ) where
  -- who has one of the first n values of a place that pass a test
  unfoldable pub union_of : (ℕ → Bool) → (place n : ℕ) → ℕ
  union_of passes place n = mask_of 64 (joining 0 (λ l. passes (get_or distinct (64 * place + l) 0)) (λ l. get_or having (64 * place + l) 0) n)

  module _ (kinds : List ℕ) where
    -- the resources with which the atom joins the user value number k. The places of the users' attributes are 0 to 5, those of the
    -- resources' 7 to 12
    unfoldable pub linked_to : (resources a b k : ℕ) → ℕ
    linked_to resources a b k =
        meet_of (mask_of 64 (λ x. ltb x resources))
        (union_of (joins (bit (get_or kinds 0 0) a) (bit (get_or kinds 1 0) b) false (get_or distinct (64 * a + k) 0)) (7 + b) (value_count having (7 + b)))

    unfoldable pub link_value : (resources atom k : ℕ) → List ℕ → List ℕ
    link_value resources atom k table = spread_of 2304 atom (get_or having (64 * (atom / 6) + k) 0) (linked_to resources (atom / 6) (atom % 6) k) table

    module _ (domains : List ℕ) where
      unfoldable pub link_atom : (resources atom : ℕ) → List ℕ → List ℕ
      link_atom resources atom table = turns (link_value resources atom) (looked_at having domains (atom / 6) (atom % 6)) table

      unfoldable pub links_by : ℕ → List ℕ
      links_by resources = turns (link_atom resources) 36 (table_of 2304 (λ i. 0))
