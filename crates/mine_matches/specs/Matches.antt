-- Who meets whose value, at each of the 14 places of attributes: the tables, and what is read off them.
-- Assumes nothing.
use Rattle.std.specs.Prelude.{ℕ, ◌+◌, ◌*◌, ◌/◌, ◌%◌, ◌<◌, eqb, get_or, drop, Bool, cond, ◌&&◌, ◌||◌, List, ◌≡◌}
use Rattle.role_record.specs.Record.{table_of, record_of}
use Rattle.rule_meeting.specs.Meeting.{meeting_of}
use Rattle.policy.specs.Policy.{Policy}
use Rattle.sets.specs.Sets.{bit, subset, mask_of}
use Rattle.sets.specs.Tests.{imp, all, any, up_to}
use Rattle.grant_values.specs.PlaceValues.{count_at, value_for}

-- who knows the attribute of a place: for a 255 everybody there is
unfoldable pub known_for : (users resources : ℕ) → List ℕ → ℕ → ℕ
known_for users resources known i = mask_of (count_at users resources i) (λ x. eqb (i % 7) 6 || bit (get_or known (6 * (i / 7) + i % 7) 0) x)

unfoldable pub known_places : (users resources : ℕ) → List ℕ → List ℕ
known_places users resources known = table_of 14 (known_for users resources known)

module _ (kinds known values holders : List ℕ) (users resources roles : ℕ) where
  -- who meets the value that somebody has at a place; nobody if it is unknown
  unfoldable pub match_word : ℕ → ℕ → ℕ
  match_word i y =
      cond (bit (known_for users resources known i) y)
      (meeting_of (i / 7) (bit (get_or kinds (i / 7) 0) (i % 7)) (i % 7) (value_for values holders roles i y) (count_at users resources i) roles known values holders)
      0

  -- word 64 * place + who
  unfoldable pub match_table : List ℕ
  match_table = table_of 896 (λ i. match_word (i / 64) (i % 64))

-- who meets a conjunct of the values of these members at a place
unfoldable pub met_of : List ℕ → ℕ → ℕ → ℕ
met_of matches i members = mask_of 64 (λ x. any (λ y. bit members y && bit (get_or matches (64 * i + y) 0) x) (up_to 64))

-- some members and others
unfoldable pub both_members : ℕ → ℕ → ℕ
both_members m n = mask_of 64 (λ k. bit m k || bit n k)

-- the table has, for each attribute of a side, who meets a conjunct of the values of these members
abbrev pub Met : (matches : List ℕ) → (side members : ℕ) → List ℕ → Type 0
Met matches side members met = (a : ℕ) → a < 6 → get_or met a 0 ≡ met_of matches (7 * side + a) members

-- one table has both sides, the users' attributes first
abbrev pub SidesMet : (matches : List ℕ) → (users resources : ℕ) → List ℕ → Type 0
SidesMet matches users resources met = Met matches 0 users met × Met matches 1 resources (drop 6 met)

-- to each word of one such table is joined who meets the value of one member, and that gives the other
abbrev pub MemberAdded : (matches : List ℕ) → (side member : ℕ) → List ℕ → List ℕ → Type 0
MemberAdded matches side member met met' = (a : ℕ) → a < 6 → get_or met' a 0 ≡ mask_of 64 (λ k. bit (get_or met a 0) k || bit (get_or matches (64 * (7 * side + a) + member) 0) k)

-- who, of that many on side 0 or 1, passes all conjuncts of these members: over the attributes that all of them know, and over the
-- 255 if it is asked for
unfoldable pub passing_of : (matches known : List ℕ) → (attributes side : ℕ) → Bool → (members count : ℕ) → ℕ
passing_of matches known attributes side with_own members count =
    mask_of count (λ x.
    all (λ a. imp (subset members (get_or known (7 * side + a) 0)) (bit (met_of matches (7 * side + a) members) x)) (up_to attributes)
    && imp with_own (bit (met_of matches (7 * side + 6) members) x))

-- the tables of a policy's record
abbrev pub known_in : Policy → List ℕ
known_in F = known_places (record_of F).users (record_of F).resources (record_of F).known

abbrev pub matches_in : Policy → List ℕ
matches_in F = match_table (record_of F).kinds (record_of F).known (record_of F).values (record_of F).holders (record_of F).users (record_of F).resources (record_of F).roles
