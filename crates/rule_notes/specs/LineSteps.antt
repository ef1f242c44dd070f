-- What a legal line makes of the numbers and tables that are kept of the open rule.
-- Assumes nothing.
use Rattle.std.specs.Prelude.{ℕ, ◌+◌, ◌*◌, ◌<◌, ltb, get_or, set, Bool, true, cond, ◌&&◌, ◌||◌, List}
use Rattle.rule_listings.specs.Listed.{seen_after, again_after}
use Rattle.role_record.specs.Record.{marked}
use Rattle.rule_meeting.specs.Meeting.{meeting_of, count_by}
use Rattle.grant_grids.specs.Updates.{added_part}
use Rattle.sets.specs.Sets.{bit, mask_of}
use Rattle.rule_commands.specs.declared.Atom.{Atom}
use Rattle.rule_commands.specs.declared.Raw.{Raw}
use Rattle.rule_commands.specs.declared.RuleCommand.{RuleCommand}
use Rattle.rule_notes.specs.declared.Tally.{Tally}
use Rattle.rule_commands.specs.declared.ListedValue.{ListedValue}
use Rattle.rule_commands.specs.declared.Atom.TheVariants.{SetContainsSet, SetContainsSingle, SingleEqualsSingle}
use Rattle.rule_commands.specs.declared.RuleCommand.TheVariants.{Opens, Value, Operations, Link, Part, Level, Ends}

-- the place of an attribute in a summary: any that is not one of the six counts as the 255
unfoldable pub place_by : ℕ → ℕ → ℕ
place_by side a = cond (ltb a 6) (7 * side + a) (7 * side + 6)

-- the number of an atom among the 36; 64 for none of them
unfoldable pub pair_number : ℕ → ℕ → ℕ
pair_number a b = cond (ltb a 6 && ltb b 6) (6 * a + b) 64

unfoldable pub atom_number : Atom → ℕ
atom_number (SetContainsSet a b) = pair_number a b
atom_number (SetContainsSingle a b) = pair_number a b
atom_number (SingleEqualsSingle a b) = pair_number a b

-- ---- the numbers

abbrev pub tally_with : Tally → ℕ → ℕ → ℕ → Bool → Bool → Raw → Tally
tally_with k asked atoms acts lists tells line = record { inside = k.inside; asked = asked; atoms = atoms; operations = acts; listing = lists; telling = tells; last = line; rules = k.rules; stray = k.stray }

unfoldable pub noted_with : Tally → RuleCommand → Raw → Tally
noted_with k Opens line = tally_with k k.asked k.atoms k.operations k.listing k.telling line
noted_with k (Value v) line = tally_with k (marked k.asked (place_by v.side v.attribute)) k.atoms k.operations k.listing k.telling line
noted_with k (Operations m) line = tally_with k k.asked k.atoms m k.listing k.telling line
noted_with k (Link t) line = tally_with k k.asked (marked k.atoms (atom_number t)) k.operations k.listing k.telling line
noted_with k (Part j m) line = tally_with k k.asked k.atoms k.operations true k.telling line
noted_with k (Level l) line = tally_with k k.asked k.atoms k.operations k.listing true line
noted_with k Ends line = tally_with k k.asked k.atoms k.operations k.listing k.telling line

-- ---- the tables

-- those who meet a listed value join those who met one of the same attribute before
unfoldable pub met_more : List ℕ → ℕ → ℕ → List ℕ
met_more met i who = set met i (mask_of 64 (λ k. bit (get_or met i 0) k || bit who k))

module _ (users resources roles : ℕ) (known values holders : List ℕ) where
  unfoldable pub met_with : List ℕ → ListedValue → List ℕ
  met_with met v = met_more met (place_by v.side v.attribute) (meeting_of v.side v.set v.attribute v.value (count_by v.side users resources) roles known values holders)

  unfoldable pub met_after : List ℕ → RuleCommand → List ℕ
  met_after met Opens = met
  met_after met (Value v) = met_with met v
  met_after met (Operations m) = met
  met_after met (Link t) = met
  met_after met (Part k m) = met
  met_after met (Level l) = met
  met_after met Ends = met

-- a part's role has a place in the tables
unfoldable pub PartWithin : RuleCommand → Type 0
PartWithin Opens = Unit {0}
PartWithin (Value v) = Unit {0}
PartWithin (Operations m) = Unit {0}
PartWithin (Link t) = Unit {0}
PartWithin (Part k m) = k < 32
PartWithin (Level l) = Unit {0}
PartWithin Ends = Unit {0}

-- the part listed joins the grid, for n operations, of those listed before; which parts were listed, and listed again
unfoldable pub listed_after : ℕ → List ℕ → List ℕ → List ℕ → RuleCommand → List ℕ
listed_after n holders permissions listed Opens = listed
listed_after n holders permissions listed (Value v) = listed
listed_after n holders permissions listed (Operations m) = listed
listed_after n holders permissions listed (Link t) = listed
listed_after n holders permissions listed (Part k m) = added_part n (get_or holders k 0) permissions k m listed
listed_after n holders permissions listed (Level l) = listed
listed_after n holders permissions listed Ends = listed

unfoldable pub seen_by : List ℕ → RuleCommand → List ℕ
seen_by seen Opens = seen
seen_by seen (Value v) = seen
seen_by seen (Operations m) = seen
seen_by seen (Link t) = seen
seen_by seen (Part k m) = seen_after seen k m
seen_by seen (Level l) = seen
seen_by seen Ends = seen

unfoldable pub again_by : List ℕ → List ℕ → RuleCommand → List ℕ
again_by seen again Opens = again
again_by seen again (Value v) = again
again_by seen again (Operations m) = again
again_by seen again (Link t) = again
again_by seen again (Part k m) = again_after seen again k m
again_by seen again (Level l) = again
again_by seen again Ends = again
