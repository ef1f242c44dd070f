-- What scratch memory is filled with: the parts in their order, role by role, with the words of each worked out from the tables; and how many
-- parts stand before each role.
-- Assumes nothing.
use Rattle.std.specs.Prelude.{ℕ, ◌+◌, ◌<◌, length, get_or, List, ◌++◌, ◌≡◌}
use Rattle.grant_parts.specs.Parts.{is_part_in, class_row}
use Rattle.mine_pairs.specs.PairLevels.{group_level}
use Rattle.mine_parts.specs.Layout.{users_at, resources_at, operations_at, rest_at, rest_of, name_of}
use Rattle.mine_theory.specs.Words.Words.{Words}
use Rattle.mine_words.specs.PartWords.{atoms_of}
use Rattle.policy.specs.Roles.{Part}
use Rattle.role_record.specs.Cells.{permission_at}
use Rattle.sets.specs.Tests.{each, only, up_to}

-- ---- the parts, by the tables

module _ (holders permissions : List ℕ) (operations : ℕ) where
  -- the parts of role k that an operation before o leads
  unfoldable pub leads_before : ℕ → ℕ → List Part
  leads_before k o = each (λ q. only (is_part_in holders permissions operations k q) (record { role = k; lead = q })) (up_to o)

  -- the parts of the roles before k
  unfoldable pub parts_before : ℕ → List Part
  parts_before k = each (λ j. leads_before j operations) (up_to k)

  -- the table of how many they are has the roles before k
  abbrev pub StartsTo : List ℕ → ℕ → Type 0
  StartsTo starts k = (j : ℕ) → j < k → get_or starts j 0 ≡ length (parts_before j)

-- the words of a part
unfoldable pub part_words : (links attributes holders permissions : List ℕ) → ℕ → Part → Words
part_words links attributes holders permissions operations p = record {
  users = get_or holders p.role 0;
  resources = get_or permissions (permission_at p.role p.lead) 0;
  ops = class_row permissions p.role operations p.lead;
  atoms = atoms_of links attributes (get_or holders p.role 0) (get_or permissions (permission_at p.role p.lead) 0);
}

-- ---- the words of scratch memory

module _ (links matches known attributes holders permissions : List ℕ) (users resources operations : ℕ) where
  abbrev pub words_for : Part → Words
  words_for = part_words links attributes holders permissions operations

  abbrev pub level_for : Part → ℕ
  level_for p = group_level links matches known attributes users resources operations (words_for p)

  -- the four words of a part that has number i: it is its own head
  pub record FilledWith (p : Part) (i a b c d : ℕ) : Type 0 where
    pub users_in : a ≡ (words_for p).users
    pub resources_in : b ≡ (words_for p).resources
    pub operations-in : c ≡ (words_for p).ops
    pub rest_in : d ≡ rest_of (words_for p).atoms (level_for p) (name_of p.role p.lead) i

  -- these parts stand in scratch by their numbers
  abbrev pub FilledBy : List ℕ → List Part → Type 0
  FilledBy t l = (i : ℕ) → i < length l → FilledWith (get_or l i (record { role = 0; lead = 0 })) i (users_at t i) (resources_at t i) (operations_at t i) (rest_at t i)

  -- the parts of role k that the operations before o lead are stored from `first` on, behind whatever parts stood before
  pub record RoleTo (t u : List ℕ) (k first n o : ℕ) : Type 0 where
    pub long : length u ≡ length t
    pub count : n ≡ first + length (leads_before holders permissions operations k o)
    pub filled : (l : List Part) → length l ≡ first → FilledBy t l → FilledBy u (l ++ leads_before holders permissions operations k o)

  -- scratch has been filled with the n parts of the roles before k, and the table of starts with as many as there are before each
  pub record FilledTo (t starts : List ℕ) (n k : ℕ) : Type 0 where
    pub count : n ≡ length (parts_before holders permissions operations k)
    pub filled : FilledBy t (parts_before holders permissions operations k)
    pub begins : StartsTo holders permissions operations starts k
