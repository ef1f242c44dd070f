-- Two groups of parts beside the covering rule of both together, from four words of each and the table of links; and what they cannot do
-- without if they are to be one.
-- Assumes nothing.
use Rattle.std.specs.Prelude.{ℕ, ◌<◌, eqb, Bool, false, cond, ◌&&◌, ◌||◌, not, List, ◌≡◌}
use Rattle.std.proofs.Math.Option.{Option}
use Rattle.files.specs.Calls.{first}
use Rattle.grant_grids.specs.Grid.{triple_list, differ_at, difference_of, is_same}
use Rattle.policy.specs.Rules.{Block}
use Rattle.grant_links.specs.Linked.{row_of}
use Rattle.sets.specs.Sets.{bit, subset, mask_of}
use Rattle.sets.specs.Tests.{all, up_to}
use Rattle.mine_theory.specs.Words.Words.{Words, joined, together}
use Rattle.mine_corners.specs.declared.Group.{Group}

-- a group's words, as the code hands them about
abbrev pub words_in : Group → Words
words_in g = record { users = g.users; resources = g.resources; ops = g.operations; atoms = g.atoms }

-- the triples of a group, from the table of links
unfoldable pub table_spans : List ℕ → Words → Block
table_spans links W u r o = bit W.ops o && bit (row_of links W.atoms W.users W.resources u) r

-- the covering rule of two groups together: who and what pass its conjuncts, the operations of both, the atoms that both have
unfoldable pub covering : Words → Words → ℕ → ℕ → Words
covering W X who what = record { users = who; resources = what; ops = (joined W X).ops; atoms = (joined W X).atoms }

-- what it grants, and what the two groups have
abbrev pub covered : List ℕ → Words → Words → ℕ → ℕ → Block
covered links W X who what = table_spans links (covering W X who what)

abbrev pub grouped : List ℕ → Words → Words → Block
grouped links W X = together (table_spans links W) (table_spans links X)

-- the first triple at which the covering rule and the two groups differ
unfoldable pub first_beyond : List ℕ → Words → Words → ℕ → ℕ → ℕ → ℕ → ℕ → Option (ℕ × ℕ × ℕ)
first_beyond links W X who what us rs os = first (differ_at (covered links W X who what) (grouped links W X)) (triple_list us rs os)

-- each user who is not among these has the same triples on both sides
unfoldable pub OthersSame : List ℕ → Words → Words → ℕ → ℕ → ℕ → ℕ → Type 0
OthersSame links W X among who what us =
    (u : ℕ) → u < us → bit among u ≡ false → (r o : ℕ) → r < 64 → o < 64 → covered links W X who what u r o ≡ grouped links W X u r o

-- they differ at none
abbrev pub covers_just : List ℕ → Words → Words → ℕ → ℕ → ℕ → ℕ → ℕ → Bool
covers_just links W X who what us rs os = is_same (difference_of (first_beyond links W X who what us rs os))

-- the covering rule would have just the triples of the two groups if nobody but their users and nothing but their resources passed
unfoldable pub grants_exactly : List ℕ → Words → Words → ℕ → ℕ → ℕ → Bool
grants_exactly links W X us rs os = covers_just links W X (joined W X).users (joined W X).resources us rs os

-- one set without the other
abbrev pub less : ℕ → ℕ → ℕ
less a b = mask_of 64 (λ k. bit a k && not (bit b k))

-- a user's rows agree as words, c of the covering rule, a and b of the groups: where both groups have an operation, c is both rows
-- together; where one has an operation that the other lacks, c is its row
unfoldable pub rows_agree : ℕ → ℕ → ℕ → ℕ → ℕ → Bool
rows_agree mine theirs c a b =
    ((eqb (mask_of 64 (λ k. bit mine k && bit theirs k)) 0 || eqb c (mask_of 64 (λ k. bit a k || bit b k)))
    && (eqb (less mine theirs) 0 || eqb c a))
    && (eqb (less theirs mine) 0 || eqb c b)

-- ---- what two groups that fit together cannot do without

-- no user of one set and resource of another are joined by all of these atoms
unfoldable pub corner_free : List ℕ → ℕ → ℕ → ℕ → Bool
corner_free links atoms us rs = all (λ u. eqb (row_of links atoms us rs u) 0) (up_to 64)

-- these atoms join nobody who passes with anything that passes, but some of these users with some of these resources
unfoldable pub rim_free : List ℕ → ℕ → ℕ → ℕ → ℕ → ℕ → Bool
rim_free links atoms us rs who what = corner_free links atoms us (less what rs) && corner_free links atoms (less who us) what

-- a group with operations that the other lacks has the other's users and resources
unfoldable pub reaches : Words → Words → Bool
reaches W X = eqb (less W.ops X.ops) 0 || (subset X.users W.users && subset X.resources W.resources)

-- the atoms of both join no user of one group only with a resource of the other only
unfoldable pub corners_free : List ℕ → Words → Words → Bool
corners_free links W X =
    corner_free links (joined W X).atoms (less W.users X.users) (less X.resources W.resources)
    && corner_free links (joined W X).atoms (less X.users W.users) (less W.resources X.resources)

-- all of these
unfoldable pub may_join : List ℕ → Words → Words → Bool
may_join links W X = (reaches W X && reaches X W) && corners_free links W X

-- whom the covering rule of two such groups may grant more: the users of a group with atoms that the other lacks
unfoldable pub changed_users : Words → Words → ℕ
changed_users W X =
    cond (subset W.atoms X.atoms) X.users (cond (subset X.atoms W.atoms) W.users (mask_of 64 (λ k. bit W.users k || bit X.users k)))
