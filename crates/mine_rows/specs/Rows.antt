-- What the rows of a group tell of a rule: the resources that all atoms of the group join with each user. Most strikes are decided by them,
-- without a search through the triples.
-- Assumes nothing.
use Rattle.std.specs.Prelude.{ℕ, ◌+◌, ◌*◌, eqb, ltb, get_or, Bool, cond, ◌&&◌, not, List}
use Rattle.grant_links.specs.Linked.{linked_with}
use Rattle.role_record.specs.Record.{table_of}
use Rattle.mine_corners.specs.Pairing.{less}
use Rattle.sets.specs.Sets.{bit, subset, mask_of}
use Rattle.sets.specs.Tests.{imp, all, up_to}
use Rattle.mine_theory.specs.Words.Words.{Words}

-- every resource there can be
abbrev pub everything : ℕ
everything = mask_of 64 (λ k. ltb k 64)

-- what two sets share
abbrev pub shared : ℕ → ℕ → ℕ
shared a b = mask_of 64 (λ k. bit a k && bit b k)

-- of each user's resources those that an atom joins with the user
unfoldable pub narrowed_rows : List ℕ → ℕ → List ℕ → List ℕ
narrowed_rows links i rows = table_of 64 (λ u. shared (get_or rows u 0) (get_or links (64 * i + u) 0))

-- the resources that some atoms join with each user
unfoldable pub joined_rows : List ℕ → ℕ → List ℕ
joined_rows links atoms = table_of 64 (λ u. linked_with links atoms u everything)

-- no user of a set has one of these resources in its row
unfoldable pub free_corner : List ℕ → ℕ → ℕ → Bool
free_corner rows us rs = all (λ u. imp (bit us u) (eqb (shared (get_or rows u 0) rs) 0)) (up_to 64)

-- the group's users have none of the resources that a rule adds, and the users that it adds none at all
unfoldable pub free_corners : List ℕ → Words → ℕ → ℕ → Bool
free_corners rows W who what = free_corner rows W.users (less what W.resources) && free_corner rows (less who W.users) what

-- the group's resources for a user
unfoldable pub row_in : List ℕ → Words → ℕ → ℕ
row_in rows W u = cond (bit W.users u) (shared (get_or rows u 0) W.resources) 0

-- the atoms join a user of the group with all its resources
unfoldable pub is_full : List ℕ → Words → ℕ → Bool
is_full rows W u = bit W.users u && subset W.resources (get_or rows u 0)

-- the users to look at for what a rule adds: where it adds no resources, not those that have all
unfoldable pub open_users : Words → ℕ → ℕ → ℕ → ℕ
open_users W full who what = cond (subset what W.resources) (less who full) who

-- some atoms join these users with none of these resources but the group's
unfoldable pub adds_none : List ℕ → List ℕ → Words → ℕ → ℕ → ℕ → Bool
adds_none links rows W atoms who what = all (λ u. imp (bit who u) (eqb (linked_with links atoms u (less what (row_in rows W u))) 0)) (up_to 64)

-- a rule asks no more than the group has, and the group has an operation
unfoldable pub asks_no_more : Words → ℕ → ℕ → ℕ → ℕ → Bool
asks_no_more W atoms who what os =
    not (eqb (shared W.ops (mask_of 64 (λ k. ltb k os))) 0) && ((subset W.users who && subset W.resources what) && subset atoms W.atoms)
