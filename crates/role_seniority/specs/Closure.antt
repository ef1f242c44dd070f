-- Seniors and holders as tables of sets: word i of a table is a set for role i, of roles or of users. 01, section "Roles and parts".
-- Assumes nothing.
use Rattle.std.specs.Prelude.{ℕ, get_or, Bool, ◌&&◌, ◌||◌, List, map}
use Rattle.policy.specs.Policy.{reach}
use Rattle.policy.specs.Rules.{own}
use Rattle.sets.specs.Sets.{bit, mask_of}
use Rattle.sets.specs.Tests.{any, up_to}

-- the table's word i holds j
abbrev pub among : List ℕ → ℕ → ℕ → Bool
among l i j = bit (get_or l i 0) j

-- the seniors of each role, from the table of direct seniors, with roles below n between them
unfoldable pub closed : List ℕ → ℕ → List ℕ
closed l n = map (λ i. mask_of 64 (λ j. reach (among l) n i j)) (up_to 32)

-- one role more may stand between them: role n
unfoldable pub passed_by : List ℕ → ℕ → ℕ → ℕ
passed_by l n i = mask_of 64 (λ j. among l i j || (among l i n && among l n j))

unfoldable pub passed : List ℕ → ℕ → List ℕ
passed l n = map (passed_by l n) (up_to 32)

-- "Its holders are the users assigned to it or to a senior.": from the users of each role, the role's own users and its seniors
unfoldable pub held_by : List ℕ → ℕ → ℕ → ℕ → ℕ
held_by a own s n = mask_of 64 (λ u. bit own u || any (λ j. bit s j && among a j u) (up_to n))

unfoldable pub held_table : List ℕ → List ℕ → ℕ → List ℕ
held_table a s n = map (λ k. held_by a (get_or a k 0) (get_or s k 0) n) (up_to 32)
