-- Groups of parts in scratch memory: what its words stand for once groups are merged, and where the parts of each role begin.
-- Assumes nothing.
use Rattle.std.specs.Prelude.{ℕ, ◌+◌, ◌≤◌, ◌<◌, eqb, get_or, List, ◌≡◌}
use Rattle.mine_theory.specs.Search.Frontier.{Groups, groups_in}
use Rattle.mine_theory.specs.Words.Words.{words_of}
use Rattle.policy.specs.Covering.{fits, level_of}
use Rattle.policy.specs.Merging.{union}
use Rattle.policy.specs.Mined.{part_count, part_at, part_block, mined_groups}
use Rattle.policy.specs.Policy.{Policy, setting_of, roles_in}
use Rattle.policy.specs.Rules.{Block, NotEmpty}
use Rattle.mine_parts.specs.Layout.{room_in, rest_at, level_in, head_in, role_at, named_at, words_at, is_head_at}
use Rattle.sets.specs.Tests.{Is, elem}

module _ (F : Policy) where
  -- the block of each part
  abbrev pub blocks_of : ℕ → Block
  blocks_of = part_block (setting_of F) (roles_in F)

  -- so many parts stand in scratch, all of the policy's, and it shows groups of them
  pub record ShowsGroups (parts : ℕ) (t : List ℕ) (s : Groups (List ℕ)) : Type 0 where
    pub all : parts ≡ part_count (setting_of F) (roles_in F)
    pub named : (i : ℕ) → i < parts → named_at t i ≡ part_at (setting_of F) (roles_in F) i
    pub heads : (i : ℕ) → i < parts → is_head_at t i ≡ s.alive i
    pub words : (i : ℕ) → i < parts → Is (s.alive i) → words_at t i ≡ words_of (setting_of F) (union (setting_of F) blocks_of (s.group i))
    pub level : (i : ℕ) → i < parts → Is (s.alive i) → level_in (rest_at t i) ≡ level_of (setting_of F) (union (setting_of F) blocks_of (s.group i))
    pub fitting : (i : ℕ) → i < parts → Is (s.alive i) → Is (fits (setting_of F) (union (setting_of F) blocks_of (s.group i)) 3)
    pub filled : (i : ℕ) → i < parts → Is (s.alive i) → NotEmpty (setting_of F) (union (setting_of F) blocks_of (s.group i))
    pub members : (i k : ℕ) → i < parts → k < parts → Is (s.alive i) → elem k (s.group i) ≡ eqb (head_in (rest_at t k)) i
    pub low : (i k : ℕ) → i < parts → Is (s.alive i) → Is (elem k (s.group i)) → k < parts

  -- scratch shows the groups that merging with these cuts leaves
  pub record Merged (cuts : List ℕ) (parts : ℕ) (t : List ℕ) : Type 0 where
    pub groups : Groups (List ℕ)
    pub shown : ShowsGroups parts t groups
    pub left : groups_in parts groups ≡ mined_groups (setting_of F) (roles_in F) cuts

-- of so many parts those that are named after role k are those from start k on and before start k + 1; a later role starts no earlier
pub record Started (parts : ℕ) (t starts : List ℕ) : Type 0 where
  pub between : (i k : ℕ) → k < 32 → get_or starts k 0 ≤ i → i < get_or starts (k + 1) 0 → (i < parts) × (role_at t i ≡ k)
  pub within : (i : ℕ) → i < parts → (get_or starts (role_at t i) 0 ≤ i) × (i < get_or starts (role_at t i + 1) 0)
  pub rises : (j k : ℕ) → j ≤ k → k ≤ 32 → get_or starts j 0 ≤ get_or starts k 0

-- how many parts there are: behind the last role stand all of them
abbrev pub all_parts : List ℕ → ℕ
all_parts starts = get_or starts 32 0

-- scratch has room for all parts, and they stand there role by role
pub record Stands (t starts : List ℕ) : Type 0 where
  pub room : all_parts starts ≤ room_in t
  pub begun : Started (all_parts starts) t starts
