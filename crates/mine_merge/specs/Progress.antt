-- What is known of scratch memory while the groups of a policy are merged: those of a window, and in the end all.
-- Assumes nothing.
use Rattle.std.specs.Prelude.{ℕ, ◌+◌, ◌≤◌, ◌<◌, length, false, List, ◌++◌, ◌⊎◌, ◌≡◌}
use Rattle.mine_theory.specs.Search.Frontier.{Groups, groups_in, within, ok_at}
use Rattle.mine_merge.specs.Traced.{Traced}
use Rattle.policy.specs.Merging.{merge_all, mergeable}
use Rattle.policy.specs.Mined.{mined_groups, merge_count}
use Rattle.policy.specs.Policy.{Policy, setting_of, roles_in}
use Rattle.mine_groups.specs.Scratch.{blocks_of}

-- the groups whose heads are in a window
abbrev pub groups_of : ℕ → ℕ → Groups (List ℕ) → List (List ℕ)
groups_of first end s = groups_in end (within first s)

module _ (F : Policy) where
  -- what merging leaves of some groups, and how many merges it makes
  abbrev pub merged_of : List (List ℕ) → List (List ℕ) × ℕ
  merged_of gs = merge_all (mergeable (setting_of F) (blocks_of F)) ◌++◌ (length gs) gs

  -- ---- a stage: the groups of a window are merged, which were those of `old` at first

  module _ (parts first end : ℕ) (old : Groups (List ℕ)) where
    -- scratch shows groups from which merging goes on to what it leaves of the window, with `made` merges made; all others are as they were
    pub record Progress (t : List ℕ) (made : ℕ) (s : Groups (List ℕ)) : Type 0 where
      pub inside : end ≤ parts
      pub shown : Traced F parts t s
      pub ends : (merged_of (groups_of first end s)).0 ≡ (merged_of (groups_of first end old)).0
      pub counted : made + (merged_of (groups_of first end s)).1 ≡ (merged_of (groups_of first end old)).1
      pub outside : (k : ℕ) → (k < first) ⊎ (end ≤ k) → (s.alive k ≡ old.alive k) × (s.group k ≡ old.group k)

    -- no pair of the window with the earlier head before `front` may be joined
    abbrev pub Refused : Groups (List ℕ) → ℕ → Type 0
    Refused s front = (i j : ℕ) → i < j → j < end → i < front → ok_at (mergeable (setting_of F) (blocks_of F)) (within first s) i j ≡ false

    -- both
    pub record Settled (t : List ℕ) (made front : ℕ) : Type 0 where
      pub groups : Groups (List ℕ)
      pub progress : Progress t made groups
      pub refused : Refused groups front

  -- ---- before the last stage

  -- scratch shows groups from which merging goes on to those that mining with these cuts leaves, with `made` merges made
  pub record Leading (cuts : List ℕ) (parts : ℕ) (t : List ℕ) (made : ℕ) : Type 0 where
    pub groups : Groups (List ℕ)
    pub shown : Traced F parts t groups
    pub ends : (merged_of (groups_in parts groups)).0 ≡ mined_groups (setting_of F) (roles_in F) cuts
    pub counted : made + (merged_of (groups_in parts groups)).1 ≡ merge_count (setting_of F) (roles_in F) cuts
