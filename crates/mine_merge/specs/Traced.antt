-- Groups in scratch memory while they are merged: a part's last word names the part itself if it is a head, and else an earlier part of its
-- group, which need not be the head.
-- Assumes nothing.
use Rattle.std.specs.Prelude.{ℕ, ◌≤◌, ◌<◌, eqb, Bool, true, cond, List, [], ◌∷◌, ◌≡◌}
use Rattle.mine_theory.specs.Search.Frontier.{Groups}
use Rattle.policy.specs.Covering.{fits, level_of}
use Rattle.policy.specs.Merging.{union}
use Rattle.policy.specs.Mined.{part_count, part_at}
use Rattle.policy.specs.Policy.{Policy, setting_of, roles_in}
use Rattle.policy.specs.Rules.{NotEmpty}
use Rattle.mine_parts.specs.Layout.{rest_at, level_in, head_in, named_at, words_at, is_head_at}
use Rattle.sets.specs.Tests.{Is, elem}
use Rattle.mine_groups.specs.Scratch.{blocks_of}
use Rattle.mine_theory.specs.Words.Words.{words_of}

-- part k is in i's group: it is i, or the part that it names is in the group
abbrev pub traced_to : List ℕ → List ℕ → ℕ → ℕ → Bool
traced_to t group i k = cond (eqb (head_in (rest_at t k)) k) (eqb k i) (elem (head_in (rest_at t k)) group)

module _ (F : Policy) where
  pub record Traced (parts : ℕ) (t : List ℕ) (s : Groups (List ℕ)) : Type 0 where
    pub all : parts ≡ part_count (setting_of F) (roles_in F)
    pub named : (i : ℕ) → i < parts → named_at t i ≡ part_at (setting_of F) (roles_in F) i
    pub heads : (i : ℕ) → i < parts → is_head_at t i ≡ s.alive i
    pub words : (i : ℕ) → i < parts → Is (s.alive i) → words_at t i ≡ words_of (setting_of F) (union (setting_of F) (blocks_of F) (s.group i))
    pub level : (i : ℕ) → i < parts → Is (s.alive i) → level_in (rest_at t i) ≡ level_of (setting_of F) (union (setting_of F) (blocks_of F) (s.group i))
    pub fitting : (i : ℕ) → i < parts → Is (s.alive i) → Is (fits (setting_of F) (union (setting_of F) (blocks_of F) (s.group i)) 3)
    pub filled : (i : ℕ) → i < parts → Is (s.alive i) → NotEmpty (setting_of F) (union (setting_of F) (blocks_of F) (s.group i))
    pub earlier : (k : ℕ) → k < parts → head_in (rest_at t k) ≤ k
    pub members : (i k : ℕ) → i < parts → k < parts → Is (s.alive i) → elem k (s.group i) ≡ traced_to t (s.group i) i k
    pub low : (i k : ℕ) → i < parts → Is (s.alive i) → Is (elem k (s.group i)) → k < parts

-- every part alone
unfoldable pub alone : Groups (List ℕ)
alone = record { alive = λ i. true; group = λ i. i ∷ [] }
