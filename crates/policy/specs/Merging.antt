-- Merging: the first pair that may be joined is joined, and the search begins afresh. 01, section "Covering, merging, striking".
-- Assumes nothing.
use Rattle.std.specs.Prelude.{ℕ, zero, suc, ◌+◌, max, min, Bool, cond, List, [], ◌∷◌, ◌++◌, map}
use Rattle.std.proofs.Math.Option
use Rattle.std.proofs.Math.Option.{Option, none, some}
use Rattle.policy.specs.Covering.{fits, level_of}
use Rattle.policy.specs.Rules.{Setting, Block}
use Rattle.sets.specs.Tests.{any, from, up_to}

-- Over any kind of group: `ok` says whether two may become one, `join` makes the one.
module _ {A : Type 0} (ok : A → A → Bool) (join : A → A → A) where
  -- a group takes in the first of the later groups that it may; what becomes of it, and the others
  abbrev pub absorb : A → List A → Option (A × List A)
  absorb g [] = none
  absorb g (h ∷ t) =
      let r : Option (A × List A) = Option.map (λ (p : A × List A). (p.0, h ∷ p.1)) (absorb g t) in
      cond (ok g h) (some (join g h, t)) r

  -- "The first pair, earlier group first, then the other": one merge, or none where no pair is left
  abbrev pub step : List A → Option (List A)
  step [] = none
  step (g ∷ t) = elim (absorb g t) [ none ↦ Option.map (λ (s : List A). g ∷ s) (step t) | some p ↦ some (p.0 ∷ p.1) ]

  -- "That is one merge; the search then begins afresh and ends when no pair is left": the groups that are left, and how many merges
  -- were made. n is at least so many
  abbrev pub merge_all : ℕ → List A → List A × ℕ
  merge_all zero gs = (gs, 0)
  merge_all (suc n) gs = elim (step gs) [ none ↦ (gs, 0) | some s ↦ let r = merge_all n s in (r.0, suc r.1) ]

  -- request 11: "Groups merge within each run until no pair is left". A segment is the groups of one run; those that are
  -- left of each, one segment behind the other, and the merges made in all of them
  abbrev pub first_stage : ℕ → List (List A) → List A × ℕ
  first_stage n [] = ([], 0)
  first_stage n (gs ∷ segments) = let r = merge_all n gs in let s = first_stage n segments in (r.0 ++ s.0, r.1 + s.1)

  -- "then merging goes on over all groups", and merges are "counted, over both stages"
  abbrev pub stages : ℕ → List (List A) → List A × ℕ
  stages n segments = let r = first_stage n segments in let s = merge_all n r.0 in (s.0, r.1 + s.1)

-- "Groups start as one part each": the parts k, k + 1, ..., n of them
abbrev pub start_groups : ℕ → ℕ → List (List ℕ)
start_groups k n = map (λ p. p ∷ []) (from k n)

module _ (P : Setting) (block : ℕ → Block) where
  -- the blocks of a group's parts together
  unfoldable pub union : List ℕ → Block
  union g u r o = any (λ p. block p u r o) g

  -- "whose union fits a level no higher than the higher of the two"
  unfoldable pub mergeable : List ℕ → List ℕ → Bool
  mergeable g h = any (fits P (union (g ++ h))) (up_to (suc (max (level_of P (union g)) (level_of P (union h)))))

  -- the groups that 01's merging, over all parts at once, leaves of n parts, and how many merges were made
  unfoldable pub groups : ℕ → List (List ℕ)
  groups n = (merge_all mergeable ◌++◌ n (start_groups 0 n)).0

  unfoldable pub merges_made : ℕ → ℕ
  merges_made n = (merge_all mergeable ◌++◌ n (start_groups 0 n)).1

-- "ordered by lowest part": the lowest part of a group, of n parts in all
abbrev pub low_part : ℕ → List ℕ → ℕ
low_part n [] = n
low_part n (p ∷ t) = min p (low_part n t)
