-- The groups that mining leaves, and their rules. 01, section "Covering, merging, striking"; with cuts, request 11.
-- Assumes nothing.
use Rattle.std.specs.Prelude.{ℕ, suc, eqb, leb, length, get_or, List, [], ◌∷◌, ◌++◌, map}
use Rattle.policy.specs.Merging.{stages, union, mergeable}
use Rattle.policy.specs.Roles.{Roles, Part, parts, block_of}
use Rattle.policy.specs.Rules.{Setting, Rule, Block}
use Rattle.policy.specs.Thinning.{written}
use Rattle.sets.specs.Tests.{keep, up_to}

-- request 11: cut c parts role c from the one before it. The number of the run that role k stands in: as many runs come
-- before it as there are cuts up to k
unfoldable pub run_of : List ℕ → ℕ → ℕ
run_of cuts k = length (keep (λ c. leb c k) cuts)

module _ (P : Setting) (R : Roles) where
  unfoldable pub part_count : ℕ
  part_count = length (parts P R)

  -- part number p, in the order of parts; any part beyond the last
  unfoldable pub part_at : ℕ → Part
  part_at p = get_or (parts P R) p (record { role = 0; lead = 0 })

  unfoldable pub part_block : ℕ → Block
  part_block p = block_of P R (part_at p)

  -- the parts of each run of roles, in their order, each a group by itself
  unfoldable pub segments : List ℕ → List (List (List ℕ))
  segments cuts =
      map (λ j. map (λ p. p ∷ []) (keep (λ p. eqb (run_of cuts (part_at p).role) j) (up_to part_count)))
      (up_to (suc (length cuts)))

  -- the groups that merging with these cuts leaves, as lists of part numbers in the order in which they came together
  unfoldable pub mined_groups : List ℕ → List (List ℕ)
  mined_groups cuts = (stages (mergeable P part_block) ◌++◌ part_count (segments cuts)).0

  unfoldable pub merge_count : List ℕ → ℕ
  merge_count cuts = (stages (mergeable P part_block) ◌++◌ part_count (segments cuts)).1

  -- what a group's parts grant; its rule
  unfoldable pub group_block : List ℕ → Block
  group_block g = union P part_block g

  unfoldable pub rule_of : List ℕ → Rule
  rule_of g = written P (group_block g)
