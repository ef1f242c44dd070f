-- The invariant: what the search for a partner of the head will find, for every policy whose tables these are. The heads become fewer.
-- Assumes nothing.
use mathlib.Core.List.{List}
use mathlib.Core.Path.{◌≡◌}
use Rattle.mine_theory.specs.Search.Frontier.{Groups}
use Prim.Native.Nat.{ℕ, ◌+◌, ◌≤◌}
use lib.ListN.{length}
use Rattle.role_record.specs.Record.{Sized}
use Rattle.mine_merge.specs.Progress.{Settled}
use Rattle.mine_merge.proofs.ProgressLaws.{Going}
use Rattle.mine_merge.specs.Steps.{Paired, head_count}
use Rattle.mine_parts.specs.Layout.{rest_at, name_in, is_head_at}
use Rattle.mine_join.specs.Joins.{Prepared}
use Rattle.mine_search.specs.PartnerSearch.{pair_at, Finds}
use Rattle.mine_search.specs.PartnerSearchLaws.{Chosen}
use Rattle.policy.specs.Policy.{Policy}
use Rattle.sets.specs.Tests.{Is}
use Rattle.mine_merge.proofs.settle_head.Given as goal

abbrev pub invariant-loop-window : goal.invariant-loop-window
invariant-loop-window l =
    (length l.scratch ≡ length l.initial.scratch) × (l.seeking.head ≤ l.start) × (l.seeking.from ≤ l.window.end) × (l.merges + head_count l.scratch ≤ head_count l.initial.scratch)
    × ((r level : ℕ) → Finds l.window.end l.links l.matches l.knowing l.attributes l.sizes.users l.sizes.resources l.sizes.operations l.scratch l.seeking.head l.seeking.from r level
    → Chosen l.window.end (pair_at l.links l.matches l.knowing l.attributes l.sizes.users l.sizes.resources l.sizes.operations l.scratch) l.seeking.head r
    × ((F : Policy) → Sized F → Paired F l.links l.matches l.knowing l.attributes l.sizes.users l.sizes.resources l.sizes.operations → (parts : ℕ) (old : Groups (List ℕ)) (made : ℕ) → Settled F parts l.window.first l.window.end old l.initial.scratch made l.start
    → Going F parts l.window.first l.window.end old l.scratch (made + l.merges) (l.start + 1) l.seeking.head r))
    × Prepared l.window.first l.window.end l.matches l.scratch l.heads l.ready l.met l.seeking.head
    × ((i : ℕ) → name_in (rest_at l.scratch i) ≡ name_in (rest_at l.initial.scratch i))
    × (l.window.first ≤ l.seeking.head) × (l.window.first ≤ l.seeking.from) × Is (is_head_at l.scratch l.seeking.head)

abbrev pub decreases-loop-window : goal.decreases-loop-window
decreases-loop-window l = head_count l.scratch
