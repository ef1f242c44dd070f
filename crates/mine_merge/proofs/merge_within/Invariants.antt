-- The invariant: for every policy whose tables these are, no pair of the window with the earlier head before the front is left. Assumes
-- nothing.
use Prim.Native.Nat.{ℕ, ◌+◌, ◌≤◌}
use lib.ListN.{length}
use mathlib.Core.List.{List}
use mathlib.Core.Path.{◌≡◌}
use Rattle.role_record.specs.Record.{Sized}
use Rattle.mine_theory.specs.Search.Frontier.{Groups}
use Rattle.mine_merge.specs.Progress.{Settled}
use Rattle.mine_merge.specs.Steps.{Paired, head_count}
use Rattle.mine_merge.specs.Traced.{Traced}
use Rattle.mine_heads.specs.Heads.{Marked}
use Rattle.mine_parts.specs.Layout.{rest_at, name_in}
use Rattle.policy.specs.Policy.{Policy}
use Rattle.mine_merge.proofs.merge_within.Given as goal

abbrev pub invariant-loop-front : goal.invariant-loop-front
invariant-loop-front l =
    (l.window.first ≤ l.front) × (length l.scratch ≡ length l.initial.scratch) × (l.made + head_count l.scratch ≤ head_count l.initial.scratch) × Marked l.window.first l.window.end l.heads l.scratch
    × ((F : Policy) → Sized F → Paired F l.links l.matches l.knowing l.attributes l.sizes.users l.sizes.resources l.sizes.operations → (parts : ℕ) (old : Groups (List ℕ)) → l.window.end ≤ parts → Traced F parts l.initial.scratch old → Settled F parts l.window.first l.window.end old l.scratch l.made l.front)
    × ((i : ℕ) → name_in (rest_at l.scratch i) ≡ name_in (rest_at l.initial.scratch i))
