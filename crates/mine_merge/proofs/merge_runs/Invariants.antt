-- The invariant: for every policy whose tables these are, scratch shows what the first stage leaves of the runs so far. Assumes nothing.
use Prim.Native.Nat.{ℕ, ◌+◌, ◌≤◌}
use lib.ListN.{length}
use mathlib.Core.Path.{◌≡◌}
use Rattle.role_record.specs.Record.{Sized}
use Rattle.mine_groups.specs.Scratch.{all_parts}
use Rattle.mine_merge.proofs.RunLaws.{RunsDone}
use Rattle.mine_merge.specs.Steps.{Paired, head_count}
use Rattle.mine_merge.specs.Traced.{Traced, alone}
use Rattle.mine_parts.specs.Layout.{rest_at, name_in}
use Rattle.policy.specs.Policy.{Policy}
use Rattle.mine_merge.proofs.merge_runs.Given as goal

abbrev pub invariant-loop-run : goal.invariant-loop-run
invariant-loop-run l =
    (l.run ≤ l.runs) × (length l.scratch ≡ length l.initial.scratch) × (l.made + head_count l.scratch ≤ head_count l.initial.scratch)
    × ((F : Policy) → Sized F → Paired F l.links l.matches l.knowing l.attributes l.sizes.users l.sizes.resources l.sizes.operations → Traced F (all_parts l.starts) l.initial.scratch alone → RunsDone F l.cuts l.starts l.scratch l.made l.run l.first)
    × ((i : ℕ) → name_in (rest_at l.scratch i) ≡ name_in (rest_at l.initial.scratch i))
