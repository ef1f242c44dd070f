-- The invariant: reading on from here ends as the whole file does, and what was collected stands in the policy so far. Assumes nothing.
use lib.ListN.{length}
use mathlib.Core.Path.{◌≡◌}
use Rattle.role_lines.specs.CollectingLaws.{Reached}
use Rattle.role_lines.proofs.lines.Given as goal

abbrev pub invariant-loop-c : goal.invariant-loop-c
invariant-loop-c l = (length l.lines ≡ 32) × Reached l.file l.rest l.roles l.lines

abbrev pub decreases-loop-c : goal.decreases-loop-c
decreases-loop-c l = length l.rest
