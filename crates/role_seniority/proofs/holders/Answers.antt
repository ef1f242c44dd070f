use borrow.Author.Count.{below_none}
use borrow.Author.Rules.{rules}
use lib.ListN.{get_or}
use native.Mathlib.Omega.{arith}
use Rattle.role_seniority.specs.Closure.{held_by}
use Rattle.role_seniority.specs.ClosureLaws.{held_table-unique}
use Rattle.sets.specs.LoopLaws.{store_next}
use Rattle.role_seniority.proofs.holders.Goals as goal

pub loop-k-init : goal.loop-k-init
loop-k-init c = (search rules, search rules, below_none _)

pub loop-k-preserved : goal.loop-k-preserved
loop-k-preserved c =
    let turn = c.loop-k in
    let a = c.args.assigned.now in (
      search rules,
      search rules,
      store_next turn.out turn.k c.held.result (λ j. held_by a (get_or a j 0) (get_or c.args.seniors.now j 0) c.args.roles)
          turn.invariant.2 c.held.ensures (omega arith),
    )

pub returns : goal.returns
returns c =
    held_table-unique c.args.assigned.now c.args.seniors.now c.loop-k.out c.args.roles c.loop-k.invariant.1
    (λ j l. c.loop-k.invariant.2 j (omega arith))
