use borrow.Author.Count.{below_none}
use borrow.Author.Rules.{rules}
use native.Mathlib.Omega.{arith}
use Rattle.sets.specs.LoopLaws.{store_next}
use Rattle.mine_rows.specs.RowLaws.{rows_unique}
use Rattle.mine_rows.specs.Rows.{everything}
use Rattle.mine_rows.proofs.widen_rows.Goals as goal

pub loop-u-init : goal.loop-u-init
loop-u-init c = (search rules, search rules, below_none _)

pub loop-u-preserved : goal.loop-u-preserved
loop-u-preserved c = (
  search rules,
  search rules,
  store_next c.loop-u.out c.loop-u.u c.below-all.result (λ u. everything) c.loop-u.invariant.2 c.below-all.ensures (omega arith),
)

pub returns : goal.returns
returns c =
    let end = c.loop-u in
    rows_unique (λ u. everything) end.out end.invariant.1 (λ j l. end.invariant.2 j (omega arith))
