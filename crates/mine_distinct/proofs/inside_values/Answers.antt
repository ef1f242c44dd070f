use Prim.Native.Nat.{◌/◌, ◌%◌}
use borrow.Author.Count.{below_none}
use native.Mathlib.Omega.{arith}
use Rattle.mine_distinct.specs.InsideFilling.{inside_word}
use Rattle.role_record.specs.Record.{table_of}
use Rattle.mine_distinct.specs.InsideLaws.{inside-all}
use Rattle.sets.specs.LoopLaws.{store_next, table-unique}
use borrow.Author.Rules.{rules}
use Rattle.mine_distinct.proofs.inside_values.Goals as goal

pub loop-w-init : goal.loop-w-init
loop-w-init c = (search rules, search rules, below_none _)

pub loop-w-preserved : goal.loop-w-preserved
loop-w-preserved c =
    let turn = c.loop-w in
    let a = c.args in (
      search rules,
      search rules,
      store_next turn.inside turn.w c.inside_word.result (λ j. inside_word a.kinds.now a.distinct.now a.having.now (j / 64) (j % 64)) turn.invariant.2 c.inside_word.ensures (omega arith),
    )

pub returns : goal.returns
unfolding table_of
returns c =
    let end = c.loop-w in
    let a = c.args in
    let filled = table-unique 896 end.inside (λ j. inside_word a.kinds.now a.distinct.now a.having.now (j / 64) (j % 64)) end.invariant.1 (λ j l. end.invariant.2 j (omega arith)) in
    λ known values holders users resources roles ed eh. inside-all known values holders a.kinds.now users resources roles a.distinct.now a.having.now _ ed eh filled
