use borrow.Author.Count.{below_none}
use borrow.Author.Rules.{rules}
use lib.ListN.{length}
use mathlib.Core.Path.{refl}
use native.Mathlib.Omega.{arith}
use Rattle.role_record.specs.Record.{table_of}
use Rattle.sets.specs.LoopLaws.{store_next, table-unique}
use Rattle.role_record.proofs.clear.Goals as goal

pub loop-i-init : goal.loop-i-init
loop-i-init c = (search rules, search rules, below_none _)

pub loop-i-preserved : goal.loop-i-preserved
loop-i-preserved c =
    let turn = c.loop-i in
    (search rules, search rules, store_next turn.out turn.i 0 (λ j. 0) turn.invariant.2 refl (omega arith))

pub returns : goal.returns
unfolding table_of
returns c =
    let end = c.loop-i in
    table-unique (length c.args.out.now) end.out (λ i. 0) end.invariant.1 (λ j l. end.invariant.2 j (omega arith))
