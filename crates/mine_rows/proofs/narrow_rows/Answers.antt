use Prim.Native.Nat.{ℕ, ◌+◌, ◌*◌}
use borrow.Author.Count.{below_none}
use borrow.Author.Rules.{rules}
use lib.ListN.{get_or}
use mathlib.Core.Path.{refl, ap, ◌∙◌}
use native.Mathlib.Omega.{arith}
use Rattle.sets.specs.LoopLaws.{store_next, store_rest}
use Rattle.mine_rows.specs.RowLaws.{rows_unique}
use Rattle.mine_rows.specs.Rows.{shared, narrowed_rows}
use Rattle.mine_rows.proofs.narrow_rows.Invariants.{narrowed}
use Rattle.mine_rows.proofs.narrow_rows.Goals as goal

pub loop-u-init : goal.loop-u-init
loop-u-init c = (search rules, search rules, below_none _, (λ j l. refl))

pub loop-u-preserved : goal.loop-u-preserved
loop-u-preserved c =
    let a = c.args in
    let u = c.loop-u.u in (
      search rules,
      search rules,
      store_next c.loop-u.out u c.meet.result (narrowed a.links.now a.atom a.out.now) c.loop-u.invariant.2
          (c.meet.ensures ∙ ap (λ (x : ℕ). shared x (get_or a.links.now (64 * a.atom + u) 0)) (c.loop-u.invariant.3 u (omega arith))) (omega arith),
      store_rest c.loop-u.out a.out.now u c.meet.result c.loop-u.invariant.3,
    )

pub returns : goal.returns
unfolding narrowed_rows
returns c =
    let end = c.loop-u in
    let a = c.args in
    rows_unique (narrowed a.links.now a.atom a.out.now) end.out end.invariant.1 (λ j l. end.invariant.2 j (omega arith))
