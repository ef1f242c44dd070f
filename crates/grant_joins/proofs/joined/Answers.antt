use Prim.Native.Nat.{ℕ}
use borrow.Author.Rules.{rules}
use mathlib.Core.Bool.{◌||◌}
use mathlib.Core.Path.{sym, ap, ◌∙◌}
use native.Mathlib.Omega.{arith}
use Rattle.sets.specs.LoopLaws.{turn-within, join-none, join_in, join-end}
use Rattle.sets.specs.Sets.{bit, mask_of}
use Rattle.grant_joins.specs.Tables.{joins, union_of}
use Rattle.grant_joins.specs.LinkTurnLaws.{join-nobody}
use Rattle.grant_joins.proofs.joined.Invariants.{passes, who}
use Rattle.grant_joins.proofs.joined.Goals as goal
use Rattle.grant_joins.proofs.joined.Goals.{else-joins, then-joins}

pub loop-l-init : goal.loop-l-init
loop-l-init c =
    let a = c.args in
    (search rules, join-none 0 (passes a.distinct.now a.place a.left a.right a.turned a.v) (who a.having.now a.place) (omega arith))

pub loop-l-preserved : goal.loop-l-preserved
loop-l-preserved c =
    let turn = c.loop-l in
    let a = c.args in (
      turn-within turn.l a.count c.loop-l-test.true,
      elim c.if-joins.branch [
        | then-joins w ↦ join_in 0 (passes a.distinct.now a.place a.left a.right a.turned a.v) (who a.having.now a.place) turn.l turn.m _ turn.invariant.1 (sym c.joins.ensures ∙ w.if-joins.true)
            (c.union-m.ensures ∙ ap (λ (x : ℕ). mask_of 64 (λ k. bit turn.m k || bit x k)) w.found-is)
        | else-joins w ↦ join-nobody 0 (passes a.distinct.now a.place a.left a.right a.turned a.v) (who a.having.now a.place) turn.l turn.m _ _ turn.invariant.1 (sym c.joins.ensures ∙ w.if-joins.false) w.found-is c.union-m.ensures
      ],
    )

pub returns : goal.returns
unfolding union_of
returns c =
    let a = c.args in
    let end = c.loop-l in
    join-end 0 (passes a.distinct.now a.place a.left a.right a.turned a.v) (who a.having.now a.place) end.l a.count end.m end.invariant.1 (omega arith)
