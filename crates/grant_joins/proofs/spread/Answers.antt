use Prim.Native.Nat.{ℕ, ◌+◌, ◌*◌}
use borrow.Author.Rules.{rules}
use lib.ListN.{length, set}
use mathlib.Core.Path.{sym, ap, ◌∙◌}
use native.Mathlib.Omega.{arith}
use Rattle.sets.specs.declared.Ascending.{Ascending}
use Rattle.grant_joins.specs.Tables.{spread_of}
use Rattle.grant_joins.specs.LinkTurnLaws.{spread-turn, spread-done}
use Rattle.grant_joins.proofs.spread.Goals as goal

pub loop-y-init : goal.loop-y-init
loop-y-init c =
    let a = c.args in
    let r = ap (λ (s : Ascending). s.rest) c.into_iter-y-iterator.ensures.into_iter_gives ∙ c.members-y-items.ensures in
    (search rules, search rules, ap (λ (m : ℕ). spread_of (length a.out.now) a.block m a.word a.out.now) r)

pub loop-y-preserved : goal.loop-y-preserved
loop-y-preserved c =
    let turn = c.loop-y in
    let a = c.args in
    let t = c.in-Some.ensures.steps in (
      search rules,
      search rules,
      ap (λ (m : ℕ). spread_of (length a.out.now) a.block m a.word (set turn.out (64 * a.block + c.in-Some.y) c.union.result)) t.others
          ∙ spread-turn (length a.out.now) a.block a.word turn.y-iterator.rest c.in-Some.y turn.out c.union.result turn.invariant.0 t.below t.member (omega arith) c.union.ensures
          ∙ turn.invariant.2,
    )

pub returns : goal.returns
returns c =
    let end = c.loop-y in
    let a = c.args in
    sym (spread-done (length a.out.now) a.block a.word end.y-iterator.rest end.out end.invariant.1 c.in-None.ensures.steps.0) ∙ end.invariant.2
