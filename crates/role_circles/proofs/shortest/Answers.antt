use Prim.Native.Nat.{ℕ, ◌+◌}
use borrow.Author.Rules.{rules}
use mathlib.Core.List.{List}
use mathlib.Core.Path.{◌≡◌, sym, subst}
use native.Mathlib.Omega.{arith}
use Rattle.role_circles.specs.BackLaws.{Sofar, sofar_none, sofar_better, sofar_same, sofar_end}
use Rattle.sets.specs.LoopLaws.{turn-within}
use Rattle.role_circles.proofs.shortest.Goals as goal
use Rattle.role_circles.proofs.shortest.Goals.{else-m-more, then-m-more}

-- the best by its names after the test
so : (lines : List ℕ) (k a low more b m : ℕ) → low ≡ b → more ≡ m → Sofar lines k (a + 1) b m → Sofar lines k (a + 1) low more
so lines k a low more b m p q t = subst (λ (x : ℕ). Sofar lines k (a + 1) x more) (sym p) (subst (λ (x : ℕ). Sofar lines k (a + 1) b x) (sym q) t)

pub loop-a-init : goal.loop-a-init
loop-a-init c = (search rules, sofar_none c.args.lines.now c.args.roles)

pub fewest-m-requires : goal.fewest-m-requires
fewest-m-requires c =
    let w = c.loop-a.invariant.1.within in
    let p = c.requires in
    omega arith

pub loop-a-preserved : goal.loop-a-preserved
loop-a-preserved c =
    let lines = c.args.lines.now in
    let k = c.args.roles in
    let words = c.back_words.ensures in
    let few = c.requires in
    let below = turn-within c.loop-a.a k c.loop-a-test.true in (
      below,
      elim c.if-m-more.branch [ then-m-more w ↦ so lines k c.loop-a.a _ _ _ _ w.low-is w.more-is (sofar_better lines k c.loop-a.a c.loop-a.low c.loop-a.more few (omega arith) c.loop-a.invariant.1 _ words _ c.fewest-m.ensures w.if-m-more.true) | else-m-more w ↦ so lines k c.loop-a.a _ _ _ _ w.low-is w.more-is (sofar_same lines k c.loop-a.a c.loop-a.low c.loop-a.more few (omega arith) c.loop-a.invariant.1 _ words _ c.fewest-m.ensures w.if-m-more.false) ],
    )

pub returns : goal.returns
returns c =
    let a = c.args in
    let turn = c.loop-a in
    sofar_end a.lines.now a.roles turn.a turn.low turn.more (omega arith) turn.invariant.1
