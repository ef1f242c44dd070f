use mathlib.Core.Path.{sym, ◌∙◌}
use native.Mathlib.Omega.{arith}
use Prim.Native.Nat.{◌+◌, ◌*◌}
use Rattle.sets.specs.LoopLaws.{turn-within, narrow-none, narrow_in, narrow-out, narrow-end}
use Rattle.sets.specs.Sets.{bit, mask_of}
use Rattle.sets.specs.MaskLaws.{mask_lt}
use lib.Dec.{ltb}
use Rattle.rule_conjuncts.specs.Summary.{met_by_all}
use lib.ListN.{get_or}
use borrow.Author.Rules.{rules}
use Rattle.rule_conjuncts.proofs.met_by_all.Goals as goal
use Rattle.rule_conjuncts.proofs.met_by_all.Goals.{else-has, then-has}

pub loop-i-init : goal.loop-i-init
loop-i-init c =
    let a = c.args in
    (search rules, c.below-m.ensures ∙ narrow-none (mask_of 64 (λ x. ltb x a.count)) (λ j. bit a.asked (7 * a.side + j)) (λ j. get_or a.met.now (7 * a.side + j) 0) (mask_lt 64 (λ x. ltb x a.count)))

pub loop-i-preserved : goal.loop-i-preserved
loop-i-preserved c =
    let a = c.args in
    let turn = c.loop-i in (
      turn-within turn.i 7 c.loop-i-test.true,
      elim c.if-has.branch [ then-has w ↦ narrow_in (mask_of 64 (λ x. ltb x a.count)) (λ j. bit a.asked (7 * a.side + j)) (λ j. get_or a.met.now (7 * a.side + j) 0) turn.i turn.m _ turn.invariant.1 (sym c.has.ensures ∙ w.if-has.true) (w.m-is ∙ w.meet-m.ensures) | else-has w ↦ narrow-out (mask_of 64 (λ x. ltb x a.count)) (λ j. bit a.asked (7 * a.side + j)) (λ j. get_or a.met.now (7 * a.side + j) 0) turn.i turn.m _ turn.invariant.1 (sym c.has.ensures ∙ w.if-has.false) w.m-is ],
    )

pub returns : goal.returns
unfolding met_by_all
returns c =
    let a = c.args in
    narrow-end (mask_of 64 (λ x. ltb x a.count)) (λ j. bit a.asked (7 * a.side + j)) (λ j. get_or a.met.now (7 * a.side + j) 0) c.loop-i.i 7 c.loop-i.m c.loop-i.invariant.1 (omega arith)
