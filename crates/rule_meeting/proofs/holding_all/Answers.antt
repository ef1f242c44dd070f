use mathlib.Core.Path.{sym, ◌∙◌}
use native.Mathlib.Omega.{arith}
use Rattle.rule_meeting.specs.MeetingLaws.{holds-narrowed}
use Rattle.sets.specs.LoopLaws.{turn-within, narrow-none, narrow_in, narrow-out, narrow-end}
use Rattle.sets.specs.Sets.{bit, mask_of}
use Rattle.sets.specs.MaskLaws.{mask_lt}
use lib.Dec.{ltb}
use lib.ListN.{get_or}
use borrow.Author.Rules.{rules}
use Rattle.rule_meeting.proofs.holding_all.Goals as goal
use Rattle.rule_meeting.proofs.holding_all.Goals.{else-has, then-has}

pub loop-k-init : goal.loop-k-init
loop-k-init c =
    let a = c.args in
    (search rules, c.below-m.ensures ∙ narrow-none (mask_of 64 (λ x. ltb x a.users)) (bit a.v) (λ j. get_or a.holders.now j 0) (mask_lt 64 (λ x. ltb x a.users)))

pub loop-k-preserved : goal.loop-k-preserved
loop-k-preserved c =
    let a = c.args in
    let turn = c.loop-k in (
      turn-within turn.k a.roles c.loop-k-test.true,
      elim c.if-has.branch [ then-has w ↦ narrow_in (mask_of 64 (λ x. ltb x a.users)) (bit a.v) (λ j. get_or a.holders.now j 0) turn.k turn.m _ turn.invariant.1 (sym c.has.ensures ∙ w.if-has.true) (w.m-is ∙ w.meet-m.ensures) | else-has w ↦ narrow-out (mask_of 64 (λ x. ltb x a.users)) (bit a.v) (λ j. get_or a.holders.now j 0) turn.k turn.m _ turn.invariant.1 (sym c.has.ensures ∙ w.if-has.false) w.m-is ],
    )

pub returns : goal.returns
returns c =
    let a = c.args in
    narrow-end (mask_of 64 (λ x. ltb x a.users)) (bit a.v) (λ j. get_or a.holders.now j 0) c.loop-k.k a.roles c.loop-k.m c.loop-k.invariant.1 (omega arith)
    ∙ holds-narrowed a.users a.holders.now a.v a.roles c.requires.0
