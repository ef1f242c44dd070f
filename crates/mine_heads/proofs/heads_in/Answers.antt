use Prim.Native.Nat.{◌+◌, ◌*◌}
use borrow.Author.Rules.{rules}
use mathlib.Core.Path.{sym, ◌∙◌}
use native.Mathlib.Omega.{arith}
use Rattle.sets.specs.MaskLaws.{fill_none, fill_with, fill_out, fill_end}
use Rattle.mine_heads.specs.HeadLaws.{word_made}
use Rattle.mine_parts.specs.Layout.{is_head_at}
use Rattle.mine_heads.proofs.heads_in.Goals as goal
use Rattle.mine_heads.proofs.heads_in.Goals.{else-is_head, then-is_head}

pub loop-k-init : goal.loop-k-init
loop-k-init c = (search rules, sym (fill_none _))

pub loop-k-preserved : goal.loop-k-preserved
loop-k-preserved c =
    let turn = c.loop-k in
    let a = c.args in (
      search rules,
      elim c.if-is_head.branch [ then-is_head w ↦ fill_with turn.k turn.m _ (λ x. is_head_at a.scratch.now (64 * a.word + x)) (omega arith) turn.invariant.1 (sym c.is_head.ensures ∙ w.if-is_head.true) (w.m-is ∙ w.with-m.ensures) | else-is_head w ↦ fill_out turn.k turn.m _ (λ x. is_head_at a.scratch.now (64 * a.word + x)) turn.invariant.1 (sym c.is_head.ensures ∙ w.if-is_head.false) w.m-is ],
    )

pub returns : goal.returns
returns c =
    let a = c.args in
    let l = c.loop-k in
    word_made a.scratch.now a.word a.before c.marks_in-end.ensures
    (fill_end l.k c.marks_in-end.result l.m (λ x. is_head_at a.scratch.now (64 * a.word + x)) l.invariant.1 (omega arith))
