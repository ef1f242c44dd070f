use Prim.Native.Nat.{◌+◌, ◌*◌}
use lib.ListN.{get_or}
use mathlib.Core.Path.{sym, ap, ◌∙◌}
use native.Mathlib.Omega.{arith}
use Rattle.sets.specs.LoopLaws.{turn-within}
use Rattle.sets.specs.MaskLaws.{size-most}
use borrow.Author.Rules.{rules}
use Rattle.write_sizes.specs.ListSizeLaws.{passed_none, passed_in, passed-out, listed-sets, listed_singles}
use Rattle.write_sizes.proofs.listed_size.Goals as goal
use Rattle.write_sizes.proofs.listed_size.Goals.{else-is_listed, then-is_listed}

pub loop-k-init : goal.loop-k-init
loop-k-init c = (search rules, passed_none _ _)

pub overflow_add-n : goal.overflow_add-n
overflow_add-n c =
    let turn = c.loop-k in
    let m = turn.invariant.1.many-low in
    let w = turn.invariant.0 in
    omega (arith, m, w)

pub overflow_add-elements : goal.overflow_add-elements
overflow_add-elements c =
    let l = c.loop-k in
    let a = c.args in
    let m = l.invariant.1.sizes-low in
    let w = l.invariant.0 in
    let s = c.count-elements.ensures in
    let k = size-most (get_or a.distinct.now (64 * a.place + l.k) 0) in
    omega (arith, m, w, s, k)

pub loop-k-preserved : goal.loop-k-preserved
loop-k-preserved c =
    let turn = c.loop-k in (
      turn-within turn.k 64 c.loop-k-test.true,
      elim c.if-is_listed.branch [ then-is_listed w ↦ passed_in _ _ turn.n turn.elements turn.k _ _ turn.invariant.1 (sym c.is_listed.ensures ∙ w.if-is_listed.true) w.n-is (w.elements-is ∙ ap (λ x. turn.elements + x) w.count-elements.ensures) | else-is_listed w ↦ passed-out _ _ turn.n turn.elements turn.k _ _ turn.invariant.1 (sym c.is_listed.ensures ∙ w.if-is_listed.false) w.n-is w.elements-is ],
    )

pub returns-then-set : goal.returns-then-set
returns-then-set c =
    let end = c.loop-k in
    let a = c.args in
    listed-sets a.distinct.now a.having.now a.inside.now a.place a.members end.n end.elements end.k a.set c.if-set.true (omega arith) end.invariant.1

pub returns : goal.returns
returns c =
    let end = c.loop-k in
    let a = c.args in
    listed_singles a.distinct.now a.having.now a.inside.now a.place a.members end.n end.elements end.k a.set c.if-set.false (omega arith) end.invariant.1

pub overflow_mul-result : goal.overflow_mul-result
overflow_mul-result c =
    let end = c.loop-k in
    let m = end.invariant.1.many-low in
    let w = end.invariant.0 in
    omega (arith, m, w)

pub overflow_mul-result-2 : goal.overflow_mul-result-2
overflow_mul-result-2 c =
    let end = c.loop-k in
    let m = end.invariant.1.many-low in
    let w = end.invariant.0 in
    omega (arith, m, w)
