use Prim.Native.Nat.{ℕ, ◌≤◌}
use mathlib.Core.Bool.{Bool, cond}
use mathlib.Core.List.{List}
use mathlib.Core.Path.{ap, ◌∙◌}
use native.Mathlib.Omega.{arith}
use Rattle.write_measure.specs.MeasureLaws.{counted_none, counted-more, counted-end, rule-most, add_fits, flag-low}
use lib.ListN.{get_or}
use Rattle.mine_groups.specs.Scratch.{all_parts, Stands}
use Rattle.mine_parts.specs.Layout.{most_parts}
use Rattle.write_measure.proofs.measure.Goals as goal

-- there are no more parts than there may be
few : (scratch starts : List ℕ) → Stands scratch starts → all_parts starts ≤ most_parts
few scratch starts s = let r = s.room in omega (arith, r)

pub loop-i-init : goal.loop-i-init
loop-i-init c = let a = c.args in counted_none a.kept.now a.distinct.now a.having.now a.inside.now a.kinds.now a.permissions.now a.operations a.starts.now a.scratch.now c.no_sums-sums.result c.no_sums-sums.ensures

pub size_head-size-requires : goal.size_head-size-requires
size_head-size-requires c =
    let t = c.loop-i-test.true in
    (c.requires.0, c.requires.1, t, c.requires.2 c.loop-i.i t)

pub overflow_add-bytes : goal.overflow_add-bytes
overflow_add-bytes c =
    let l = c.loop-i in
    let a = c.args in
    let t = c.loop-i-test.true in
    let m = rule-most a.distinct.now a.having.now a.inside.now a.kinds.now a.permissions.now a.operations a.starts.now a.scratch.now l.i (get_or a.kept.now l.i 0) in
    let e = c.size_head-size.ensures.0 in
    let k = l.invariant.bytes_low in
    omega (arith, m, e, k, t, few c.args.scratch.now c.args.starts.now c.requires.1)

pub add-sums-requires : goal.add-sums-requires
add-sums-requires c =
    let l = c.loop-i in
    let a = c.args in
    add_fits a.kept.now a.distinct.now a.having.now a.inside.now a.kinds.now a.scratch.now l.i (omega (arith, c.loop-i-test.true, few c.args.scratch.now c.args.starts.now c.requires.1)) l.invariant.sums_so c.size_head-size.ensures.1

pub overflow_add-rules : goal.overflow_add-rules
overflow_add-rules c =
    let l = c.loop-i in
    let t = c.loop-i-test.true in
    let k = l.invariant.rules-low in
    let e = c.one_if-rules.ensures in
    let f = flag-low c.is_head.result in
    omega (arith, t, k, e, f, few c.args.scratch.now c.args.starts.now c.requires.1)

pub loop-i-preserved : goal.loop-i-preserved
loop-i-preserved c =
    let l = c.loop-i in
    let a = c.args in
    counted-more a.kept.now a.distinct.now a.having.now a.inside.now a.kinds.now a.permissions.now a.operations a.starts.now a.scratch.now l.bytes l.rules l.sums l.i _ _ _ _ l.invariant c.loop-i-test.true c.size_head-size.ensures.0 (c.one_if-rules.ensures ∙ ap (λ (x : Bool). cond x 1 0) c.is_head.ensures) c.size_head-size.ensures.1 c.add-sums.ensures

pub overflow_add-result : goal.overflow_add-result
overflow_add-result c =
    let k = c.loop-i.invariant.bytes_low in
    let i = c.loop-i.invariant.within in
    omega (arith, k, i, few c.args.scratch.now c.args.starts.now c.requires.1)

pub returns : goal.returns
returns c =
    let l = c.loop-i in
    let a = c.args in
    let w = l.invariant.within in
    let e = c.loop-i-test.false in
    counted-end a.kept.now a.distinct.now a.having.now a.inside.now a.kinds.now a.permissions.now a.operations a.starts.now a.scratch.now l.bytes l.rules l.sums l.i l.invariant (omega (arith, w, e))
