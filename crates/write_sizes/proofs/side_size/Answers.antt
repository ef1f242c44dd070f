use native.Mathlib.Omega.{arith}
use Rattle.write_theory.proofs.ListingLaws.{cost-most}
use Rattle.write_theory.specs.RuleLists.{side_place}
use Rattle.write_sizes.specs.ListSizeLaws.{conjuncts-none, conjuncts-more, conjuncts-end, long-most}
use Rattle.write_sizes.proofs.side_size.Goals as goal

pub loop-j-init : goal.loop-j-init
loop-j-init c =
    let a = c.args in
    conjuncts-none a.distinct.now a.having.now a.inside.now a.kinds.now a.scratch.now a.head a.kept a.side

pub overflow_add-bytes : goal.overflow_add-bytes
overflow_add-bytes c =
    let l = c.loop-j in
    let a = c.args in
    let n = l.invariant.bytes_low in
    let w = l.invariant.within in
    let e = c.place_size-size.ensures.0 in
    let m = long-most a.distinct.now a.having.now a.inside.now a.kinds.now a.scratch.now a.head a.kept (side_place a.side l.j) in
    omega (arith, n, w, e, m)

pub overflow_add-cost : goal.overflow_add-cost
overflow_add-cost c =
    let l = c.loop-j in
    let a = c.args in
    let n = l.invariant.cost-low in
    let w = l.invariant.within in
    let e = c.place_size-size.ensures.1 in
    let m = cost-most a.distinct.now a.having.now a.inside.now a.kinds.now a.scratch.now a.head a.kept (side_place a.side l.j) in
    omega (arith, n, w, e, m)

pub loop-j-preserved : goal.loop-j-preserved
loop-j-preserved c =
    let l = c.loop-j in
    let a = c.args in
    conjuncts-more a.distinct.now a.having.now a.inside.now a.kinds.now a.scratch.now a.head a.kept a.side l.bytes l.cost l.j _ _ l.invariant c.loop-j-test.true c.place_size-size.ensures

pub returns : goal.returns
returns c =
    let end = c.loop-j in
    let a = c.args in
    let w = end.invariant.within in
    let e = c.loop-j-test.false in
    conjuncts-end a.distinct.now a.having.now a.inside.now a.kinds.now a.scratch.now a.head a.kept a.side end.bytes end.cost end.j (omega (arith, w, e)) end.invariant
