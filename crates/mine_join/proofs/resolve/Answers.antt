use borrow.Author.Rules.{rules}
use native.Mathlib.Omega.{arith}
use Rattle.mine_join.specs.JoinedLaws.{resolve_none, resolve_turn, resolve_end}
use Rattle.mine_join.proofs.resolve.Goals as goal

pub loop-k-init : goal.loop-k-init
loop-k-init c = (search rules, search rules, resolve_none c.args.scratch.now)

pub take_head-requires : goal.take_head-requires
take_head-requires c =
    let l = c.loop-k.invariant.1 in
    let p = c.requires in
    (omega (arith, c.loop-k-test.true, l, p), omega (arith, c.lower-named.ensures, c.loop-k-test.true, l, p))

pub loop-k-preserved : goal.loop-k-preserved
loop-k-preserved c =
    let l = c.loop-k in
    let next = resolve_turn c.args.scratch.now (omega (arith, c.loop-k-test.true, c.requires)) l.invariant.2 c.head_at.ensures c.lower-named.ensures c.take_head.ensures in
    (search rules, next.long, next)

pub shape_of-scratch : goal.shape_of-scratch
shape_of-scratch c = c.loop-k.invariant.1

pub returns : goal.returns
returns c = resolve_end c.args.scratch.now c.loop-k.invariant.2 (omega arith)
