use native.Mathlib.Omega.{arith}
use Rattle.mine_cuts.specs.LegalLaws.{cuts_begin, cuts_end, cuts_low, cuts_high, cuts_turn}
use Rattle.mine_cuts.proofs.legal.Goals as goal

pub loop-i-init : goal.loop-i-init
loop-i-init c = (omega arith, cuts_begin _ _)

pub returns-then-c-low : goal.returns-then-c-low
returns-then-c-low c =
    let a = c.args in
    cuts_low a.cuts.now a.roles c.loop-i.low c.loop-i.i c.loop-i.invariant.1 (omega (arith, c.loop-i-test.true)) _ c.number-c.ensures c.if-c-low.true

pub returns-then-roles-c : goal.returns-then-roles-c
returns-then-roles-c c =
    let a = c.args in
    cuts_high a.cuts.now a.roles c.loop-i.low c.loop-i.i c.loop-i.invariant.1 (omega (arith, c.loop-i-test.true)) _ c.number-c.ensures (omega (arith, c.if-c-low.false)) c.if-roles-c.true

pub loop-i-preserved : goal.loop-i-preserved
loop-i-preserved c =
    let a = c.args in
    let l = c.loop-i-test.true in
    (omega (arith, l), cuts_turn a.cuts.now a.roles c.loop-i.low c.loop-i.i c.loop-i.invariant.1 (omega (arith, l)) _ c.number-c.ensures (omega (arith, c.if-c-low.false)) (omega (arith, c.if-roles-c.false)))

pub returns : goal.returns
returns c =
    let a = c.args in
    cuts_end a.cuts.now a.roles c.loop-i.low c.loop-i.i c.loop-i.invariant.1 (omega (arith, c.loop-i-test.false))
