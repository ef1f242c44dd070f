-- Assumes nothing.
use native.Mathlib.Omega.{arith}
use Rattle.right_words.specs.RightLaws.{word_in, word_out}
use Rattle.right_words.proofs.word.Goals as goal

pub returns-then-operation-sizes : goal.returns-then-operation-sizes
returns-then-operation-sizes c =
    let a = c.args in
    word_in a.sizes a.held a.operation a.permissions.now c.permitted.result c.below.result c.meet.result c.requires.2.1 c.if-operation-sizes.true
    c.permitted.ensures c.below.ensures c.meet.ensures

pub returns : goal.returns
returns c =
    let a = c.args in
    word_out a.sizes a.held a.operation a.permissions.now (omega (arith, c.if-operation-sizes.false))
