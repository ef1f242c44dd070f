use borrow.Author.Rules.{rules}
use lib.ListN.{length-set}
use mathlib.Core.Path.{sym, ◌∙◌}
use native.Mathlib.Omega.{arith}
use Rattle.mine_heads.specs.HeadLaws.{marks-made, word-within}
use Rattle.sets.specs.LoopLaws.{store_next}
use Rattle.mine_heads.proofs.mark.Invariants.{heads_of}
use Rattle.mine_heads.proofs.mark.Goals as goal

pub loop-word-init : goal.loop-word-init
loop-word-init c = (search rules, search rules, λ w l. absurd (omega arith))

pub loop-word-preserved : goal.loop-word-preserved
loop-word-preserved c =
    let turn = c.loop-word in
    let a = c.args in
    let word = c.without.result in (
      search rules,
      length-set turn.heads turn.word word ∙ turn.invariant.1,
      store_next turn.heads turn.word word (heads_of a.window.first a.window.end a.scratch.now) turn.invariant.2
          (word-within a.scratch.now turn.word a.window.first a.window.end c.marks_in.ensures c.below-passed.ensures c.heads_in.ensures c.without.ensures)
          (omega (arith, turn.invariant.1, c.loop-word-test.true)),
    )

pub returns : goal.returns
returns c =
    let l = c.loop-word in
    marks-made c.args.window.first c.args.window.end (omega (arith, c.requires)) c.args.scratch.now l.heads l.invariant.1 (λ w b. l.invariant.2 w (omega (arith, c.loop-word-test.false)))
