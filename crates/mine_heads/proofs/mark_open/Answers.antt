use borrow.Author.Rules.{rules}
use lib.ListN.{length-set}
use mathlib.Core.Path.{sym, ap, ◌∙◌}
use native.Mathlib.Omega.{arith}
use Rattle.mine_heads.specs.HeadLaws.{word_below, marked-below, open_made}
use Rattle.mine_corners.specs.Pairing.{words_in}
use Rattle.sets.specs.LoopLaws.{store_next}
use Rattle.mine_theory.specs.Words.Words.{Words}
use Rattle.mine_heads.proofs.mark_open.Invariants.{reaching_of}
use Rattle.mine_heads.proofs.mark_open.Goals as goal

pub loop-word-init : goal.loop-word-init
loop-word-init c = (search rules, search rules, λ w l. absurd (omega arith))

pub loop-word-preserved : goal.loop-word-preserved
loop-word-preserved c =
    let turn = c.loop-word in
    let a = c.args in
    let word = c.reaching.result in (
      search rules,
      length-set turn.ready turn.word word ∙ turn.invariant.1,
      store_next turn.ready turn.word word (reaching_of a.scratch.now a.heads.now (words_in c.group_at-g.result)) turn.invariant.2 c.reaching.ensures (omega (arith, turn.invariant.1, c.loop-word-test.true)),
    )

pub returns : goal.returns
returns c =
    let l = c.loop-word in
    let a = c.args in
    open_made a.heads.now l.ready a.scratch.now a.c (omega (arith, c.requires.1)) c.requires.2 l.invariant.1
    (λ w b. l.invariant.2 w (omega (arith, c.loop-word-test.false)) ∙ ap (λ (W : Words). reaching_of a.scratch.now a.heads.now W w) c.group_at-g.ensures)

pub reaching-requires : goal.reaching-requires
reaching-requires c =
    (search rules, λ k l b. word_below c.args.heads.now (marked-below c.requires.2) c.loop-word.word k _ c.requires.1 l b)
