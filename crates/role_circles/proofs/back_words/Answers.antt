use borrow.Author.Rules.{rules}
use native.Mathlib.Omega.{arith}
use Rattle.role_circles.specs.BackLaws.{back_on, back-unique}
use Rattle.role_circles.specs.BackWords.{back_word}
use Rattle.sets.specs.LoopLaws.{store_next}
use Rattle.role_circles.proofs.back_words.Goals as goal

pub loop-m-preserved : goal.loop-m-preserved
loop-m-preserved c =
    let a = c.args in
    let turn = c.loop-m in (
      search rules,
      search rules,
      back_on a.lines.now a.roles a.low turn.m turn.word _ c.requires.0 turn.invariant.2 c.lead_by_one_more-word.ensures,
      store_next turn.out turn.m turn.word (back_word a.lines.now a.roles a.low) turn.invariant.3 turn.invariant.2 (omega arith),
    )

pub returns : goal.returns
returns c =
    let a = c.args in
    let turn = c.loop-m in
    back-unique a.lines.now a.roles a.low 32 turn.m turn.out turn.invariant.1 (omega arith) turn.invariant.3
