-- Assumes nothing.
use Rattle.right_answers.specs.CodeLaws.{fill_wrong, fill_right}
use Rattle.right_answers.proofs.may_fill.Goals as goal

pub returns-then-words-ne-WORDS : goal.returns-then-words-ne-WORDS
returns-then-words-ne-WORDS c = fill_wrong c.args.sizes c.args.words c.if-words-ne-WORDS.true

pub returns : goal.returns
returns c =
    let a = c.args in
    fill_right a.sizes a.words c.admit_sizes.result c.if-words-ne-WORDS.false c.admit_sizes.ensures
