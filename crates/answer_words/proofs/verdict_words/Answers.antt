-- Each number's words are those of the table. Assumes nothing.
use Rattle.std.proofs.Common.{sym, ap, arith}
use Rattle.answer_words.specs.AnswerWords.{verdict_table, verdict_words, finding_words}
use Rattle.answer_words.specs.AnswerWordLaws.{above, past_verdicts}
use Rattle.answer_words.proofs.verdict_words.Goals as goal

pub returns-in-0 : goal.returns-in-0
unfolding verdict_words verdict_table finding_words
returns-in-0 c = ap verdict_words (sym c.in-0.is)

pub returns-in-1 : goal.returns-in-1
unfolding verdict_words verdict_table finding_words
returns-in-1 c = ap verdict_words (sym c.in-1.is)

pub returns-in-2 : goal.returns-in-2
unfolding verdict_words verdict_table finding_words
returns-in-2 c = ap verdict_words (sym c.in-2.is)

pub returns-in-3 : goal.returns-in-3
unfolding verdict_words verdict_table finding_words
returns-in-3 c = ap verdict_words (sym c.in-3.is)

pub returns-in_default : goal.returns-in_default
returns-in_default c =
    let n = c.args.n in
    let other = c.in_default.in_default-own.rest in
    past_verdicts n (above 3 (above 2 (above 1 (above 0 (omega arith) other.0.0.0.1) other.0.0.1) other.0.1) other.1)
