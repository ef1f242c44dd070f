-- A verdict's words are those of its number. Assumes nothing.
use Rattle.std.proofs.Common.{ap, ◌∙◌}
use Rattle.answer_words.specs.AnswerWords.{verdict_words}
use Rattle.answer_words.specs.AnswerWordLaws.{verdict-words}
use Rattle.judge.proofs.verdict_words.Goals as goal

pub returns : goal.returns
returns c v e = c.verdict_words.ensures ∙ ap verdict_words (c.verdict_number.ensures v e) ∙ verdict-words v
