-- A number's words are those of the refusal that has it. Assumes nothing.
use Rattle.std.proofs.Common.{sym, ◌∙◌}
use Rattle.answer_words.specs.AnswerWordLaws.{told_words, untold_words}
use Rattle.answer_words.proofs.refusal_words.Goals as goal

pub returns-in-Some : goal.returns-in-Some
returns-in-Some c = c.words_of.ensures ∙ told_words c.args.n (sym c.refusal_of.ensures ∙ c.in-Some.is)

pub returns-in-None : goal.returns-in-None
returns-in-None c = untold_words c.args.n (sym c.refusal_of.ensures ∙ c.in-None.is)
