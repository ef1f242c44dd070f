-- Each answer's words are those of the definition. Assumes nothing.
use Rattle.std.proofs.Common.{Bool, sym, ap₂}
use Rattle.answer_words.specs.AnswerWords.{bytes_of, reply_text}
use Rattle.answer_words.proofs.reply_words.Goals as goal

pub returns-in-true-true : goal.returns-in-true-true
unfolding reply_text
returns-in-true-true c = ap₂ (λ (r g : Bool). bytes_of (reply_text r g)) (sym c.in-true-true.is-0) (sym c.in-true-true.is-1)

pub returns-in-true-false : goal.returns-in-true-false
unfolding reply_text
returns-in-true-false c = ap₂ (λ (r g : Bool). bytes_of (reply_text r g)) (sym c.in-true-false.is-0) (sym c.in-true-false.is-1)

pub returns-in-false-true : goal.returns-in-false-true
unfolding reply_text
returns-in-false-true c = ap₂ (λ (r g : Bool). bytes_of (reply_text r g)) (sym c.in-false-true.is-0) (sym c.in-false-true.is-1)

pub returns-in-false-false : goal.returns-in-false-false
unfolding reply_text
returns-in-false-false c = ap₂ (λ (r g : Bool). bytes_of (reply_text r g)) (sym c.in-false-false.is-0) (sym c.in-false-false.is-1)
