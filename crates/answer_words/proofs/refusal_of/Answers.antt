-- Each number's refusal is that of the table. Assumes nothing.
use Rattle.std.proofs.Common.{refl, arith, sym}
use Rattle.answer_words.specs.AnswerWords.{numbered, refusal_of}
use Rattle.answer_words.specs.AnswerWordLaws.{above, past_numbered}
use Rattle.answer_words.proofs.refusal_of.Goals as goal

pub returns-in-1 : goal.returns-in-1
unfolding refusal_of numbered
returns-in-1 c = rw c.in-1.is refl

pub returns-in-2 : goal.returns-in-2
unfolding refusal_of numbered
returns-in-2 c = rw c.in-2.is refl

pub returns-in-3 : goal.returns-in-3
unfolding refusal_of numbered
returns-in-3 c = rw c.in-3.is refl

pub returns-in-4 : goal.returns-in-4
unfolding refusal_of numbered
returns-in-4 c = rw c.in-4.is refl

pub returns-in-5 : goal.returns-in-5
unfolding refusal_of numbered
returns-in-5 c = rw c.in-5.is refl

pub returns-in-6 : goal.returns-in-6
unfolding refusal_of numbered
returns-in-6 c = rw c.in-6.is refl

pub returns-in-7 : goal.returns-in-7
unfolding refusal_of numbered
returns-in-7 c = rw c.in-7.is refl

pub returns-in-8 : goal.returns-in-8
unfolding refusal_of numbered
returns-in-8 c = rw c.in-8.is refl

pub returns-in-9 : goal.returns-in-9
unfolding refusal_of numbered
returns-in-9 c = rw c.in-9.is refl

pub returns-in-10 : goal.returns-in-10
unfolding refusal_of numbered
returns-in-10 c = rw c.in-10.is refl

pub returns-in-11 : goal.returns-in-11
unfolding refusal_of numbered
returns-in-11 c = rw c.in-11.is refl

pub returns-in-12 : goal.returns-in-12
unfolding refusal_of numbered
returns-in-12 c = rw c.in-12.is refl

pub returns-in-13 : goal.returns-in-13
unfolding refusal_of numbered
returns-in-13 c = rw c.in-13.is refl

pub returns-in-14 : goal.returns-in-14
unfolding refusal_of numbered
returns-in-14 c = rw c.in-14.is refl

pub returns-in-15 : goal.returns-in-15
unfolding refusal_of numbered
returns-in-15 c = rw c.in-15.is refl

pub returns-in-16 : goal.returns-in-16
unfolding refusal_of numbered
returns-in-16 c = rw c.in-16.is refl

pub returns-in-17 : goal.returns-in-17
unfolding refusal_of numbered
returns-in-17 c = rw c.in-17.is refl

pub returns-in-18 : goal.returns-in-18
unfolding refusal_of numbered
returns-in-18 c = rw c.in-18.is refl

pub returns-in-19 : goal.returns-in-19
unfolding refusal_of numbered
returns-in-19 c = rw c.in-19.is refl

pub returns-in-20 : goal.returns-in-20
unfolding refusal_of numbered
returns-in-20 c = rw c.in-20.is refl

pub returns-in-21 : goal.returns-in-21
unfolding refusal_of numbered
returns-in-21 c = rw c.in-21.is refl

pub returns-in_default : goal.returns-in_default
returns-in_default c =
    let n = c.args.n in
    let other = c.in_default.in_default-own.rest in
    sym (past_numbered n (λ z. above 21 (above 20 (above 19 (above 18 (above 17 (above 16 (above 15 (above 14 (above 13 (above 12 (above 11 (above 10 (above 9 (above 8 (above 7 (above 6 (above 5 (above 4 (above 3 (above 2 (above 1 (omega arith) other.0.0.0.0.0.0.0.0.0.0.0.0.0.0.0.0.0.0.0.0.1) other.0.0.0.0.0.0.0.0.0.0.0.0.0.0.0.0.0.0.0.1) other.0.0.0.0.0.0.0.0.0.0.0.0.0.0.0.0.0.0.1) other.0.0.0.0.0.0.0.0.0.0.0.0.0.0.0.0.0.1) other.0.0.0.0.0.0.0.0.0.0.0.0.0.0.0.0.1) other.0.0.0.0.0.0.0.0.0.0.0.0.0.0.0.1) other.0.0.0.0.0.0.0.0.0.0.0.0.0.0.1) other.0.0.0.0.0.0.0.0.0.0.0.0.0.1) other.0.0.0.0.0.0.0.0.0.0.0.0.1) other.0.0.0.0.0.0.0.0.0.0.0.1) other.0.0.0.0.0.0.0.0.0.0.1) other.0.0.0.0.0.0.0.0.0.1) other.0.0.0.0.0.0.0.0.1) other.0.0.0.0.0.0.0.1) other.0.0.0.0.0.0.1) other.0.0.0.0.0.1) other.0.0.0.0.1) other.0.0.0.1) other.0.0.1) other.0.1) other.1))
