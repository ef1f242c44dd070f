-- Each refusal's words are those of its cause. Assumes nothing.
use Rattle.std.proofs.Common.{sym, ap}
use Rattle.answer_words.specs.AnswerWords.{bytes_of, cause_words}
use Rattle.files.specs.Cause.{cause}
use Rattle.files.specs.declared.refusal.Refusal.{Refusal}
use Rattle.answer_words.proofs.words_of.Goals as goal

pub returns-in-TooLong : goal.returns-in-TooLong
unfolding cause_words
returns-in-TooLong c = ap (λ (r : Refusal). bytes_of (cause_words (cause r))) (sym c.in-TooLong.is)

pub returns-in-CutOff : goal.returns-in-CutOff
unfolding cause_words
returns-in-CutOff c = ap (λ (r : Refusal). bytes_of (cause_words (cause r))) (sym c.in-CutOff.is)

pub returns-in-UnknownCommand : goal.returns-in-UnknownCommand
unfolding cause_words
returns-in-UnknownCommand c = ap (λ (r : Refusal). bytes_of (cause_words (cause r))) (sym c.in-UnknownCommand.is)

pub returns-in-OutOfPlace : goal.returns-in-OutOfPlace
unfolding cause_words
returns-in-OutOfPlace c = ap (λ (r : Refusal). bytes_of (cause_words (cause r))) (sym c.in-OutOfPlace.is)

pub returns-in-Beyond : goal.returns-in-Beyond
unfolding cause_words
returns-in-Beyond c = ap (λ (r : Refusal). bytes_of (cause_words (cause r))) (sym c.in-Beyond.is)

pub returns-in-WrongKind : goal.returns-in-WrongKind
unfolding cause_words
returns-in-WrongKind c = ap (λ (r : Refusal). bytes_of (cause_words (cause r))) (sym c.in-WrongKind.is)

pub returns-in-OwnSenior : goal.returns-in-OwnSenior
unfolding cause_words
returns-in-OwnSenior c = ap (λ (r : Refusal). bytes_of (cause_words (cause r))) (sym c.in-OwnSenior.is)

pub returns-in-SmallScratch : goal.returns-in-SmallScratch
unfolding cause_words
returns-in-SmallScratch c = ap (λ (r : Refusal). bytes_of (cause_words (cause r))) (sym c.in-SmallScratch.is)

pub returns-in-ShortOutput : goal.returns-in-ShortOutput
unfolding cause_words
returns-in-ShortOutput c = ap (λ (r : Refusal). bytes_of (cause_words (cause r))) (sym c.in-ShortOutput.is)

pub returns-in-RulesCutOff : goal.returns-in-RulesCutOff
unfolding cause_words
returns-in-RulesCutOff c = ap (λ (r : Refusal). bytes_of (cause_words (cause r))) (sym c.in-RulesCutOff.is)

pub returns-in-RulesUnknown : goal.returns-in-RulesUnknown
unfolding cause_words
returns-in-RulesUnknown c = ap (λ (r : Refusal). bytes_of (cause_words (cause r))) (sym c.in-RulesUnknown.is)

pub returns-in-RulesOrder : goal.returns-in-RulesOrder
unfolding cause_words
returns-in-RulesOrder c = ap (λ (r : Refusal). bytes_of (cause_words (cause r))) (sym c.in-RulesOrder.is)

pub returns-in-RulesOperand : goal.returns-in-RulesOperand
unfolding cause_words
returns-in-RulesOperand c = ap (λ (r : Refusal). bytes_of (cause_words (cause r))) (sym c.in-RulesOperand.is)

pub returns-in-NoSuchRule : goal.returns-in-NoSuchRule
unfolding cause_words
returns-in-NoSuchRule c = ap (λ (r : Refusal). bytes_of (cause_words (cause r))) (sym c.in-NoSuchRule.is)

pub returns-in-ZeroSeed : goal.returns-in-ZeroSeed
unfolding cause_words
returns-in-ZeroSeed c = ap (λ (r : Refusal). bytes_of (cause_words (cause r))) (sym c.in-ZeroSeed.is)

pub returns-in-WrongShape : goal.returns-in-WrongShape
unfolding cause_words
returns-in-WrongShape c = ap (λ (r : Refusal). bytes_of (cause_words (cause r))) (sym c.in-WrongShape.is)

pub returns-in-WrongTable : goal.returns-in-WrongTable
unfolding cause_words
returns-in-WrongTable c = ap (λ (r : Refusal). bytes_of (cause_words (cause r))) (sym c.in-WrongTable.is)

pub returns-in-WrongLevel : goal.returns-in-WrongLevel
unfolding cause_words
returns-in-WrongLevel c = ap (λ (r : Refusal). bytes_of (cause_words (cause r))) (sym c.in-WrongLevel.is)

pub returns-in-WrongWindow : goal.returns-in-WrongWindow
unfolding cause_words
returns-in-WrongWindow c = ap (λ (r : Refusal). bytes_of (cause_words (cause r))) (sym c.in-WrongWindow.is)

pub returns-in-RaggedLog : goal.returns-in-RaggedLog
unfolding cause_words
returns-in-RaggedLog c = ap (λ (r : Refusal). bytes_of (cause_words (cause r))) (sym c.in-RaggedLog.is)

pub returns-in-BadCuts : goal.returns-in-BadCuts
unfolding cause_words
returns-in-BadCuts c = ap (λ (r : Refusal). bytes_of (cause_words (cause r))) (sym c.in-BadCuts.is)
