-- The code's refusals and results, as the definitions have them.
-- Assumes nothing.
use Rattle.std.specs.Prelude.{Result, Ok, Err}
use Rattle.files.specs.Answer.{Refusal as Cause, Answer, refused, accepted, too_long, cut_off, unknown_command, out_of_place, beyond, wrong_kind, own_senior, small_scratch, short_output, rules_cut_off, rules_unknown, rules_order, rules_operand, no_such_rule, zero_seed, wrong_shape, wrong_table, wrong_level, wrong_window, ragged_log, bad_cuts}
use Rattle.files.specs.declared.refusal.Refusal.{Refusal}
use Rattle.files.specs.declared.refusal.Refusal.TheVariants.{TooLong, CutOff, UnknownCommand, OutOfPlace, Beyond, WrongKind, OwnSenior, SmallScratch, ShortOutput, RulesCutOff, RulesUnknown, RulesOrder, RulesOperand, NoSuchRule, ZeroSeed, WrongShape, WrongTable, WrongLevel, WrongWindow, RaggedLog, BadCuts}

-- which of the causes the code's refusal is
abbrev pub cause : Refusal → Cause
cause TooLong = too_long
cause CutOff = cut_off
cause UnknownCommand = unknown_command
cause OutOfPlace = out_of_place
cause Beyond = beyond
cause WrongKind = wrong_kind
cause OwnSenior = own_senior
cause SmallScratch = small_scratch
cause ShortOutput = short_output
cause RulesCutOff = rules_cut_off
cause RulesUnknown = rules_unknown
cause RulesOrder = rules_order
cause RulesOperand = rules_operand
cause NoSuchRule = no_such_rule
cause ZeroSeed = zero_seed
cause WrongShape = wrong_shape
cause WrongTable = wrong_table
cause WrongLevel = wrong_level
cause WrongWindow = wrong_window
cause RaggedLog = ragged_log
cause BadCuts = bad_cuts

-- the answer that a result stands for
abbrev pub answer_of : {A : Type 0} → Result A Refusal → Answer A
answer_of (Ok a) = accepted a
answer_of (Err e) = refused (cause e)
