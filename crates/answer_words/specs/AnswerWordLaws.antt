-- The words at each number, and the refusal that has it.
-- Assumes nothing.
use Rattle.std.specs.Prelude.{ℕ, zero, suc, ◌≤◌, ◌≡◌, refl, Option, Some, None}
use Prim.Native.String.{String}
use Rattle.std.proofs.Math.ListN.{get_or-eq_default, get_or-map}
use Rattle.std.proofs.Common.{sym, ap, ◌∙◌, arith}
use Rattle.files.specs.Answer.{Refusal, number_of, too_long, cut_off, unknown_command, out_of_place, beyond, wrong_kind, own_senior, small_scratch, short_output, rules_cut_off, rules_unknown, rules_order, rules_operand, no_such_rule, zero_seed, wrong_shape, wrong_table, wrong_level, wrong_window, ragged_log, bad_cuts}
use Rattle.files.specs.Calls.{Verdict, verdict_number, differ, stray_rule, stray_part, sound}
use Rattle.files.specs.Cause.{cause}
use Rattle.files.specs.declared.refusal.Refusal.{Refusal as CodeRefusal}
use Rattle.files.specs.declared.refusal.Refusal.TheVariants.{TooLong, CutOff, UnknownCommand, OutOfPlace, Beyond, WrongKind, OwnSenior, SmallScratch, ShortOutput, RulesCutOff, RulesUnknown, RulesOrder, RulesOperand, NoSuchRule, ZeroSeed, WrongShape, WrongTable, WrongLevel, WrongWindow, RaggedLog, BadCuts}
use Rattle.answer_words.specs.AnswerWords.{bytes_of, refusal_table, refusal_words, verdict_table, verdict_words, cause_words, finding_words, numbered, refusal_of}

-- one number less to come into question
pub above : {n : ℕ} (k : ℕ) → k ≤ n → (n ≡ k → ⊥) → suc k ≤ n
above k h e = omega arith

-- a number beyond a table has the words of none
pub past_refusals : (n : ℕ) → ((n ≡ 0 → ⊥) → 22 ≤ n) → bytes_of "no refusal has this number" ≡ refusal_words n
unfolding refusal_words refusal_table
past_refusals zero h = refl
past_refusals (suc n) h = rw (get_or-eq_default refusal_table "no refusal has this number" (h (λ e. omega arith))) refl

pub past_verdicts : (n : ℕ) → 4 ≤ n → bytes_of "no verdict has this number" ≡ verdict_words n
unfolding verdict_words verdict_table
past_verdicts n h = rw (get_or-eq_default verdict_table "no verdict has this number" h) refl

-- nor is there a refusal of such a number
pub past_numbered : (n : ℕ) → ((n ≡ 0 → ⊥) → 22 ≤ n) → refusal_of n ≡ None
unfolding refusal_of numbered
past_numbered zero h = refl
past_numbered (suc n) h = get_or-eq_default numbered None (h (λ e. omega arith))

-- these are the words of the cause that has the number
pub refusal-words : (e : Refusal) → refusal_words (number_of e) ≡ bytes_of (cause_words e)
unfolding refusal_words refusal_table
refusal-words too_long = refl
refusal-words cut_off = refl
refusal-words unknown_command = refl
refusal-words out_of_place = refl
refusal-words beyond = refl
refusal-words wrong_kind = refl
refusal-words own_senior = refl
refusal-words small_scratch = refl
refusal-words short_output = refl
refusal-words rules_cut_off = refl
refusal-words rules_unknown = refl
refusal-words rules_order = refl
refusal-words rules_operand = refl
refusal-words no_such_rule = refl
refusal-words zero_seed = refl
refusal-words wrong_shape = refl
refusal-words wrong_table = refl
refusal-words wrong_level = refl
refusal-words wrong_window = refl
refusal-words ragged_log = refl
refusal-words bad_cuts = refl

-- these are the words of the verdict that has the number
pub verdict-words : (v : Verdict) → verdict_words (verdict_number v) ≡ bytes_of (finding_words v)
unfolding verdict_words verdict_table finding_words
verdict-words sound = refl
verdict-words (differ u r o) = refl
verdict-words (stray_rule i) = refl
verdict-words (stray_part p) = refl

-- each of the code's refusals is the one that has its number
pub refusal-back : (r : CodeRefusal) → refusal_of (number_of (cause r)) ≡ Some r
unfolding refusal_of numbered
refusal-back TooLong = refl
refusal-back CutOff = refl
refusal-back UnknownCommand = refl
refusal-back OutOfPlace = refl
refusal-back Beyond = refl
refusal-back WrongKind = refl
refusal-back OwnSenior = refl
refusal-back SmallScratch = refl
refusal-back ShortOutput = refl
refusal-back RulesCutOff = refl
refusal-back RulesUnknown = refl
refusal-back RulesOrder = refl
refusal-back RulesOperand = refl
refusal-back NoSuchRule = refl
refusal-back ZeroSeed = refl
refusal-back WrongShape = refl
refusal-back WrongTable = refl
refusal-back WrongLevel = refl
refusal-back WrongWindow = refl
refusal-back RaggedLog = refl
refusal-back BadCuts = refl

-- a number has the words of the refusal that has it, or those of none
abbrev words_if : Option CodeRefusal → String
words_if None = "no refusal has this number"
words_if (Some r) = cause_words (cause r)

by_refusal : (n : ℕ) → refusal_words n ≡ bytes_of (words_if (refusal_of n))
unfolding refusal_words refusal_table refusal_of numbered
by_refusal n = ap bytes_of (get_or-map words_if numbered n None)

pub told_words : (n : ℕ) {r : CodeRefusal} → refusal_of n ≡ Some r → bytes_of (cause_words (cause r)) ≡ refusal_words n
told_words n e = ap (λ (o : Option CodeRefusal). bytes_of (words_if o)) (sym e) ∙ sym (by_refusal n)

pub untold_words : (n : ℕ) → refusal_of n ≡ None → bytes_of "no refusal has this number" ≡ refusal_words n
untold_words n e = ap (λ (o : Option CodeRefusal). bytes_of (words_if o)) (sym e) ∙ sym (by_refusal n)
