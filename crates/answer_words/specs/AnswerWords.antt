-- The meaning of each number in words.
-- Assumes nothing.
use Prim.Native.Char.{code}
use Rattle.std.specs.Prelude.{ℕ, get_or, Bool, true, false, List, [], ◌∷◌, Option, Some, None}
use Prim.Native.String.{String, [] as empty, ◌∷◌ as ◌before◌}
use Rattle.files.specs.Answer.{Refusal, too_long, cut_off, unknown_command, out_of_place, beyond, wrong_kind, own_senior, small_scratch, short_output, rules_cut_off, rules_unknown, rules_order, rules_operand, no_such_rule, zero_seed, wrong_shape, wrong_table, wrong_level, wrong_window, ragged_log, bad_cuts}
use Rattle.files.specs.Calls.{Verdict, differ, stray_rule, stray_part, sound}
use Rattle.files.specs.declared.refusal.Refusal.{Refusal as CodeRefusal}
use Rattle.files.specs.declared.refusal.Refusal.TheVariants.{TooLong, CutOff, UnknownCommand, OutOfPlace, Beyond, WrongKind, OwnSenior, SmallScratch, ShortOutput, RulesCutOff, RulesUnknown, RulesOrder, RulesOperand, NoSuchRule, ZeroSeed, WrongShape, WrongTable, WrongLevel, WrongWindow, RaggedLog, BadCuts}

-- a text as bytes
abbrev pub bytes_of : String → List ℕ
bytes_of empty = []
bytes_of (c before s) = code c ∷ bytes_of s

-- 01's words for each cause of a refusal
unfoldable pub cause_words : Refusal → String
cause_words too_long = "the role file is too long, above 65,535 bytes"
cause_words cut_off = "the role file ends inside operands or before 0F"
cause_words unknown_command = "the role file has an unknown command"
cause_words out_of_place = "the role file has a byte after its end or a command out of place"
cause_words beyond = "an operand of the role file, or a number handed in, is beyond its limit or declared size, or there is a seventh attribute"
cause_words wrong_kind = "the role file has a value of the wrong kind or a value given twice"
cause_words own_senior = "a role is its own senior"
cause_words small_scratch = "scratch is below 2,048 words of 64 bits"
cause_words short_output = "output is shorter than the rule file"
cause_words rules_cut_off = "the rule file is cut off"
cause_words rules_unknown = "the rule file has an unknown command"
cause_words rules_order = "the rule file has a byte after its end or a command out of order, missing or repeated"
cause_words rules_operand = "the rule file has an operand beyond its size or of the wrong kind, an atom across domains, a zero operation set, or a part that the role file does not have"
cause_words no_such_rule = "the rule file has no rule of this number"
cause_words zero_seed = "the seed is 0"
cause_words wrong_shape = "the rule file was made for other sizes or numbers of attributes than the role file's"
cause_words wrong_table = "the table has other than 1,024 words"
cause_words wrong_level = "a rule of the rule file tells another level than the lowest that allows its conjuncts"
cause_words wrong_window = "the window has no records or more than 64"
cause_words ragged_log = "the length of the log is not divisible by three"
cause_words bad_cuts = "the cuts do not ascend strictly, or one is not from 1 to the number of roles less one"

unfoldable pub refusal_table : List String
refusal_table =
    "no refusal has this number" ∷ cause_words too_long ∷ cause_words cut_off ∷ cause_words unknown_command ∷ cause_words out_of_place ∷ cause_words beyond ∷ cause_words wrong_kind ∷ cause_words own_senior
    ∷ cause_words small_scratch ∷ cause_words short_output ∷ cause_words rules_cut_off ∷ cause_words rules_unknown ∷ cause_words rules_order ∷ cause_words rules_operand ∷ cause_words no_such_rule
    ∷ cause_words zero_seed ∷ cause_words wrong_shape ∷ cause_words wrong_table ∷ cause_words wrong_level ∷ cause_words wrong_window ∷ cause_words ragged_log
    ∷ cause_words bad_cuts ∷ []

-- the words of a refusal by its number
unfoldable pub refusal_words : ℕ → List ℕ
refusal_words n = bytes_of (get_or refusal_table n "no refusal has this number")

-- the code's refusal at each number
unfoldable pub numbered : List (Option CodeRefusal)
numbered =
    None ∷ Some TooLong ∷ Some CutOff ∷ Some UnknownCommand ∷ Some OutOfPlace ∷ Some Beyond ∷ Some WrongKind ∷ Some OwnSenior ∷ Some SmallScratch ∷ Some ShortOutput ∷ Some RulesCutOff
    ∷ Some RulesUnknown ∷ Some RulesOrder ∷ Some RulesOperand ∷ Some NoSuchRule ∷ Some ZeroSeed ∷ Some WrongShape ∷ Some WrongTable ∷ Some WrongLevel ∷ Some WrongWindow ∷ Some RaggedLog
    ∷ Some BadCuts ∷ []

-- the code's refusal of a number, if one has it
unfoldable pub refusal_of : ℕ → Option CodeRefusal
refusal_of n = get_or numbered n None

-- 01's words for each verdict; what it is about, a triple, a rule or a part, stands in front
unfoldable pub finding_words : Verdict → String
finding_words sound = "roles and rules grant the same, every rule what its parts do, and every part stands under one rule"
finding_words (differ u r o) = " is granted by roles or rules only"
finding_words (stray_rule i) = " grants other than its parts"
finding_words (stray_part p) = " stands under no rule or several"

unfoldable pub verdict_table : List String
verdict_table = finding_words sound ∷ finding_words (differ 0 0 0) ∷ finding_words (stray_rule 0) ∷ finding_words (stray_part 0) ∷ []

-- the words of a verdict by its number
unfoldable pub verdict_words : ℕ → List ℕ
verdict_words n = bytes_of (get_or verdict_table n "no verdict has this number")

-- by the rules or by the roles, whether they grant a triple, which stands behind
unfoldable pub reply_text : Bool → Bool → String
reply_text false false = "no, the roles do not grant "
reply_text false true = "yes, the roles grant "
reply_text true false = "no, no rule grants "
reply_text true true = "yes, some rule grants "
