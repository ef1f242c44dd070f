-- Refusals and answers. 01, section "Where each call stops".
-- Assumes nothing.
use Rattle.std.specs.Prelude.{ℕ, Bool, true, false, List, [], ◌∷◌}

-- The causes for which a call may refuse.
pub data Refusal : Type 0 where
  -- "too long"
  too_long : Refusal
  -- "the file ends inside operands or before 0F"
  cut_off : Refusal
  -- "unknown command"
  unknown_command : Refusal
  -- "a byte after the end", "out of place"
  out_of_place : Refusal
  -- "an operand beyond its limit or declared size, a seventh attribute", "a number beyond the sizes"
  beyond : Refusal
  -- "wrong kind, or a value given twice"
  wrong_kind : Refusal
  -- "a role is its own senior"
  own_senior : Refusal
  -- "scratch below 4,096 words of 64 bits", by request 13 below 2,048
  small_scratch : Refusal
  -- "output shorter than the rule file"
  short_output : Refusal
  -- of the rule file: "cut off (also before 2F)"
  rules_cut_off : Refusal
  -- "unknown"
  rules_unknown : Refusal
  -- "a byte after the end", "out of order, missing (seen at the next 21 or 2F) or repeated"
  rules_order : Refusal
  -- "an operand beyond its size, of the wrong kind (...), a zero operation set, or no part of that file"
  rules_operand : Refusal
  -- request 2: "a number not below the count of rules"
  no_such_rule : Refusal
  -- request 6: "15 for seed 0"
  zero_seed : Refusal
  -- request 7: "operands unlike the role file's, after the role file's refusals and after 20 itself has been read whole"
  wrong_shape : Refusal
  -- request 8: "17 for a table of other than 1,024 words"
  wrong_table : Refusal
  -- request 9: "18 for a wrong level, where 13 would be tested for that command"
  wrong_level : Refusal
  -- request 10: "19 for w outside 1 to 64"
  wrong_window : Refusal
  -- request 10: "then 20 for a length not divisible by three"
  ragged_log : Refusal
  -- request 11: "21 for cuts that do not ascend strictly or are out of range"
  bad_cuts : Refusal

-- 01's number of each
abbrev pub number_of : Refusal → ℕ
number_of too_long = 1
number_of cut_off = 2
number_of unknown_command = 3
number_of out_of_place = 4
number_of beyond = 5
number_of wrong_kind = 6
number_of own_senior = 7
number_of small_scratch = 8
number_of short_output = 9
number_of rules_cut_off = 10
number_of rules_unknown = 11
number_of rules_order = 12
number_of rules_operand = 13
number_of no_such_rule = 14
number_of zero_seed = 15
number_of wrong_shape = 16
number_of wrong_table = 17
number_of wrong_level = 18
number_of wrong_window = 19
number_of ragged_log = 20
number_of bad_cuts = 21

-- "Every refusal here and below returns only its number."
pub data Answer (A : Type 0) : Type 0 where
  refused : Refusal → Answer A
  accepted : A → Answer A

-- an answer in 01's numbers: that of the refusal, or 0 and the values of what was accepted
abbrev pub told : {A : Type 0} → (A → List ℕ) → Answer A → List ℕ
told f (refused e) = number_of e ∷ []
told f (accepted a) = 0 ∷ f a

-- a test that an input must pass before anything else is asked of it
abbrev pub unless : {A : Type 0} → Bool → Refusal → Answer A → Answer A
unless true e r = r
unless false e r = refused e

-- go on with what was accepted
abbrev pub and_then : {A B : Type 0} → Answer A → (A → Answer B) → Answer B
and_then (refused e) f = refused e
and_then (accepted a) f = f a

-- the number that an answer without values returns: that of the refusal, or 0
abbrev pub code_of : {A : Type 0} → Answer A → ℕ
code_of (refused e) = number_of e
code_of (accepted a) = 0

-- what there is after a call: what it comes to, or after a refusal what there was before
abbrev pub left_by : {A : Type 0} → A → Answer A → A
left_by former (refused e) = former
left_by former (accepted a) = a

-- what is made of what was accepted
abbrev pub map_answer : {A B : Type 0} → (A → B) → Answer A → Answer B
map_answer f (refused e) = refused e
map_answer f (accepted a) = accepted (f a)
