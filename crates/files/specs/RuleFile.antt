-- The rule file: its commands, writing it, reading it. 01, sections "The rule file" and "Where each call stops".
-- Assumes nothing.
use Rattle.std.specs.Prelude.{ℕ, ◌^◌, eqb, ltb, length, get_or, Bool, true, false, cond, ◌&&◌, not, List, [], ◌∷◌, ◌++◌, map}
use Rattle.std.proofs.Math.Option.{Option, none, some}
use Rattle.files.specs.Answer.{Answer, unless, and_then, rules_cut_off, rules_unknown, rules_order, rules_operand, wrong_shape, wrong_level, refused, accepted}
use Rattle.files.specs.Beside.{Beside}
use Rattle.files.specs.Bytes.{operands, spread_all, Format, read}
use Rattle.files.specs.RoleFile.{same_side}
use Rattle.policy.specs.Mined.{part_count, part_at}
use Rattle.policy.specs.Roles.{Roles, parts, class_of}
use Rattle.policy.specs.Rules.{own, Which, Setting, Cond, Rule, attrs_of, atom_form, rule_level, user, resource, conjunct, atom}
use Rattle.sets.specs.Sorted.{sort, before}
use Rattle.sets.specs.Tests.{iff, all, any, keep, each, only, up_to, is_some, sum}

pub data RuleCommand : Type 0 where
  -- 20 behind the first command, whatever its operands
  reshapes : RuleCommand
  -- 21 opens a rule
  opens : RuleCommand
  -- 22 to 25: side, is it a set; attribute, value
  value : Which → Bool → ℕ → ℕ → RuleCommand
  -- 26 operations
  operations : ℕ → RuleCommand
  -- 27 user attribute, resource attribute
  link : ℕ → ℕ → RuleCommand
  -- 28 role, operations
  part : ℕ → ℕ → RuleCommand
  -- 29 the rule's level
  level : ℕ → RuleCommand
  -- 2F ends the file
  ends : RuleCommand

abbrev pub value_byte : Which → Bool → ℕ
value_byte user false = 0x22
value_byte user true = 0x23
value_byte resource false = 0x24
value_byte resource true = 0x25

abbrev pub byte_of : RuleCommand → ℕ
byte_of reshapes = 0x20
byte_of opens = 0x21
byte_of (value w set a v) = value_byte w set
byte_of (operations m) = 0x26
byte_of (link a b) = 0x27
byte_of (part k m) = 0x28
byte_of (level l) = 0x29
byte_of ends = 0x2F

abbrev pub operands_of : RuleCommand → List ℕ
operands_of reshapes = []
operands_of opens = []
operands_of (value w set a v) = a ∷ v ∷ []
operands_of (operations m) = m ∷ []
operands_of (link a b) = a ∷ b ∷ []
operands_of (part k m) = k ∷ m ∷ []
operands_of (level l) = l ∷ []
operands_of ends = []

-- the command of a known byte with its operands
abbrev pub rule_command : ℕ → List ℕ → RuleCommand
rule_command b xs =
    cond (eqb b 0x20) reshapes
    (cond (eqb b 0x21) opens
    (cond (eqb b 0x22) (value user false (get_or xs 0 0) (get_or xs 1 0))
    (cond (eqb b 0x23) (value user true (get_or xs 0 0) (get_or xs 1 0))
    (cond (eqb b 0x24) (value resource false (get_or xs 0 0) (get_or xs 1 0))
    (cond (eqb b 0x25) (value resource true (get_or xs 0 0) (get_or xs 1 0))
    (cond (eqb b 0x26) (operations (get_or xs 0 0))
    (cond (eqb b 0x27) (link (get_or xs 0 0) (get_or xs 1 0))
    (cond (eqb b 0x28) (part (get_or xs 0 0) (get_or xs 1 0))
    (cond (eqb b 0x29) (level (get_or xs 0 0)) ends)))))))))

-- Something for each sort of command; and of one sort, with a default `d` for all others.
module _ {A : Type 0} where
  abbrev pub by_command : A → A → (Which → Bool → ℕ → ℕ → A) → (ℕ → A) → (ℕ → ℕ → A) → (ℕ → ℕ → A) → (ℕ → A) → A → RuleCommand → A
  by_command e f g h i j l k reshapes = e
  by_command e f g h i j l k opens = f
  by_command e f g h i j l k (value w set a v) = g w set a v
  by_command e f g h i j l k (operations m) = h m
  by_command e f g h i j l k (link a b) = i a b
  by_command e f g h i j l k (part r m) = j r m
  by_command e f g h i j l k (level n) = l n
  by_command e f g h i j l k ends = k

  abbrev pub if_value : (Which → Bool → ℕ → ℕ → A) → A → RuleCommand → A
  if_value f d = by_command d d f (λ m. d) (λ a b. d) (λ k m. d) (λ l. d) d

  abbrev pub if_operations : (ℕ → A) → A → RuleCommand → A
  if_operations f d = by_command d d (λ w set a v. d) f (λ a b. d) (λ k m. d) (λ l. d) d

  abbrev pub if_link : (ℕ → ℕ → A) → A → RuleCommand → A
  if_link f d = by_command d d (λ w set a v. d) (λ m. d) f (λ k m. d) (λ l. d) d

  abbrev pub if_part : (ℕ → ℕ → A) → A → RuleCommand → A
  if_part f d = by_command d d (λ w set a v. d) (λ m. d) (λ a b. d) f (λ l. d) d

  abbrev pub if_level : (ℕ → A) → A → RuleCommand → A
  if_level f d = by_command d d (λ w set a v. d) (λ m. d) (λ a b. d) (λ k m. d) f d

  -- another 20, a command that opens a rule, the one that ends the file, and a line within a rule
  abbrev pub by_place : A → A → A → A → RuleCommand → A
  by_place e f g d = by_command e f (λ w set a v. d) (λ m. d) (λ a b. d) (λ k m. d) (λ l. d) g

-- "ascend strictly by command byte, then operands as numbers"
abbrev pub precedes : RuleCommand → RuleCommand → Bool
precedes c d = before (byte_of c ∷ operands_of c) (byte_of d ∷ operands_of d)

abbrev pub is_operations : RuleCommand → Bool
is_operations = if_operations (λ m. true) false

abbrev pub is_part_line : RuleCommand → Bool
is_part_line = if_part (λ k m. true) false

abbrev pub is_level : RuleCommand → Bool
is_level = if_level (λ l. true) false

-- a rule's lines: 01's commands between its 21 and the next 21 or 2F
abbrev pub Lines : Type 0
Lines = List RuleCommand

-- ---- what a rule's lines say

-- the value that a line lists for an attribute of a side and kind
abbrev pub listed : Which → Bool → ℕ → RuleCommand → List ℕ
listed w set a = if_value (λ x s b v. only (same_side w x && (iff set s && eqb a b)) v) []

abbrev pub link_of : RuleCommand → List Cond
link_of = if_link (λ a b. atom a b ∷ []) []

-- the operand of the first 26, and 0 if there is none
abbrev pub operations_in : Lines → ℕ
operations_in [] = 0
operations_in (c ∷ ls) = if_operations (λ m. m) (operations_in ls) c

-- the levels that lines tell
abbrev pub levels_in : Lines → List ℕ
levels_in = each (if_level (λ l. l ∷ []) [])

abbrev pub names_part : ℕ → ℕ → RuleCommand → Bool
names_part k m = if_part (λ j n. eqb k j && eqb m n) false

module _ (P : Setting) where
  -- an attribute's conjunct: the values that the lines list for it
  unfoldable pub values_in : Lines → Which → ℕ → List ℕ
  values_in ls w a = each (listed w ((P.side w).is_set a) a) ls

  unfoldable pub conjuncts_in : Lines → Which → List Cond
  conjuncts_in ls w = each (λ a. only (ltb 0 (length (values_in ls w a))) (conjunct w a (values_in ls w a))) (attrs_of (P.side w) true)

  -- the rule: its conjuncts by side and attribute, its atoms, its operations
  unfoldable pub rule_in : Lines → Rule
  rule_in ls = record { ops = operations_in ls; conds = conjuncts_in ls user ++ conjuncts_in ls resource ++ each link_of ls }

  module _ (R : Roles) where
    -- a line lists part number p
    unfoldable pub lists : ℕ → RuleCommand → Bool
    lists p c = names_part (part_at P R p).role (class_of P R (part_at P R p)) c

    -- "A rule's parts are those listed under it": their numbers, in the order of parts
    unfoldable pub parts_in : Lines → List ℕ
    parts_in ls = keep (λ p. any (lists p) ls) (up_to (part_count P R))

    -- how often part number p is listed in a file
    unfoldable pub listings : List Lines → ℕ → ℕ
    listings rules p = sum (λ ls. length (keep (lists p) ls)) rules

-- ---- writing

-- the lines of a condition
unfoldable pub cond_lines : Setting → Cond → Lines
cond_lines P (conjunct w a vs) = map (value w ((P.side w).is_set a) a) vs
cond_lines P (atom a b) = link a b ∷ []

-- the lines of a rule, its level among them, and of the parts under it: all of them, and in the file's order
unfoldable pub all_lines : (P : Setting) → Roles → Rule → List ℕ → Lines
all_lines P R ρ g =
    each (cond_lines P) ρ.conds
    ++ (operations ρ.ops ∷ level (rule_level P ρ) ∷ map (λ p. part (part_at P R p).role (class_of P R (part_at P R p))) g)

unfoldable pub lines_of : (P : Setting) → Roles → Rule → List ℕ → Lines
lines_of P R ρ g = sort precedes (all_lines P R ρ g)

-- ---- reading beside a policy

-- the rules that are complete, and the lines of the one that is open
pub record Reading : Type 0 where
  pub complete : List Lines
  pub current : Option Lines

abbrev pub ends_file : RuleCommand → Bool
ends_file = by_place false false true false

-- a 26, a 28 and a 29 are there: "missing (seen at the next 21 or 2F)". A second 26 or 29 is refused where it stands (follows)
unfoldable pub whole : Lines → Bool
whole ls = any is_operations ls && (any is_part_line ls && any is_level ls)

-- the rules once the open one is closed
unfoldable pub finished : Reading → Answer (List Lines)
finished s = elim s.current [ none ↦ accepted s.complete | some ls ↦ unless (whole ls) rules_order (accepted (s.complete ++ (ls ∷ []))) ]

-- a line is the first of a sort behind these, or of another sort
abbrev pub no_second : (RuleCommand → Bool) → Lines → RuleCommand → Bool
no_second sort ls c = not (sort c && any sort ls)

-- a line may follow these: it ascends, and is no second 26 and no second 29
unfoldable pub follows : Lines → RuleCommand → Bool
follows ls c = all (λ d. precedes d c) ls && (no_second is_operations ls c && no_second is_level ls c)

-- "255 stands only in 23, with roles as elements, and in 24, with a resource number"
abbrev pub own_value : Setting → Roles → Which → Bool → ℕ → Bool
own_value P R user true v = ltb v (2 ^ R.number)
own_value P R user false v = false
own_value P R resource true v = false
own_value P R resource false v = ltb v (P.side resource).count

-- B is what the role file states
module _ (B : Beside) where
  -- "13 an operand beyond its size, of the wrong kind (an atom of a single user attribute and a set resource attribute
  -- too), a zero operation set, or no part of that file"
  unfoldable pub legal : RuleCommand → Bool
  legal reshapes = false
  legal opens = true
  legal (value w set a v) =
      cond (eqb a own) (own_value B.setting B.roles w set v)
      (ltb a (B.setting.side w).attrs && iff ((B.setting.side w).is_set a) set)
  legal (operations m) = ltb 0 m && ltb m (2 ^ B.setting.slots)
  legal (link a b) =
      ltb a (B.setting.side user).attrs && (ltb b (B.setting.side resource).attrs && is_some (atom_form B.setting a b))
  legal (part k m) = any (λ p. eqb k p.role && eqb m (class_of B.setting B.roles p)) (parts B.setting B.roles)
  legal (level l) = true
  legal ends = true

  -- "In a file that is read, the operand must be the lowest level that allows the rule's own conjuncts": those of the lines before it,
  -- for none stand behind a 29
  unfoldable pub levelled : Lines → RuleCommand → Bool
  levelled ls = if_level (λ l. eqb l (rule_level B.setting (rule_in B.setting ls))) true

  -- a line of the open rule: "12 out of order", then 13; "18 for a wrong level, where 13 would be tested for that command"
  unfoldable pub add_line : Reading → RuleCommand → Answer Reading
  add_line s c =
      elim s.current [
        | none ↦ refused rules_order
        | some ls ↦ unless (follows ls c) rules_order (unless (legal c) rules_operand (unless (levelled ls c) wrong_level (accepted (record { complete = s.complete; current = some (ls ++ (c ∷ [])) }))))
      ]

  -- 21 and 2F close the open rule; 21 opens another; "so does a second 20": 12
  unfoldable pub obey_rule : Reading → RuleCommand → Answer Reading
  obey_rule s c =
      by_place
      (refused rules_order)
      (and_then (finished s) (λ done. accepted (record { complete = done; current = some [] })))
      (and_then (finished s) (λ done. accepted (record { complete = done; current = none })))
      (add_line s c) c

-- two lists of numbers are the same
abbrev pub same_numbers : List ℕ → List ℕ → Bool
same_numbers [] [] = true
same_numbers [] (y ∷ ys) = false
same_numbers (x ∷ xs) [] = false
same_numbers (x ∷ xs) (y ∷ ys) = eqb x y && same_numbers xs ys

-- the first command, with its operands and the bytes behind it, which are handed on: cut off; "A file whose first command is a known one other than
-- 20 gets 12, in the place of out of order"; "16 for operands unlike the role file's, ... after 20 itself has been read whole"
abbrev pub opened_by : List ℕ → ℕ → Option (List ℕ × List ℕ) → Answer (List ℕ)
opened_by shape b none = refused rules_cut_off
opened_by shape b (some p) = unless (eqb b 0x20) rules_order (unless (same_numbers p.0 shape) wrong_shape (accepted p.1))

abbrev pub widths_or : Option (List ℕ) → List ℕ
widths_or none = []
widths_or (some ws) = ws

-- ---- bytes. An operation set is W bytes wide: 2 for 16 operations
module _ (W : ℕ) where
  abbrev pub rule_widths : ℕ → Option (List ℕ)
  rule_widths b =
      cond (eqb b 0x20) (some (1 ∷ 1 ∷ 1 ∷ 1 ∷ 1 ∷ 1 ∷ []))
      (cond (eqb b 0x21) (some [])
      (cond (eqb b 0x22) (some (1 ∷ 2 ∷ []))
      (cond (eqb b 0x23) (some (1 ∷ 8 ∷ []))
      (cond (eqb b 0x24) (some (1 ∷ 2 ∷ []))
      (cond (eqb b 0x25) (some (1 ∷ 8 ∷ []))
      (cond (eqb b 0x26) (some (W ∷ []))
      (cond (eqb b 0x27) (some (1 ∷ 1 ∷ []))
      (cond (eqb b 0x28) (some (1 ∷ W ∷ []))
      (cond (eqb b 0x29) (some (1 ∷ []))
      (cond (eqb b 0x2F) (some []) none))))))))))

  -- a command's bytes
  unfoldable pub encode : RuleCommand → List ℕ
  encode c = byte_of c ∷ spread_all (widths_or (rule_widths (byte_of c))) (operands_of c)

  -- rules: each one's 21 and lines, and behind all of them 2F
  unfoldable pub encode_all : List Lines → List ℕ
  encode_all rules = each (λ ls. each encode (opens ∷ ls)) rules ++ encode ends

  -- the file: 20 and the shape, "one-byte operands", and behind them the rules
  unfoldable pub encode_file : List ℕ → List Lines → List ℕ
  encode_file shape rules = 0x20 ∷ (shape ++ encode_all rules)

  -- the first command: what stands behind it. An unknown one, or what `openedBy` says
  unfoldable pub opened : List ℕ → List ℕ → Answer (List ℕ)
  opened shape [] = refused rules_cut_off
  opened shape (b ∷ bs) = elim (rule_widths b) [ none ↦ refused rules_unknown | some ws ↦ opened_by shape b (operands ws bs) ]

  module _ (B : Beside) where
    unfoldable pub rule_format : Format RuleCommand Reading
    rule_format = record {
      widths = rule_widths;
      command = rule_command;
      ends = ends_file;
      obey = obey_rule B;
      late = rules_order;
      unknown = rules_unknown;
      short = rules_cut_off;
    }

    -- what stands behind the first command: the rules' lines, in order
    unfoldable pub read_body : List ℕ → Answer (List Lines)
    read_body bytes = and_then (read rule_format (record { complete = []; current = none }) bytes) (λ s. accepted s.complete)

    -- "The rule file opens with 20 and six one-byte operands", and may be of any length
    unfoldable pub read_rules : List ℕ → Answer (List Lines)
    read_rules bytes = and_then (opened B.shape bytes) read_body
