-- The examples of 01 that are marked P, its tempting mistakes, and the order of its tests, as rows of one table. 01, sections
-- "Files to try" and "Where each call stops"; what requests add stands behind. ExamplesLaws has the proof.
-- Assumes nothing.
use Rattle.std.specs.Prelude.{ℕ, zero, suc, eqb, length, get_or, take, Bool, true, false, cond, ◌&&◌, not, List, [], ◌∷◌, ◌++◌, map}
use Prim.Native.String.{String}
use Rattle.examples.specs.Hex.{no_byte, spelt, hex}
use Rattle.files.specs.Answer.{and_then, told, accepted}
use Rattle.files.specs.Calls.{Verdict, count_values, yes_no, verdict_number, verdict_values, mine_answer, mine_output, role_question, read_both, rule_question, judge, shown_place, shown_part, shown_byte, circle_answer, circle_output}
use Rattle.files.specs.Denials.{denial_answer, role_denials}
use Rattle.files.specs.Edits.{Edit, may_fill, edit_answer, summary_word, summary_answer, edited_by}
use Rattle.files.specs.Load.{xorshift, load_answer, load_output}
use Rattle.files.specs.RoleFile.{read_roles}
use Rattle.files.specs.RuleFile.{Lines, values_in, rule_in}
use Rattle.files.specs.Windows.{worst_values}
use Rattle.policy.specs.Cost.{four_ones}
use Rattle.policy.specs.Policy.{Policy, setting_of}
use Rattle.policy.specs.Rules.{Which, Rule, atom, conjunct, of_section, rule_level, user, resource}
use Rattle.policy.specs.Satisfying.{Expression, satisfies_singles, satisfies_sets, satisfies}
use Rattle.renumbering.specs.Renumbered.{renumber}
use Rattle.sets.specs.Tests.{keep, each, up_to}

-- a row: what it holds, what the definitions say, and what 01 says
pub record Row : Type 0 where
  pub name : String
  pub said : List ℕ
  pub wanted : List ℕ

abbrev pub row : String → List ℕ → List ℕ → Row
row name said wanted = record { name = name; said = said; wanted = wanted }

abbrev pub same_list : List ℕ → List ℕ → Bool
same_list [] [] = true
same_list [] (y ∷ ys) = false
same_list (x ∷ xs) [] = false
same_list (x ∷ xs) (y ∷ ys) = eqb x y && same_list xs ys

-- the names of the rows where the definitions say something else
abbrev pub failing : List Row → List String
failing rows = map (λ (r : Row). r.name) (keep (λ (r : Row). not (same_list r.said r.wanted)) rows)

-- ---- the calls, with operation sets of 2 bytes

-- lent memory of so many bytes, before it is written
abbrev pub memory : ℕ → List ℕ
memory zero = []
memory (suc n) = 0xAA ∷ memory n

-- mining a file with so many words of scratch and bytes of output: length, parts, rules, merges, cost by four ones
abbrev pub mining : List ℕ → ℕ → ℕ → List ℕ
mining file scratch room = told count_values (mine_answer 2 file [] four_ones scratch room)

-- the same by the weights w1 to w4, with scratch enough
abbrev pub weighing : (w1 w2 w3 w4 : ℕ) → List ℕ → ℕ → List ℕ
weighing w1 w2 w3 w4 file room = told count_values (mine_answer 2 file [] (record { users = w1; resources = w2; operations = w3; atoms = w4 }) 4096 room)

-- the bytes of the output memory after that, with scratch enough
abbrev pub output : List ℕ → ℕ → List ℕ
output file room = mine_output 2 file [] 4096 (memory room)

-- mining with cuts: the same counts, and the same bytes
abbrev pub cutting : List ℕ → List ℕ → ℕ → ℕ → List ℕ
cutting file cuts scratch room = told count_values (mine_answer 2 file cuts four_ones scratch room)

abbrev pub cut_output : List ℕ → List ℕ → ℕ → List ℕ
cut_output file cuts room = mine_output 2 file cuts 4096 (memory room)

-- reading a role file: users, resources, operations, roles
abbrev pub reading : List ℕ → List ℕ
reading file = told (λ (F : Policy). (F.table user).count ∷ (F.table resource).count ∷ F.operations ∷ F.roles ∷ []) (read_roles 2 file)

-- the two questions
abbrev pub role_answer : List ℕ → ℕ → ℕ → ℕ → List ℕ
role_answer file u r o = told yes_no (role_question 2 file u r o)

abbrev pub rule_answer : List ℕ → List ℕ → ℕ → ℕ → ℕ → List ℕ
rule_answer file rules u r o = told yes_no (rule_question 2 file rules u r o)

-- the judge: the verdict's number and values
abbrev pub judging : List ℕ → List ℕ → List ℕ
judging file rules = told (λ (v : Verdict). verdict_number v ∷ verdict_values v) (judge 2 file rules)

-- showing one rule: the lent byte, and behind it the bytes of the part that is handed back; and where that part begins and ends
abbrev pub showing : List ℕ → List ℕ → ℕ → List ℕ
showing file rules n = shown_byte 2 file rules n ∷ shown_part 2 file rules n

abbrev pub placing : List ℕ → List ℕ → ℕ → List ℕ
placing file rules n = (shown_place 2 file rules n).0 ∷ (shown_place 2 file rules n).1 ∷ []

-- showing the circle of a role file with so many bytes of memory: its roles; and the memory after that
abbrev pub circling : List ℕ → ℕ → List ℕ
circling file room = told (λ (c : List ℕ). c) (circle_answer 2 file room)

abbrev pub circled : List ℕ → ℕ → List ℕ
circled file room = circle_output 2 file (memory room)

-- making a role file of a seed and four sizes with so many bytes of output: its length; and the output after that
abbrev pub loading : (seed users resources operations roles room : ℕ) → List ℕ
loading seed u r o k room = told (λ n. n ∷ []) (load_answer 2 seed u r o k room)

abbrev pub loaded_into : (seed users resources operations roles room : ℕ) → List ℕ
loaded_into seed u r o k room = load_output 2 seed u r o k (memory room)

-- the edits of request 8; what one answers beside a table of so many words
abbrev pub gives : ℕ → ℕ → Edit
gives k u = record { gives = true; role = k; user = u }

abbrev pub takes : ℕ → ℕ → Edit
takes k u = record { gives = false; role = k; user = u }

abbrev pub editing : List ℕ → ℕ → Edit → List ℕ
editing file words e = told (λ (F : Policy). []) (and_then (read_roles 2 file) (λ F. edit_answer F words e))

-- after a list of edits: the word of a user and an operation, whether a user is assigned to a role, and those words of a table of so many words, filled, that
-- are not 0, each behind its number
abbrev pub rights : List ℕ → List Edit → ℕ → ℕ → List ℕ
rights file es u o = told (λ (F : Policy). summary_word (edited_by F es) u o ∷ []) (read_roles 2 file)

abbrev pub assignment : List ℕ → List Edit → ℕ → ℕ → List ℕ
assignment file es k u = told (λ (F : Policy). yes_no ((edited_by F es).assigned k u)) (read_roles 2 file)

abbrev pub filling : List ℕ → List Edit → ℕ → List ℕ
filling file es words =
    told (λ (t : List ℕ). each (λ i. each (λ w. i ∷ w ∷ []) (keep (λ w. not (eqb w 0)) (get_or t i 0 ∷ []))) (up_to (length t)))
    (and_then (read_roles 2 file) (λ F. summary_answer (edited_by F es) words))

-- filling a table of so many words from a record of these sizes
abbrev pub sized : ℕ → ℕ → ℕ → ℕ → ℕ → List ℕ
sized words u r o k = told (λ (n : ℕ). []) (may_fill words u r o k (accepted 0))

-- the test of a user or a resource against each rule of a rule file: the half of the single attributes, that of the sets, and the whole
abbrev pub halves : Policy → Which → Expression → ℕ → List ℕ
halves F w e x = yes_no (satisfies_singles F w e x) ++ yes_no (satisfies_sets F w e x) ++ yes_no (satisfies F w e x)

abbrev pub satisfying : List ℕ → List ℕ → Which → ℕ → List ℕ
satisfying file rules w x = told (λ (p : Policy × List Lines). each (λ ls. halves p.0 w (values_in (setting_of p.0) ls w) x) p.1) (read_both 2 file rules)

-- denials in a log, in windows of w records: how many at most, and from which record on; by the rules, and by the roles
abbrev pub denying : List ℕ → List ℕ → List ℕ → ℕ → List ℕ
denying file rules log w = told worst_values (denial_answer 2 file rules log w)

abbrev pub roles_denying : List ℕ → List ℕ → ℕ → List ℕ
roles_denying file log w = told worst_values (role_denials 2 file log w)

-- the levels of the rules of a rule file
abbrev pub levels : List ℕ → List ℕ → List ℕ
levels file rules = told (λ (p : Policy × List Lines). map (λ ls. rule_level (setting_of p.0) (rule_in (setting_of p.0) ls)) p.1) (read_both 2 file rules)

-- a rule is one "of this section over the role file's attributes and both 255s"
abbrev pub of_file : List ℕ → Rule → List ℕ
of_file file ρ = told (λ (F : Policy). yes_no (of_section (setting_of F) ρ)) (read_roles 2 file)

-- the rule that asks for the value 7 of user attribute 0 alone, and the one that joins it with resource attribute 0 by an atom
abbrev pub value_only : Rule
value_only = record { ops = 1; conds = conjunct user 0 (7 ∷ []) ∷ [] }

abbrev pub value_and_atom : Rule
value_and_atom = record { ops = 1; conds = conjunct user 0 (7 ∷ []) ∷ atom 0 0 ∷ [] }

-- ---- role files of 01

-- example A
abbrev pub file_a : List ℕ
file_a = hex "01 02 02 01 02 02 00 00 02 01 00 03 00 00 00 05 00 03 00 00 01 07 00 03 01 00 00 05 00 03 01 00 01 07 00 05 00 00 05 01 01 06 00 00 00 06 01 01 00 0F"

-- no user, resource, operation or role
abbrev pub nobody : List ℕ
nobody = hex "01 00 00 00 00 0F"

-- no attributes, two users, two resources, one operation, role 0 with user 0 and resource 0
abbrev pub one_of_two : List ℕ
one_of_two = hex "01 02 02 01 01 05 00 00 06 00 00 00 0F"

-- user 0 in role 0 without permissions, senior to role 1, which has the permission
abbrev pub inherits : List ℕ
inherits = hex "01 01 01 01 02 05 00 00 07 01 00 06 01 00 00 0F"

-- the same, but role 0 is the junior
abbrev pub inherits_not : List ℕ
inherits_not = hex "01 01 01 01 02 05 00 00 07 00 01 06 01 00 00 0F"

-- resource 0 under operations 0 and 1, resource 1 under 1
abbrev pub unequal_resources : List ℕ
unequal_resources = hex "01 01 02 02 01 05 00 00 06 00 00 00 06 00 00 01 06 00 01 01 0F"

-- resources 0 and 1 under operations 0 and 1
abbrev pub equal_resources : List ℕ
equal_resources = hex "01 01 02 02 01 05 00 00 06 00 00 00 06 00 01 00 06 00 00 01 06 00 01 01 0F"

-- a user set {1, 2} and a resource set {1, 2}
abbrev pub set_one_two : List ℕ
set_one_two = hex "01 01 01 01 01 02 00 01 02 01 01 04 00 00 00 06 00 00 00 00 00 00 00 04 01 00 00 06 00 00 00 00 00 00 00 05 00 00 06 00 00 00 0F"

-- user 0 has the set {1, 2}, resource 0 has {1}, resource 1 has {1, 2, 3}
abbrev pub set_between : List ℕ
set_between = hex "01 01 02 01 01 02 00 01 02 01 01 04 00 00 00 06 00 00 00 00 00 00 00 04 01 00 00 02 00 00 00 00 00 00 00 04 01 00 01 0E 00 00 00 00 00 00 00 05 00 00 06 00 00 00 0F"

-- 07 with one role twice
abbrev pub role_twice : List ℕ
role_twice = hex "01 00 00 00 01 07 00 00 0F"

-- ---- role files in which a tempting mistake shows

-- the set of user 0 and that of resource 0 are empty, those of user 1 and resource 1 were never given
abbrev pub empty_or_unknown : List ℕ
empty_or_unknown = hex "01 02 02 01 01 02 00 01 02 01 01 04 00 00 00 00 00 00 00 00 00 00 00 04 01 00 00 00 00 00 00 00 00 00 00 05 00 00 06 00 00 00 0F"

-- role 0 has user 0, whose set is empty; that of user 1 was never given
abbrev pub known_empty : List ℕ
known_empty = hex "01 02 01 01 01 02 00 01 04 00 00 00 00 00 00 00 00 00 00 00 05 00 00 06 00 00 00 0F"

-- role 0, with resource 0 and operation 0, is senior to role 1, with resource 1 and operation 1
abbrev pub senior_and_junior : List ℕ
senior_and_junior = hex "01 02 02 02 02 05 00 00 05 01 01 07 01 00 06 00 00 00 06 01 01 01 0F"

-- a role without a holder
abbrev pub no_holder : List ℕ
no_holder = hex "01 01 01 01 01 06 00 00 00 0F"

-- user 0 has 5, resource 0 has 5 and resource 1 has 7; role 0 has resource 0, role 1 resource 1
abbrev pub atom_of_one : List ℕ
atom_of_one = hex "01 01 02 01 02 02 00 00 02 01 00 03 00 00 00 05 00 03 01 00 00 05 00 03 01 00 01 07 00 05 00 00 05 01 00 06 00 00 00 06 01 01 00 0F"

-- the same without the permission of role 1
abbrev pub atom_alone : List ℕ
atom_alone = hex "01 01 02 01 02 02 00 00 02 01 00 03 00 00 00 05 00 03 01 00 00 05 00 03 01 00 01 07 00 05 00 00 05 01 00 06 00 00 00 0F"

-- user 0 has the set of 0 to 63, resource 0 has 63, resource 1 has 64
abbrev pub above63 : List ℕ
above63 = hex "01 01 02 01 01 02 00 01 02 01 00 04 00 00 00 FF FF FF FF FF FF FF FF 03 01 00 00 3F 00 03 01 00 01 40 00 05 00 00 06 00 00 00 0F"

-- ---- role files for the cost: role 0 has the first two of three users or resources, the third has no value

-- users 0 and 1 have 5 and 7
abbrev pub user_values : List ℕ
user_values = hex "01 03 01 01 01 02 00 00 03 00 00 00 05 00 03 00 00 01 07 00 05 00 00 05 00 01 06 00 00 00 0F"

-- resources 0 and 1 have 5 and 7
abbrev pub resource_values : List ℕ
resource_values = hex "01 01 03 01 01 02 01 00 03 01 00 00 05 00 03 01 00 01 07 00 05 00 00 06 00 00 00 06 00 01 00 0F"

-- users 0 and 1 have {1, 2} and {3}
abbrev pub user_sets : List ℕ
user_sets = hex "01 03 01 01 01 02 00 01 04 00 00 00 06 00 00 00 00 00 00 00 04 00 00 01 08 00 00 00 00 00 00 00 05 00 00 05 00 01 06 00 00 00 0F"

-- resources 0 and 1 have {1, 2} and {3}
abbrev pub resource_sets : List ℕ
resource_sets = hex "01 01 03 01 01 02 01 01 04 01 00 00 06 00 00 00 00 00 00 00 04 01 00 01 08 00 00 00 00 00 00 00 05 00 00 06 00 00 00 06 00 01 00 0F"

-- ---- role files with weights (request 5)

-- A with four operations, and with a second attribute a side, which a third user and resource have no value of: users 0 and 1 have the sets
-- {1, 2} and {3}, resources 0 and 1 have 3 and 4. So the rule has three elements of users' sets, two values of resources, four operations and an
-- atom
abbrev pub four_sums : List ℕ
four_sums =
    hex "01 03 03 04 02 02 00 00 02 00 01 02 01 00 02 01 00"
    ++ hex "03 00 00 00 05 00 03 00 00 01 07 00 03 00 00 02 05 00 04 00 01 00 06 00 00 00 00 00 00 00 04 00 01 01 08 00 00 00 00 00 00 00"
    ++ hex "03 01 00 00 05 00 03 01 00 01 07 00 03 01 00 02 05 00 03 01 01 00 03 00 03 01 01 01 04 00 05 00 00 05 01 01"
    ++ hex "06 00 00 00 06 00 00 01 06 00 00 02 06 00 00 03 06 01 01 00 06 01 01 01 06 01 01 02 06 01 01 03 0F"

-- ---- role files with domains (request 1): A with 08 in the place of 02

-- domain 3 on both sides
abbrev pub equal_domains : List ℕ
equal_domains = hex "01 02 02 01 02 08 00 00 03 08 01 00 03 03 00 00 00 05 00 03 00 00 01 07 00 03 01 00 00 05 00 03 01 00 01 07 00 05 00 00 05 01 01 06 00 00 00 06 01 01 00 0F"

-- domains 1 and 0, both by 08
abbrev pub user_domain : List ℕ
user_domain = hex "01 02 02 01 02 08 00 00 01 08 01 00 00 03 00 00 00 05 00 03 00 00 01 07 00 03 01 00 00 05 00 03 01 00 01 07 00 05 00 00 05 01 01 06 00 00 00 06 01 01 00 0F"

-- domains 0 by 02 and 1 by 08
abbrev pub resource_domain : List ℕ
resource_domain = hex "01 02 02 01 02 02 00 00 08 01 00 01 03 00 00 00 05 00 03 00 00 01 07 00 03 01 00 00 05 00 03 01 00 01 07 00 05 00 00 05 01 01 06 00 00 00 06 01 01 00 0F"

-- one user, with the value 5 of two attributes, of domains 1 and 2, and one resource with the value 5, of domain 2
abbrev pub two_domains : List ℕ
two_domains = hex "01 01 01 01 01 08 00 00 01 08 00 00 02 08 01 00 02 03 00 00 00 05 00 03 00 01 00 05 00 03 01 00 00 05 00 05 00 00 06 00 00 00 0F"

-- A's rules without an atom: users and resources by their values
abbrev pub rules_by_values : List ℕ
rules_by_values = hex "21 22 00 05 00 24 00 05 00 26 01 00 28 00 01 00 29 00 21 22 00 07 00 24 00 07 00 26 01 00 28 01 01 00 29 00 2F"

-- ---- role files for merging and striking

-- role 0 has resource 0 under operation 0, role 1 both resources under 1, role 2 resource 1 under 0
abbrev pub second_round : List ℕ
second_round = hex "01 01 02 02 03 05 00 00 05 01 00 05 02 00 06 00 00 00 06 01 00 01 06 01 01 01 06 02 01 00 0F"

-- roles 0 to 3 have user and resource 0 0, 0 1, 1 0 and 2 1
abbrev pub first_pair : List ℕ
first_pair = hex "01 03 02 01 04 05 00 00 05 01 00 05 02 01 05 03 02 06 00 00 00 06 01 01 00 06 02 00 00 06 03 01 00 0F"

-- user 0 has 5 for attribute 0 alone, user 1 has 7 for attribute 1 alone, user 2 has none
abbrev pub levels_apart : List ℕ
levels_apart = hex "01 03 01 01 02 02 00 00 02 00 00 03 00 00 00 05 00 03 00 01 01 07 00 05 00 00 05 01 01 06 00 00 00 06 01 00 00 0F"

-- user 0 has 5, users 1 and 2 have no value; role 0 has user 0, role 1 user 1
abbrev pub higher_of_two : List ℕ
higher_of_two = hex "01 03 01 01 02 02 00 00 03 00 00 00 05 00 05 00 00 05 01 01 06 00 00 00 06 01 00 00 0F"

-- user 0 has 5, users 1 and 2 have no value; role 0 has users 0 and 1 and both resources, role 1 user 0 and resource 1
abbrev pub one_below_two : List ℕ
one_below_two = hex "01 03 02 01 02 02 00 00 03 00 00 00 05 00 05 00 00 05 00 01 05 01 00 06 00 00 00 06 00 01 00 06 01 01 00 0F"

-- role 0 has resource 0 under operations 0 and 2, resource 1 under 1; role 1 has all
abbrev pub classes_as_numbers : List ℕ
classes_as_numbers = hex "01 01 02 03 02 05 00 00 05 01 00 06 00 00 00 06 00 00 02 06 00 01 01 06 01 00 00 06 01 00 01 06 01 00 02 06 01 01 00 06 01 01 01 06 01 01 02 0F"

-- A without its role 1
abbrev pub half_of_a : List ℕ
half_of_a = hex "01 02 02 01 01 02 00 00 02 01 00 03 00 00 00 05 00 03 00 00 01 07 00 03 01 00 00 05 00 03 01 00 01 07 00 05 00 00 06 00 00 00 0F"

-- user 0 has the set {1} and the value 5, user 1 the empty set and 7; role 0 has user 0
abbrev pub numbers_before_kinds : List ℕ
numbers_before_kinds = hex "01 02 01 01 01 02 00 01 02 00 00 04 00 00 00 02 00 00 00 00 00 00 00 04 00 00 01 00 00 00 00 00 00 00 00 03 00 01 00 05 00 03 00 01 01 07 00 05 00 00 06 00 00 00 0F"

-- the user has 5 and 7, resource 0 has 7 and 5, resource 1 has 1 twice; role 0 has resource 0
abbrev pub atoms_in_order : List ℕ
atoms_in_order = hex "01 01 02 01 01 02 00 00 02 00 00 02 01 00 02 01 00 03 00 00 00 05 00 03 00 01 00 07 00 03 01 00 00 07 00 03 01 01 00 05 00 03 01 00 01 01 00 03 01 01 01 01 00 05 00 00 06 00 00 00 0F"

-- user 0 in role 0, user 1 in roles 0 and 1, user 2 in none; role 0 has the permission
abbrev pub more_roles : List ℕ
more_roles = hex "01 03 01 01 02 05 00 00 05 00 01 05 01 01 06 00 00 00 0F"

-- ---- role files for the judge

-- user 0 has resource 0 under operation 1 and resource 1 under 0, user 1 resource 0 under 0
abbrev pub three_rights : List ℕ
three_rights = hex "01 02 02 02 02 05 00 00 05 01 01 06 00 00 01 06 00 01 00 06 01 00 00 0F"

-- role 0 has operation 0, role 1 has operation 1
abbrev pub two_operations : List ℕ
two_operations = hex "01 01 01 02 02 05 00 00 05 01 00 06 00 00 00 06 01 00 01 0F"

-- two roles with the same user and permission
abbrev pub twins : List ℕ
twins = hex "01 01 01 01 02 05 00 00 05 01 00 06 00 00 00 06 01 00 00 0F"

-- a single user attribute, a set resource attribute
abbrev pub single_and_set : List ℕ
single_and_set = hex "01 01 01 01 01 02 00 00 02 01 01 05 00 00 06 00 00 00 0F"

-- user attributes single, set, single; resource attributes single, set
abbrev pub both_kinds : List ℕ
both_kinds = hex "01 01 01 01 01 02 00 00 02 00 01 02 00 00 02 01 00 02 01 01 05 00 00 06 00 00 00 0F"

-- ---- role files that are refused, or nearly

-- inherits with each 05, 06 and 07 twice
abbrev pub repeats : List ℕ
repeats = hex "01 01 01 01 02 05 00 00 05 00 00 07 01 00 07 01 00 06 01 00 00 06 01 00 00 0F"

-- 1 user, 2 resources, 3 operations, 4 roles, 5 user attributes and 6 resource attributes, of both kinds, declared by 02 and by 08 (request 7)
abbrev pub six_numbers : List ℕ
six_numbers = hex "01 01 02 03 04 02 00 00 08 00 00 01 02 00 01 08 00 01 02 02 00 00 02 01 00 02 01 00 08 01 00 03 02 01 01 02 01 01 08 01 01 04 0F"

-- ---- the shapes of these role files: the 20 that opens a rule file made for each

abbrev pub for_a : List ℕ
for_a = hex "20 02 02 01 02 01 01"

abbrev pub for_nobody : List ℕ
for_nobody = hex "20 00 00 00 00 00 00"

abbrev pub for_one_of_two : List ℕ
for_one_of_two = hex "20 02 02 01 01 00 00"

abbrev pub for_equal_resources : List ℕ
for_equal_resources = hex "20 01 02 02 01 00 00"

abbrev pub for_set_one_two : List ℕ
for_set_one_two = hex "20 01 01 01 01 01 01"

abbrev pub for_set_between : List ℕ
for_set_between = hex "20 01 02 01 01 01 01"

abbrev pub for_empty_or_unknown : List ℕ
for_empty_or_unknown = hex "20 02 02 01 01 01 01"

abbrev pub for_known_empty : List ℕ
for_known_empty = hex "20 02 01 01 01 01 00"

abbrev pub for_senior_and_junior : List ℕ
for_senior_and_junior = hex "20 02 02 02 02 00 00"

abbrev pub for_no_holder : List ℕ
for_no_holder = hex "20 01 01 01 01 00 00"

abbrev pub for_atom_of_one : List ℕ
for_atom_of_one = hex "20 01 02 01 02 01 01"

abbrev pub for_atom_alone : List ℕ
for_atom_alone = hex "20 01 02 01 02 01 01"

abbrev pub for_above63 : List ℕ
for_above63 = hex "20 01 02 01 01 01 01"

abbrev pub for_four_sums : List ℕ
for_four_sums = hex "20 03 03 04 02 02 02"

abbrev pub for_equal_domains : List ℕ
for_equal_domains = hex "20 02 02 01 02 01 01"

abbrev pub for_user_domain : List ℕ
for_user_domain = hex "20 02 02 01 02 01 01"

abbrev pub for_resource_domain : List ℕ
for_resource_domain = hex "20 02 02 01 02 01 01"

abbrev pub for_two_domains : List ℕ
for_two_domains = hex "20 01 01 01 01 02 01"

abbrev pub for_second_round : List ℕ
for_second_round = hex "20 01 02 02 03 00 00"

abbrev pub for_first_pair : List ℕ
for_first_pair = hex "20 03 02 01 04 00 00"

abbrev pub for_classes_as_numbers : List ℕ
for_classes_as_numbers = hex "20 01 02 03 02 00 00"

abbrev pub for_half_of_a : List ℕ
for_half_of_a = hex "20 02 02 01 01 01 01"

abbrev pub for_numbers_before_kinds : List ℕ
for_numbers_before_kinds = hex "20 02 01 01 01 02 00"

abbrev pub for_atoms_in_order : List ℕ
for_atoms_in_order = hex "20 01 02 01 01 02 02"

abbrev pub for_more_roles : List ℕ
for_more_roles = hex "20 03 01 01 02 00 00"

abbrev pub for_three_rights : List ℕ
for_three_rights = hex "20 02 02 02 02 00 00"

abbrev pub for_two_operations : List ℕ
for_two_operations = hex "20 01 01 02 02 00 00"

abbrev pub for_twins : List ℕ
for_twins = hex "20 01 01 01 02 00 00"

abbrev pub for_single_and_set : List ℕ
for_single_and_set = hex "20 01 01 01 01 01 01"

abbrev pub for_both_kinds : List ℕ
for_both_kinds = hex "20 01 01 01 01 03 02"

abbrev pub for_both_halves : List ℕ
for_both_halves = hex "20 04 04 01 02 02 02"

-- ---- rule files, behind their 20

-- the rules of A
abbrev pub rules_a : List ℕ
rules_a = hex "21 26 01 00 27 00 00 28 00 01 00 28 01 01 00 29 00 2F"

-- no rule
abbrev pub no_rules : List ℕ
no_rules = hex "2F"

-- operation 0, no condition; role 0
abbrev pub anybody : List ℕ
anybody = hex "21 26 01 00 28 00 01 00 29 00 2F"

-- operation 0, the atom of attributes 0 and 0; role 0
abbrev pub atom_rule : List ℕ
atom_rule = hex "21 26 01 00 27 00 00 28 00 01 00 29 00 2F"

-- a user conjunct {{1}}
abbrev pub user_set_one : List ℕ
user_set_one = hex "21 23 00 02 00 00 00 00 00 00 00 26 01 00 28 00 01 00 29 00 2F"

-- a resource conjunct {{1}}
abbrev pub resource_set_one : List ℕ
resource_set_one = hex "21 25 00 02 00 00 00 00 00 00 00 26 01 00 28 00 01 00 29 00 2F"

-- a resource conjunct {{1, 2}}
abbrev pub resource_set_one_two : List ℕ
resource_set_one_two = hex "21 25 00 06 00 00 00 00 00 00 00 26 01 00 28 00 01 00 29 00 2F"

-- a user conjunct {{}}
abbrev pub user_set_empty : List ℕ
user_set_empty = hex "21 23 00 00 00 00 00 00 00 00 00 26 01 00 28 00 01 00 29 00 2F"

-- a resource conjunct {{}}
abbrev pub resource_set_empty : List ℕ
resource_set_empty = hex "21 25 00 00 00 00 00 00 00 00 00 26 01 00 28 00 01 00 29 00 2F"

-- beside bothKinds: a value of each attribute, and the three forms of atom
abbrev pub every_kind : List ℕ
every_kind = hex "21 22 00 05 00 22 02 05 00 23 01 05 00 00 00 00 00 00 00 24 00 05 00 25 01 05 00 00 00 00 00 00 00 26 01 00 27 00 00 27 01 00 27 01 01 28 00 01 00 29 00 2F"

-- lists role 0 with operation 1
abbrev pub operation1_of_role0 : List ℕ
operation1_of_role0 = hex "21 26 02 00 28 00 02 00 29 00 2F"

-- lists role 1 with operation 1
abbrev pub operation1_of_role1 : List ℕ
operation1_of_role1 = hex "21 26 02 00 28 01 02 00 29 00 2F"

-- lists role 0 with operation 1, and role 1 with 0, 1 and 2
abbrev pub not_first_part : List ℕ
not_first_part = hex "21 26 07 00 28 00 02 00 28 01 07 00 29 00 2F"

-- a rule for each of two operations, each with its role
abbrev pub each_its_own : List ℕ
each_its_own = hex "21 26 01 00 28 00 01 00 29 00 21 26 02 00 28 01 02 00 29 00 2F"

-- grants operation 0, lists role 1 with operation 1
abbrev pub wrong_operation : List ℕ
wrong_operation = hex "21 26 01 00 28 01 02 00 29 00 2F"

-- grants operations 0 and 1, lists role 0 with operation 0
abbrev pub first_too_wide : List ℕ
first_too_wide = hex "21 26 03 00 28 00 01 00 29 00 2F"

-- the second of two rules grants both operations
abbrev pub second_too_wide : List ℕ
second_too_wide = hex "21 26 01 00 28 00 01 00 29 00 21 26 03 00 28 01 02 00 29 00 2F"

-- role 1 with operation 1 stands under two rules
abbrev pub listed_twice : List ℕ
listed_twice = hex "21 26 01 00 28 00 01 00 29 00 21 26 02 00 28 01 02 00 29 00 21 26 02 00 28 01 02 00 29 00 2F"

-- ---- rule files of which one rule is shown, beside A (request 2)

-- users by the values 0x2121 and 0x2F2F
abbrev pub marks_among_operands : List ℕ
marks_among_operands = hex "21 22 00 21 21 26 01 00 28 00 01 00 29 00 21 22 00 2F 2F 26 01 00 28 01 01 00 29 00 2F"

-- the second of two rules has no part
abbrev pub broken_behind : List ℕ
broken_behind = hex "21 26 01 00 28 00 01 00 29 00 21 26 01 00 29 00 2F"

-- ---- rule files that are mined

-- of atomOfOne: no atom
abbrev pub two_parts : List ℕ
two_parts = hex "21 26 01 00 28 00 01 00 28 01 01 00 29 00 2F"

-- of secondRound: all three parts under one rule
abbrev pub three_parts : List ℕ
three_parts = hex "21 26 03 00 28 00 01 00 28 01 02 00 28 02 01 00 29 00 2F"

-- of firstPair: parts 0 and 1 under one rule, parts 2 and 3 under one each
abbrev pub first_two_parts : List ℕ
first_two_parts = hex "21 23 FF 03 00 00 00 00 00 00 00 26 01 00 28 00 01 00 28 01 01 00 29 01 21 23 FF 04 00 00 00 00 00 00 00 24 FF 00 00 26 01 00 28 02 01 00 29 03 21 23 FF 08 00 00 00 00 00 00 00 24 FF 01 00 26 01 00 28 03 01 00 29 03 2F"

-- of classesAsNumbers: class 2 before class 5
abbrev pub ascending_classes : List ℕ
ascending_classes = hex "21 26 07 00 28 00 02 00 28 00 05 00 28 01 07 00 29 00 2F"

-- of halfOfA: a resource conjunct {5} and the atom
abbrev pub resource_and_atom : List ℕ
resource_and_atom = hex "21 24 00 05 00 26 01 00 27 00 00 28 00 01 00 29 00 2F"

-- of numbersBeforeKinds: a user conjunct {5} of attribute 1
abbrev pub value_of_second : List ℕ
value_of_second = hex "21 22 01 05 00 26 01 00 28 00 01 00 29 00 2F"

-- of atomsInOrder: the atom of user attribute 1 and resource attribute 0
abbrev pub last_atom : List ℕ
last_atom = hex "21 26 01 00 27 01 00 28 00 01 00 29 00 2F"

-- of moreRoles: a user conjunct {{0}} of 255
abbrev pub smallest_roles : List ℕ
smallest_roles = hex "21 23 FF 01 00 00 00 00 00 00 00 26 01 00 28 00 01 00 29 01 2F"

-- ---- role files with circles (request 3)

-- role 3 its own senior, and roles 0 and 1 each the other's
abbrev pub own_senior : List ℕ
own_senior = hex "01 00 00 00 04 07 03 03 07 00 01 07 01 00 0F"

-- roles 0, 1 and 2 in a circle, and roles 3 and 4
abbrev pub short_behind_long : List ℕ
short_behind_long = hex "01 00 00 00 05 07 00 01 07 01 02 07 02 00 07 03 04 07 04 03 0F"

-- role 0 is the junior of 2, 2 of 1, and 1 of 0
abbrev pub three_roles : List ℕ
three_roles = hex "01 00 00 00 03 07 02 01 07 01 00 07 00 02 0F"

-- two circles of two, of roles 2 and 4 and of roles 1 and 3, and one of 0, 1 and 2
abbrev pub two_circles : List ℕ
two_circles = hex "01 00 00 00 05 07 04 02 07 02 04 07 01 03 07 03 01 07 00 01 07 01 02 07 02 00 0F"

-- ---- a standing summary (request 8)

-- user 0 is in role 0, which is senior to role 1, and user 1 in role 2; role 1 may do operation 1 on both resources, role 2 operation 0 on
-- resource 1
abbrev pub three_desks : List ℕ
three_desks = hex "01 02 02 02 03 05 00 00 05 02 01 07 01 00 06 01 00 01 06 01 01 01 06 02 01 00 0F"

-- ---- satisfaction (request 4)

-- users 0 to 3 have 5 and {1, 2}, 5 and {2}, 7 and {1, 2}, nothing; resources 0 to 3 have 5 and {1}, 5 and {1, 2}, 7 and {1}, nothing;
-- user 0 is in role 0, user 1 in role 1
abbrev pub both_halves : List ℕ
both_halves = hex "01 04 04 01 02 02 00 00 02 00 01 02 01 00 02 01 01 03 00 00 00 05 00 04 00 01 00 06 00 00 00 00 00 00 00 03 00 00 01 05 00 04 00 01 01 04 00 00 00 00 00 00 00 03 00 00 02 07 00 04 00 01 02 06 00 00 00 00 00 00 00 03 01 00 00 05 00 04 01 01 00 02 00 00 00 00 00 00 00 03 01 00 01 05 00 04 01 01 01 06 00 00 00 00 00 00 00 03 01 00 02 07 00 04 01 01 02 02 00 00 00 00 00 00 00 05 00 00 05 01 01 06 00 00 00 0F"

-- user conjuncts {5} and {{1}}, resource conjuncts {5} and {{1}}
abbrev pub asks_both : List ℕ
asks_both = hex "21 22 00 05 00 23 01 02 00 00 00 00 00 00 00 24 00 05 00 25 01 02 00 00 00 00 00 00 00 26 01 00 28 00 01 00 29 00 2F"

-- user conjuncts {5, 7} and {{1}, {2}}
abbrev pub asks_one_of_two : List ℕ
asks_one_of_two = hex "21 22 00 05 00 22 00 07 00 23 01 02 00 00 00 00 00 00 00 23 01 04 00 00 00 00 00 00 00 26 01 00 28 00 01 00 29 00 2F"

-- a user conjunct {{0}} and a resource conjunct {0}, both of 255
abbrev pub asks255 : List ℕ
asks255 = hex "21 23 FF 01 00 00 00 00 00 00 00 24 FF 00 00 26 01 00 28 00 01 00 29 03 2F"

-- ---- usage logs

-- beside A: denied, granted, denied, denied, granted, denied
abbrev pub six_records : List ℕ
six_records = hex "00 01 00 00 00 00 01 00 00 00 01 00 01 01 00 00 01 00"

-- one record of A is granted by the roles, and by its rules
abbrev pub granted_record : List ℕ
granted_record = hex "00 00 00"

-- 2 users, 3 resources, 4 operations: role 0 has user 1, and resource 2 with operation 3
abbrev pub three_sizes : List ℕ
three_sizes = hex "01 02 03 04 01 05 00 01 06 00 02 03 0F"

-- its one rule: resource 2 with operation 3, for users who hold role 0
abbrev pub one_triple : List ℕ
one_triple = hex "20 02 03 04 01 00 00 21 23 FF 01 00 00 00 00 00 00 00 24 FF 02 00 26 08 00 28 00 08 00 29 03 2F"

-- ---- mining with cuts (request 11)

-- three roles of a part each: user 0 has roles 0 and 1, user 1 role 2; role 0 has resource 0, the others resource 1.
-- Roles 0 and 1 make one rule at level 1, roles 1 and 2 one at level 2, and the three none
abbrev pub either_pair : List ℕ
either_pair = hex "01 02 02 01 03 05 00 00 05 01 00 05 02 01 06 00 00 00 06 01 01 00 06 02 01 00 0F"

abbrev pub for_either_pair : List ℕ
for_either_pair = hex "20 02 02 01 03 00 00"

-- the ordinary file: roles 0 and 1 under one rule, and role 2 alone
abbrev pub first_two : List ℕ
first_two = for_either_pair ++ hex "21 23 FF 03 00 00 00 00 00 00 00 26 01 00 28 00 01 00 28 01 01 00 29 01 21 23 FF 04 00 00 00 00 00 00 00 24 FF 01 00 26 01 00 28 02 01 00 29 03 2F"

-- role 0 alone, and roles 1 and 2 under one rule
abbrev pub last_two : List ℕ
last_two = for_either_pair ++ hex "21 23 FF 03 00 00 00 00 00 00 00 24 FF 00 00 26 01 00 28 00 01 00 29 03 21 24 FF 01 00 26 01 00 28 01 01 00 28 02 01 00 29 02 2F"

-- three roles that grant the same, so that all make one rule
abbrev pub three_alike : List ℕ
three_alike = hex "01 01 01 01 03 05 00 00 05 01 00 05 02 00 06 00 00 00 06 01 00 00 06 02 00 00 0F"

-- ---- new staff numbers (request 12)

-- user 1 holds role 0, users 0 and 2 hold role 1; users have a single attribute and a set that user 2 alone knows; of the resources one knows a single
-- attribute, the other a set
abbrev pub staff : List ℕ
staff = hex "01 04 02 01 02 02 00 00 02 00 01 02 01 00 02 01 01 03 00 00 00 09 00 03 00 00 01 08 00 03 00 00 02 07 00 03 00 00 03 08 00 04 00 01 02 03 00 00 00 00 00 00 00 03 01 00 01 05 00 04 01 01 00 03 00 00 00 00 00 00 00 05 00 01 05 01 00 05 01 02 06 00 01 00 06 01 00 00 0F"

-- each of four users gets the next number, the last one the first
abbrev pub moved : List ℕ → List ℕ
moved = renumber (λ u. cond (eqb u 3) 0 (suc u))

-- `eitherPair`, whose two users get each other's number
abbrev pub swapped : List ℕ
swapped = renumber (λ u. cond (eqb u 0) 1 0) either_pair

-- ---- the table: its rows, by the file that is called `nobody`. ExamplesLaws hands them that file, so that a text misspelt in it is
-- refused where the table is proved.

abbrev pub rows : List ℕ → List Row
rows nobody =
    -- ---- A
    -- "parts 2 rules 1 merges 1 cost 2"; with request 9 "Example A then is 25 bytes long": output of 24 bytes 9, of 25 accepted
    row "A: 25 bytes, 2 parts, 1 rule, 1 merge, cost 2" (mining file_a 4096 25) (0 ∷ 25 ∷ 2 ∷ 1 ∷ 1 ∷ 2 ∷ [])
    ∷ row "A: output of 24 bytes" (mining file_a 4096 24) (9 ∷ [])
    -- "Rules: 21 26 01 00 27 00 00 28 00 01 00 28 01 01 00 2F.", behind the 20 and with the 29; on a refusal "Output is untouched."
    ∷ row "A: its rules" (output file_a 25) (for_a ++ rules_a)
    ∷ row "A: bytes behind the rules stay" (output file_a 29) (for_a ++ rules_a ++ memory 4)
    ∷ row "A: output of 24 bytes is untouched" (output file_a 24) (memory 24)
    -- "8 scratch below 4,096 words of 64 bits; then 1 to 7; then 9 output shorter than the rule file"; by request 13 "2,048 words of scratch and up,
    -- and 8 is given below that"
    ∷ row "A: scratch of 2,047 words" (mining file_a 2047 25) (8 ∷ [])
    ∷ row "A: scratch of 2,048 words" (mining file_a 2048 25) (0 ∷ 25 ∷ 2 ∷ 1 ∷ 1 ∷ 2 ∷ [])
    ∷ row "A: scratch of 2,049 words" (mining file_a 2049 25) (0 ∷ 25 ∷ 2 ∷ 1 ∷ 1 ∷ 2 ∷ [])
    ∷ row "A: its rules, by 2,048 words" (mine_output 2 file_a [] 2048 (memory 25)) (for_a ++ rules_a)
    ∷ row "A: output by 2,047 words is untouched" (mine_output 2 file_a [] 2047 (memory 25)) (memory 25)
    ∷ row "8 before 2" (mining [] 2047 0) (8 ∷ [])
    ∷ row "8 before 1" (mining (memory 65536) 2047 0) (8 ∷ [])
    ∷ row "7 before 9" (mining role_twice 4096 0) (7 ∷ [])
    -- "Demand 3 speaks of the mined bytes ... read like any rule file beside their role file": sound, and of level 0
    ∷ row "A: its rules are sound" (judging file_a (output file_a 25)) (0 ∷ 0 ∷ [])
    ∷ row "A: its rule has level 0" (levels file_a (output file_a 25)) (0 ∷ 0 ∷ [])
    -- ---- the smallest files
    -- "01 00 00 00 00 0F: rules 2F, length 1, all counts and the cost 0", the seven bytes of the 20 not counted
    ∷ row "nobody: length 8, all counts 0" (mining nobody 4096 8) (0 ∷ 8 ∷ 0 ∷ 0 ∷ 0 ∷ 0 ∷ [])
    ∷ row "nobody: rules 2F" (output nobody 8) (for_nobody ++ no_rules)
    -- "Empty file: 2."; "0F: 4."
    ∷ row "empty role file" (reading []) (2 ∷ [])
    ∷ row "0F alone" (reading (hex "0F")) (4 ∷ [])
    -- ---- levels and cost
    -- "No attributes, two users, two resources, one operation, role 0 with user 0 and resource 0: level 3, cost 3."
    ∷ row "one of two users and resources: level 3" (levels one_of_two (output one_of_two 32)) (0 ∷ 3 ∷ [])
    ∷ row "one of two users and resources: cost 3" (mining one_of_two 4096 32) (0 ∷ 32 ∷ 1 ∷ 1 ∷ 0 ∷ 3 ∷ [])
    -- "values in single conjuncts", on each side
    ∷ row "cost: values of a user conjunct" (mining user_values 4096 26) (0 ∷ 26 ∷ 1 ∷ 1 ∷ 0 ∷ 3 ∷ [])
    ∷ row "cost: values of a resource conjunct" (mining resource_values 4096 26) (0 ∷ 26 ∷ 1 ∷ 1 ∷ 0 ∷ 3 ∷ [])
    -- "elements over all sets in set conjuncts", on each side: two and one, and one operation
    ∷ row "cost: elements of user sets" (mining user_sets 4096 38) (0 ∷ 38 ∷ 1 ∷ 1 ∷ 0 ∷ 4 ∷ [])
    ∷ row "cost: elements of resource sets" (mining resource_sets 4096 38) (0 ∷ 38 ∷ 1 ∷ 1 ∷ 0 ∷ 4 ∷ [])
    -- ---- holders
    -- "User 0 in role 0 without permissions, senior to role 1: user 0 has role 1's permissions."
    ∷ row "a senior without permissions has its junior's" (role_answer inherits 0 0 0) (0 ∷ 1 ∷ [])
    ∷ row "the junior's part is held by the senior's user" (mining inherits 4096 18) (0 ∷ 18 ∷ 1 ∷ 1 ∷ 0 ∷ 1 ∷ [])
    -- "07 junior role, senior role": with the two exchanged user 0 has none
    ∷ row "a junior has none of its senior's" (role_answer inherits_not 0 0 0) (0 ∷ 0 ∷ [])
    -- "A role's seniors are all roles reached by one or more 07 steps."
    ∷ row "seniors by two 07 steps" (role_answer (hex "01 01 01 01 03 05 00 00 07 02 01 07 01 00 06 02 00 00 0F") 0 0 0) (0 ∷ 1 ∷ [])
    -- "each class of a role with a holder is a part"
    ∷ row "no holder, no part" (mining no_holder 4096 8) (0 ∷ 8 ∷ 0 ∷ 0 ∷ 0 ∷ 0 ∷ [])
    -- ---- parts
    -- "One role with a holder, resource 0 under operations 0 and 1, resource 1 under 1: two parts."; "Equal resources: one."
    ∷ row "unequal resources: two parts" (mining unequal_resources 4096 32) (0 ∷ 32 ∷ 2 ∷ 2 ∷ 0 ∷ 3 ∷ [])
    ∷ row "equal resources: one part" (mining equal_resources 4096 18) (0 ∷ 18 ∷ 1 ∷ 1 ∷ 0 ∷ 2 ∷ [])
    -- ---- sets
    -- "User set {1, 2} meets conjunct {{1}}; a resource set {1, 2} does not."
    ∷ row "user set {1, 2} meets {{1}}" (rule_answer set_one_two (for_set_one_two ++ user_set_one) 0 0 0) (0 ∷ 1 ∷ [])
    ∷ row "resource set {1, 2} does not meet {{1}}" (rule_answer set_one_two (for_set_one_two ++ resource_set_one) 0 0 0) (0 ∷ 0 ∷ [])
    ∷ row "resource set {1, 2} meets {{1, 2}}" (rule_answer set_one_two (for_set_one_two ++ resource_set_one_two) 0 0 0) (0 ∷ 1 ∷ [])
    -- "set contains set": the user's set the resource's, not the other way round
    ∷ row "user set {1, 2} contains resource set {1}" (rule_answer set_between (for_set_between ++ atom_rule) 0 0 0) (0 ∷ 1 ∷ [])
    ∷ row "user set {1, 2} does not contain resource set {1, 2, 3}" (rule_answer set_between (for_set_between ++ atom_rule) 0 1 0) (0 ∷ 0 ∷ [])
    -- "set contains single (a value above 63 never is contained)"
    ∷ row "a full user set contains 63" (rule_answer above63 (for_above63 ++ atom_rule) 0 0 0) (0 ∷ 1 ∷ [])
    ∷ row "a full user set does not contain 64" (rule_answer above63 (for_above63 ++ atom_rule) 0 1 0) (0 ∷ 0 ∷ [])
    -- ---- circles and limits
    -- "07 with one role twice: 7."
    ∷ row "07 with one role twice" (reading role_twice) (7 ∷ [])
    -- "A role's seniors are all roles reached by one or more 07 steps."
    ∷ row "a circle of two roles" (reading (hex "01 00 00 00 02 07 00 01 07 01 00 0F")) (7 ∷ [])
    -- "64 users pass, 65 give 5."
    ∷ row "64 users, 64 resources, 16 operations" (reading (hex "01 40 40 10 00 0F")) (0 ∷ 64 ∷ 64 ∷ 16 ∷ 0 ∷ [])
    ∷ row "65 users" (reading (hex "01 41 00 00 00 0F")) (5 ∷ [])
    -- "at most 64, 64, 16, 32"
    ∷ row "65 resources" (reading (hex "01 00 41 00 00 0F")) (5 ∷ [])
    ∷ row "17 operations" (reading (hex "01 00 00 11 00 0F")) (5 ∷ [])
    ∷ row "33 roles" (reading (hex "01 00 00 00 21 0F")) (5 ∷ [])
    ∷ row "32 roles, and no 0F" (reading (hex "01 00 00 00 20")) (2 ∷ [])
    -- ---- "Tempting: taking an unknown set for the empty one"
    -- "An unknown value satisfies no conjunct and no atom."
    ∷ row "user conjunct {{}}: a user with the empty set" (rule_answer empty_or_unknown (for_empty_or_unknown ++ user_set_empty) 0 0 0) (0 ∷ 1 ∷ [])
    ∷ row "user conjunct {{}}: a user with an unknown set" (rule_answer empty_or_unknown (for_empty_or_unknown ++ user_set_empty) 1 0 0) (0 ∷ 0 ∷ [])
    ∷ row "resource conjunct {{}}: a resource with the empty set" (rule_answer empty_or_unknown (for_empty_or_unknown ++ resource_set_empty) 0 0 0) (0 ∷ 1 ∷ [])
    ∷ row "resource conjunct {{}}: a resource with an unknown set" (rule_answer empty_or_unknown (for_empty_or_unknown ++ resource_set_empty) 0 1 0) (0 ∷ 0 ∷ [])
    ∷ row "atom: both sets empty" (rule_answer empty_or_unknown (for_empty_or_unknown ++ atom_rule) 0 0 0) (0 ∷ 1 ∷ [])
    ∷ row "atom: the user's set unknown" (rule_answer empty_or_unknown (for_empty_or_unknown ++ atom_rule) 1 0 0) (0 ∷ 0 ∷ [])
    ∷ row "atom: the resource's set unknown" (rule_answer empty_or_unknown (for_empty_or_unknown ++ atom_rule) 0 1 0) (0 ∷ 0 ∷ [])
    -- "the empty set is a known value": the conjunct {{}} keeps user 1 out, and costs nothing
    ∷ row "the empty set is mined as a conjunct" (output known_empty 28) (for_known_empty ++ user_set_empty)
    ∷ row "the empty set costs nothing" (mining known_empty 4096 28) (0 ∷ 28 ∷ 1 ∷ 1 ∷ 0 ∷ 1 ∷ [])
    -- ---- "adding inherited permissions to a block"
    -- "inherited permissions never enter a block": two parts, not three
    ∷ row "senior and junior: two parts" (mining senior_and_junior 4096 46) (0 ∷ 46 ∷ 2 ∷ 2 ∷ 0 ∷ 6 ∷ [])
    -- "no part of that file": a rule may list the operation under the junior role only
    ∷ row "the junior's operation is no part of the senior" (judging senior_and_junior (for_senior_and_junior ++ operation1_of_role0)) (13 ∷ [])
    ∷ row "the junior's operation is a part of the junior" (rule_answer senior_and_junior (for_senior_and_junior ++ operation1_of_role1) 0 0 1) (0 ∷ 1 ∷ [])
    -- ---- "keeping an atom in a merge because one of two groups had it"
    -- "each atom true of every user and resource that share a triple of B": role 0 alone has one, both together none
    ∷ row "one role alone is mined with the atom" (output atom_alone 21) (for_atom_alone ++ atom_rule)
    ∷ row "two roles merged are mined without it" (output atom_of_one 22) (for_atom_of_one ++ two_parts)
    ∷ row "two roles merged: one rule, cost 1" (mining atom_of_one 4096 22) (0 ∷ 22 ∷ 2 ∷ 1 ∷ 1 ∷ 1 ∷ [])
    ∷ row "two roles merged: sound" (judging atom_of_one (output atom_of_one 22)) (0 ∷ 0 ∷ [])
    -- with the atom kept, resource 1 is lost
    ∷ row "two roles merged with the atom kept: resource 1 is lost" (judging atom_of_one (for_atom_of_one ++ rules_a)) (0 ∷ 1 ∷ 0 ∷ 1 ∷ 0 ∷ [])
    -- ---- merging
    -- "the search then begins afresh": part 1 merges with neither part 0 nor part 2, but with both together; one round leaves two rules
    ∷ row "search begun afresh: 2 merges" (mining second_round 4096 26) (0 ∷ 26 ∷ 3 ∷ 1 ∷ 2 ∷ 2 ∷ [])
    ∷ row "search begun afresh: one rule for three parts" (output second_round 26) (for_second_round ++ three_parts)
    -- "The first pair, earlier group first, then the other": parts 0 and 1, not 0 and 2 or 1 and 3
    ∷ row "first pair: parts 0 and 1" (output first_pair 80) (for_first_pair ++ first_two_parts)
    ∷ row "first pair: 1 merge" (mining first_pair 4096 80) (0 ∷ 80 ∷ 4 ∷ 3 ∷ 1 ∷ 9 ∷ [])
    ∷ row "first pair: levels 1, 3, 3" (levels first_pair (output first_pair 80)) (0 ∷ 1 ∷ 3 ∷ 3 ∷ [])
    -- "whose union fits a level no higher than the higher of the two": both are of level 0, their union of 1
    ∷ row "levels 0 and 0, union 1: no merge" (mining levels_apart 4096 36) (0 ∷ 36 ∷ 2 ∷ 2 ∷ 0 ∷ 4 ∷ [])
    -- of levels 0 and 1, their union of 1
    ∷ row "levels 0 and 1, union 1: a merge" (mining higher_of_two 4096 42) (0 ∷ 42 ∷ 2 ∷ 1 ∷ 1 ∷ 3 ∷ [])
    -- of levels 1 and 2; their union fits 1, but not 2
    ∷ row "levels 1 and 2, union 1: a merge" (mining one_below_two 4096 32) (0 ∷ 32 ∷ 2 ∷ 1 ∷ 1 ∷ 2 ∷ [])
    ∷ row "levels 1 and 2, union 1: the rule has level 1" (levels one_below_two (output one_below_two 32)) (0 ∷ 1 ∷ [])
    -- "commands ascend strictly by command byte, then operands as numbers": class {1} is 2, class {0, 2} is 5
    ∷ row "classes are written ascending as numbers" (output classes_as_numbers 26) (for_classes_as_numbers ++ ascending_classes)
    -- "Parts are ordered by role, then lowest operation.": class {0, 2} is part 0
    ∷ row "parts are ordered by lowest operation" (judging classes_as_numbers (for_classes_as_numbers ++ not_first_part)) (0 ∷ 3 ∷ 0 ∷ [])
    -- ---- striking
    -- "conjuncts, users' first, ... and then atoms": any one of the three could go, and it is the user conjunct
    ∷ row "struck first: a user conjunct" (output half_of_a 25) (for_half_of_a ++ resource_and_atom)
    -- "each side by attribute number": the set of attribute 0 goes before the value of attribute 1
    ∷ row "struck first: attribute 0 of two" (output numbers_before_kinds 22) (for_numbers_before_kinds ++ value_of_second)
    -- "atoms by user and resource attribute": 0 and 1 before 1 and 0
    ∷ row "struck first: atom 0 1 of two" (output atoms_in_order 21) (for_atoms_in_order ++ last_atom)
    -- "each set that strictly contains another listed set goes": {0, 1} beside {0}
    ∷ row "a set that contains another goes" (output more_roles 28) (for_more_roles ++ smallest_roles)
    -- ---- the questions
    -- "whether the roles grant a given triple, yes or no: 1 to 7, then 5 for a number beyond the sizes"
    ∷ row "role question: yes" (role_answer file_a 1 1 0) (0 ∷ 1 ∷ [])
    ∷ row "role question: no" (role_answer file_a 0 1 0) (0 ∷ 0 ∷ [])
    ∷ row "role question: a user beyond" (role_answer file_a 2 0 0) (5 ∷ [])
    ∷ row "role question: 7 before 5" (role_answer role_twice 2 0 0) (7 ∷ [])
    -- "whether some rule grants it: 1 to 7; then the rule file by command ...; then 5"
    ∷ row "rule question: yes" (rule_answer file_a (for_a ++ rules_a) 1 1 0) (0 ∷ 1 ∷ [])
    ∷ row "rule question: no" (rule_answer file_a (for_a ++ rules_a) 0 1 0) (0 ∷ 0 ∷ [])
    ∷ row "rule question: a resource beyond" (rule_answer file_a (for_a ++ rules_a) 0 2 0) (5 ∷ [])
    ∷ row "rule question: 10 before 5" (rule_answer file_a [] 0 2 0) (10 ∷ [])
    ∷ row "rule question: 7 before 10" (rule_answer role_twice [] 0 2 0) (7 ∷ [])
    -- ---- the judge
    -- "1 and the first triple, by user, then resource, then operation, where roles and rules differ"
    ∷ row "verdict 1: user 0 before user 1, resource 0 before 1" (judging three_rights (for_three_rights ++ no_rules)) (0 ∷ 1 ∷ 0 ∷ 0 ∷ 1 ∷ [])
    ∷ row "verdict 1: rules grant less" (judging three_rights (for_three_rights ++ operation1_of_role0)) (0 ∷ 1 ∷ 0 ∷ 1 ∷ 0 ∷ [])
    ∷ row "verdict 1: rules grant more" (judging one_of_two (for_one_of_two ++ anybody)) (0 ∷ 1 ∷ 0 ∷ 1 ∷ 0 ∷ [])
    -- 1 before 2 and 3, which this rule file has too
    ∷ row "verdict 1 before 2 and 3" (judging two_operations (for_two_operations ++ wrong_operation)) (0 ∷ 1 ∷ 0 ∷ 0 ∷ 1 ∷ [])
    -- "else 2 and the first rule, numbered from 0, that grants other than its parts"
    ∷ row "verdict 2: rule 0" (judging two_operations (for_two_operations ++ first_too_wide)) (0 ∷ 2 ∷ 0 ∷ [])
    ∷ row "verdict 2: rule 1" (judging two_operations (for_two_operations ++ second_too_wide)) (0 ∷ 2 ∷ 1 ∷ [])
    -- "else 3 and the first part, numbered from 0 in the order of parts, under no rule or several"
    ∷ row "verdict 3: a part under no rule" (judging twins (for_twins ++ anybody)) (0 ∷ 3 ∷ 1 ∷ [])
    ∷ row "verdict 3: a part under two rules" (judging two_operations (for_two_operations ++ listed_twice)) (0 ∷ 3 ∷ 1 ∷ [])
    -- "else 0"
    ∷ row "verdict 0" (judging two_operations (for_two_operations ++ each_its_own)) (0 ∷ 0 ∷ [])
    -- ---- refusals of a role file, by command
    -- "1 too long. Then by command"
    ∷ row "65,536 bytes" (reading (memory 65536)) (1 ∷ [])
    ∷ row "65,535 bytes" (reading (memory 65535)) (3 ∷ [])
    -- "2 the file ends inside operands ...; 4 out of place"
    ∷ row "2 before 4: 05 first, and cut off" (reading (hex "05")) (2 ∷ [])
    ∷ row "05 first" (reading (hex "05 00 00")) (4 ∷ [])
    -- "2 the file ends inside operands ...; 5 an operand beyond its limit"
    ∷ row "2 before 5: sizes beyond, and cut off" (reading (hex "01 FF FF FF")) (2 ∷ [])
    -- "4 a byte after the end; 3 unknown command", and 7 "Last, where no command was refused"
    ∷ row "4 before 3: an unknown byte after the end" (reading (hex "01 00 00 00 00 0F 10")) (4 ∷ [])
    ∷ row "4 before 7: a circle, and a byte after the end" (reading (hex "01 00 00 00 01 07 00 00 0F 10")) (4 ∷ [])
    -- "3 unknown command; ... 4 out of place"; "by command": the first that is refused decides
    ∷ row "3 before 4: an unknown command first" (reading (hex "10")) (3 ∷ [])
    ∷ row "by command: 65 users, then an unknown command" (reading (hex "01 41 00 00 00 10")) (5 ∷ [])
    -- "2 the file ends ... before 0F": seen behind the last command, and before 7
    ∷ row "by command: 65 users, and no 0F" (reading (hex "01 41 00 00 00")) (5 ∷ [])
    ∷ row "2 before 7: a circle, and no 0F" (reading (hex "01 00 00 00 01 07 00 00")) (2 ∷ [])
    -- "First, and only once."; "Only after 01 or another 02."
    ∷ row "4 before 5: 01 again, with sizes beyond" (reading (hex "01 00 00 00 00 01 FF FF FF FF")) (4 ∷ [])
    ∷ row "02 behind 05" (reading (hex "01 01 00 00 01 05 00 00 02 00 00 0F")) (4 ∷ [])
    -- "Side 0 user, 1 resource; kind 0 single, 1 set."
    ∷ row "02: side 2" (reading (hex "01 00 00 00 00 02 02 00 0F")) (5 ∷ [])
    ∷ row "02: kind 2" (reading (hex "01 00 00 00 00 02 00 02 0F")) (5 ∷ [])
    -- "at most 6 a side"
    ∷ row "six user attributes and one of resources" (reading (hex "01 00 00 00 00 02 00 00 02 00 00 02 00 00 02 00 00 02 00 00 02 00 00 02 01 00 0F")) (0 ∷ 0 ∷ 0 ∷ 0 ∷ 0 ∷ [])
    ∷ row "seven user attributes" (reading (hex "01 00 00 00 00 02 00 00 02 00 00 02 00 00 02 00 00 02 00 00 02 00 00 02 00 00 0F")) (5 ∷ [])
    -- "Who is a user or resource number by side."
    ∷ row "03: the second of two users" (reading (hex "01 02 01 00 00 02 00 00 02 01 00 03 00 00 01 05 00 0F")) (0 ∷ 2 ∷ 1 ∷ 0 ∷ 0 ∷ [])
    ∷ row "03: the second of one resource" (reading (hex "01 02 01 00 00 02 00 00 02 01 00 03 01 00 01 05 00 0F")) (5 ∷ [])
    -- "5 an operand beyond its limit or declared size ...; 6 wrong kind, or a value given twice"
    ∷ row "03: side 2" (reading (hex "01 01 01 00 00 02 00 00 02 01 00 03 02 00 00 05 00 0F")) (5 ∷ [])
    ∷ row "03: an undeclared attribute" (reading (hex "01 01 00 00 00 02 00 00 03 00 01 00 05 00 0F")) (5 ∷ [])
    ∷ row "5 before 6: 03 for a set and a user beyond" (reading (hex "01 01 00 00 00 02 00 01 03 00 00 01 05 00 0F")) (5 ∷ [])
    ∷ row "5 before 6: 04 for an undeclared attribute" (reading (hex "01 01 00 00 00 02 00 00 04 00 01 00 05 00 00 00 00 00 00 00 0F")) (5 ∷ [])
    ∷ row "03 for a set" (reading (hex "01 01 00 00 00 02 00 01 03 00 00 00 05 00 0F")) (6 ∷ [])
    ∷ row "04 for a single" (reading (hex "01 01 00 00 00 02 00 00 04 00 00 00 05 00 00 00 00 00 00 00 0F")) (6 ∷ [])
    ∷ row "03: a value given twice" (reading (hex "01 01 00 00 00 02 00 00 03 00 00 00 05 00 03 00 00 00 05 00 0F")) (6 ∷ [])
    ∷ row "04: a value given twice" (reading (hex "01 01 00 00 00 02 00 01 04 00 00 00 05 00 00 00 00 00 00 00 04 00 00 00 05 00 00 00 00 00 00 00 0F")) (6 ∷ [])
    -- one user, two resources, three operations, four roles: the last of each, and the one behind it
    ∷ row "05 to 07: the last of each" (reading (hex "01 01 02 03 04 05 03 00 06 03 01 02 07 03 02 07 01 03 0F")) (0 ∷ 1 ∷ 2 ∷ 3 ∷ 4 ∷ [])
    ∷ row "05: a role beyond" (reading (hex "01 01 02 03 04 05 04 00 0F")) (5 ∷ [])
    ∷ row "05: a user beyond" (reading (hex "01 01 02 03 04 05 00 01 0F")) (5 ∷ [])
    ∷ row "06: a role beyond" (reading (hex "01 01 02 03 04 06 04 00 00 0F")) (5 ∷ [])
    ∷ row "06: a resource beyond" (reading (hex "01 01 02 03 04 06 00 02 00 0F")) (5 ∷ [])
    ∷ row "06: an operation beyond" (reading (hex "01 01 02 03 04 06 00 00 03 0F")) (5 ∷ [])
    ∷ row "07: a junior beyond" (reading (hex "01 01 02 03 04 07 04 00 0F")) (5 ∷ [])
    ∷ row "07: a senior beyond" (reading (hex "01 01 02 03 04 07 00 04 0F")) (5 ∷ [])
    -- "Repeats of 05, 06, 07 change nothing."
    ∷ row "each 05, 06 and 07 twice" (mining repeats 4096 18) (0 ∷ 18 ∷ 1 ∷ 1 ∷ 0 ∷ 1 ∷ [])
    -- ---- refusals of a rule file beside A, by command
    -- "10 cut off (also before 2F), 12 out of order"
    ∷ row "empty rule file" (judging file_a []) (10 ∷ [])
    ∷ row "10 before 12: 22 first, and cut off" (judging file_a (for_a ++ hex "22 00")) (10 ∷ [])
    ∷ row "22 first" (judging file_a (for_a ++ hex "22 00 05 00")) (12 ∷ [])
    -- "12 a byte after the end, 11 unknown"
    ∷ row "12 before 11: an unknown byte after the end" (judging file_a (for_a ++ hex "2F 30")) (12 ∷ [])
    ∷ row "an unknown command in a rule file" (judging file_a (for_a ++ hex "30")) (11 ∷ [])
    -- "missing (seen at the next 21 or 2F)": at the end of the bytes it is 10
    ∷ row "10 before 12: no 28, and no 2F" (judging file_a (for_a ++ hex "21 26 01 00")) (10 ∷ [])
    ∷ row "no 28 at 2F" (judging file_a (for_a ++ hex "21 26 01 00 29 00 2F")) (12 ∷ [])
    ∷ row "no 26 at the next 21" (judging file_a (for_a ++ hex "21 28 00 01 00 29 00 21")) (12 ∷ [])
    -- "12 ... repeated, 13 an operand beyond its size, ... a zero operation set"; both before what is missing
    ∷ row "12 before 13: a second 26, with an operation beyond" (judging file_a (for_a ++ hex "21 26 01 00 26 03 00 29 00 2F")) (12 ∷ [])
    ∷ row "26: an operation beyond" (judging file_a (for_a ++ hex "21 26 03 00 29 00 2F")) (13 ∷ [])
    ∷ row "26: no operation" (judging file_a (for_a ++ hex "21 26 00 00 29 00 2F")) (13 ∷ [])
    -- "ascend strictly": equal lines twice
    ∷ row "22: a value twice" (judging file_a (for_a ++ hex "21 22 00 05 00 22 00 05 00 26 01 00 28 00 01 00 29 00 2F")) (12 ∷ [])
    ∷ row "27: an atom twice" (judging file_a (for_a ++ hex "21 26 01 00 27 00 00 27 00 00 28 00 01 00 29 00 2F")) (12 ∷ [])
    ∷ row "28: a part twice" (judging file_a (for_a ++ hex "21 26 01 00 28 00 01 00 28 00 01 00 29 00 2F")) (12 ∷ [])
    -- "operands as numbers": 255 stands before 256
    ∷ row "22: 255 before 256" (rule_answer file_a (for_a ++ hex "21 22 00 FF 00 22 00 00 01 26 01 00 28 00 01 00 29 00 2F") 0 0 0) (0 ∷ 0 ∷ [])
    ∷ row "22: 256 before 255" (judging file_a (for_a ++ hex "21 22 00 00 01 22 00 FF 00 26 01 00 28 00 01 00 29 00 2F")) (12 ∷ [])
    -- "255 stands only in 23, with roles as elements, and in 24, with a resource number."
    ∷ row "22: 255" (judging file_a (for_a ++ hex "21 22 FF 00 00 26 01 00 28 00 01 00 29 00 2F")) (13 ∷ [])
    ∷ row "23: 255, no role" (rule_answer file_a (for_a ++ hex "21 23 FF 00 00 00 00 00 00 00 00 26 01 00 28 00 01 00 29 01 2F") 0 0 0) (0 ∷ 1 ∷ [])
    ∷ row "23: 255, role 2 of two" (judging file_a (for_a ++ hex "21 23 FF 04 00 00 00 00 00 00 00 26 01 00 28 00 01 00 29 01 2F")) (13 ∷ [])
    ∷ row "24: 255, resource 2 of two" (judging file_a (for_a ++ hex "21 24 FF 02 00 26 01 00 28 00 01 00 29 02 2F")) (13 ∷ [])
    ∷ row "25: 255" (judging file_a (for_a ++ hex "21 25 FF 01 00 00 00 00 00 00 00 26 01 00 28 00 01 00 29 00 2F")) (13 ∷ [])
    -- "Neither stands in an atom."
    ∷ row "27: 255 of users" (judging file_a (for_a ++ hex "21 26 01 00 27 FF 00 28 00 01 00 29 00 2F")) (13 ∷ [])
    ∷ row "27: 255 of resources" (judging file_a (for_a ++ hex "21 26 01 00 27 00 FF 28 00 01 00 29 00 2F")) (13 ∷ [])
    -- "no part of that file": half a class; a role without a holder; a role beyond
    ∷ row "28: half a class" (judging equal_resources (for_equal_resources ++ anybody)) (13 ∷ [])
    ∷ row "28: a role without a holder" (judging no_holder (for_no_holder ++ anybody)) (13 ∷ [])
    ∷ row "28: a role beyond" (judging file_a (for_a ++ hex "21 26 01 00 28 02 01 00 29 00 2F")) (13 ∷ [])
    -- ---- kinds and attributes in a rule file
    ∷ row "22 to 25 and 27: attributes of the right kind" (rule_answer both_kinds (for_both_kinds ++ every_kind) 0 0 0) (0 ∷ 0 ∷ [])
    -- "of the wrong kind (an atom of a single user attribute and a set resource attribute too)"
    ∷ row "22: a set" (judging both_kinds (for_both_kinds ++ hex "21 22 01 05 00 26 01 00 28 00 01 00 29 00 2F")) (13 ∷ [])
    ∷ row "23: a single" (judging both_kinds (for_both_kinds ++ hex "21 23 00 05 00 00 00 00 00 00 00 26 01 00 28 00 01 00 29 00 2F")) (13 ∷ [])
    ∷ row "24: a set" (judging both_kinds (for_both_kinds ++ hex "21 24 01 05 00 26 01 00 28 00 01 00 29 00 2F")) (13 ∷ [])
    ∷ row "25: a single" (judging both_kinds (for_both_kinds ++ hex "21 25 00 05 00 00 00 00 00 00 00 26 01 00 28 00 01 00 29 00 2F")) (13 ∷ [])
    ∷ row "27: a single of users and a set of resources" (judging single_and_set (for_single_and_set ++ atom_rule)) (13 ∷ [])
    -- "13 an operand beyond its size": resources have no attribute 2, users no attribute 3
    ∷ row "22: an undeclared attribute" (judging both_kinds (for_both_kinds ++ hex "21 22 03 05 00 26 01 00 28 00 01 00 29 00 2F")) (13 ∷ [])
    ∷ row "23: an undeclared attribute" (judging both_kinds (for_both_kinds ++ hex "21 23 03 05 00 00 00 00 00 00 00 26 01 00 28 00 01 00 29 00 2F")) (13 ∷ [])
    ∷ row "24: an undeclared attribute" (judging both_kinds (for_both_kinds ++ hex "21 24 02 05 00 26 01 00 28 00 01 00 29 00 2F")) (13 ∷ [])
    ∷ row "25: an undeclared attribute" (judging both_kinds (for_both_kinds ++ hex "21 25 02 05 00 00 00 00 00 00 00 26 01 00 28 00 01 00 29 00 2F")) (13 ∷ [])
    ∷ row "27: an undeclared user attribute" (judging both_kinds (for_both_kinds ++ hex "21 26 01 00 27 03 00 28 00 01 00 29 00 2F")) (13 ∷ [])
    ∷ row "27: an undeclared resource attribute" (judging both_kinds (for_both_kinds ++ hex "21 26 01 00 27 00 02 28 00 01 00 29 00 2F")) (13 ∷ [])
    -- ---- request 1: "An atom joins two attributes only if their domains are equal"
    ∷ row "equal domains: the length and counts of A" (mining equal_domains 4096 25) (0 ∷ 25 ∷ 2 ∷ 1 ∷ 1 ∷ 2 ∷ [])
    ∷ row "equal domains: the rules of A" (output equal_domains 26) (for_equal_domains ++ hex "21 26 01 00 27 00 00 28 00 01 00 28 01 01 00 29 00 2F AA")
    ∷ row "another domain of users: no atom, no merge" (mining user_domain 4096 44) (0 ∷ 44 ∷ 2 ∷ 2 ∷ 0 ∷ 6 ∷ [])
    ∷ row "another domain of users: two rules by values" (output user_domain 44) (for_user_domain ++ rules_by_values)
    ∷ row "another domain of resources: no atom, no merge" (mining resource_domain 4096 44) (0 ∷ 44 ∷ 2 ∷ 2 ∷ 0 ∷ 6 ∷ [])
    ∷ row "another domain of resources: two rules by values" (output resource_domain 44) (for_resource_domain ++ rules_by_values)
    -- "another atom is 13"; conjuncts do not look at domains
    ∷ row "27: equal domains" (judging equal_domains (for_equal_domains ++ rules_a)) (0 ∷ 0 ∷ [])
    ∷ row "27: another domain of users" (judging user_domain (for_user_domain ++ rules_a)) (13 ∷ [])
    ∷ row "27: another domain of resources" (judging resource_domain (for_resource_domain ++ rules_a)) (13 ∷ [])
    ∷ row "values of two domains" (judging user_domain (for_user_domain ++ rules_by_values)) (0 ∷ 0 ∷ [])
    ∷ row "two domains of one side: the atom of the second" (judging two_domains (for_two_domains ++ hex "21 26 01 00 27 01 00 28 00 01 00 29 00 2F")) (0 ∷ 0 ∷ [])
    ∷ row "two domains of one side: the atom of the first" (judging two_domains (for_two_domains ++ hex "21 26 01 00 27 00 00 28 00 01 00 29 00 2F")) (13 ∷ [])
    -- "rules with atoms across domains no longer count", and no others
    ∷ row "a rule of the section: an atom of equal domains" (of_file equal_domains value_and_atom) (0 ∷ 1 ∷ [])
    ∷ row "no rule of the section: an atom across domains" (of_file user_domain value_and_atom) (0 ∷ 0 ∷ [])
    ∷ row "a rule of the section: a value of another domain" (of_file user_domain value_only) (0 ∷ 1 ∷ [])
    -- "stands where 02 may stand, and 02 may follow it": behind 01, 02 and 08
    ∷ row "08 and 02 behind 01, 02 and 08" (reading (hex "01 01 02 03 04 08 00 00 FF 08 01 01 00 02 00 00 02 01 01 08 00 01 07 0F")) (0 ∷ 1 ∷ 2 ∷ 3 ∷ 4 ∷ [])
    ∷ row "08 first" (reading (hex "08 00 00 00 0F")) (4 ∷ [])
    ∷ row "08 behind 07" (reading (hex "01 00 00 00 01 07 00 00 08 00 00 00 0F")) (4 ∷ [])
    ∷ row "02 behind 08 and 05" (reading (hex "01 01 00 00 01 08 00 00 00 05 00 00 02 00 00 0F")) (4 ∷ [])
    ∷ row "08: cut off" (reading (hex "01 00 00 00 00 08 00 00")) (2 ∷ [])
    ∷ row "08: side 2" (reading (hex "01 00 00 00 00 08 02 00 00 0F")) (5 ∷ [])
    ∷ row "08: kind 2" (reading (hex "01 00 00 00 00 08 00 02 00 0F")) (5 ∷ [])
    ∷ row "six 08 of users" (reading (hex "01 00 00 00 00 08 00 00 01 08 00 00 02 08 00 00 03 08 00 00 04 08 00 00 05 08 00 00 06 0F")) (0 ∷ 0 ∷ 0 ∷ 0 ∷ 0 ∷ [])
    ∷ row "a seventh attribute: 02 behind six 08" (reading (hex "01 00 00 00 00 08 00 00 01 08 00 00 02 08 00 00 03 08 00 00 04 08 00 00 05 08 00 00 06 02 00 00 0F")) (5 ∷ [])
    -- ---- request 2: "hands back that part of the rule file itself, from its 21 up to the next command 21 or 2F"
    ∷ row "show: rule 0 of A" (showing file_a (for_a ++ rules_a) 0) (0 ∷ hex "21 26 01 00 27 00 00 28 00 01 00 28 01 01 00 29 00")
    ∷ row "show: a 21 among operands" (showing file_a (for_a ++ marks_among_operands) 0) (0 ∷ hex "21 22 00 21 21 26 01 00 28 00 01 00 29 00")
    ∷ row "show: a 2F among operands" (showing file_a (for_a ++ marks_among_operands) 1) (0 ∷ hex "21 22 00 2F 2F 26 01 00 28 01 01 00 29 00")
    ∷ row "show: where rule 1 stands" (placing file_a (for_a ++ marks_among_operands) 1) (21 ∷ 35 ∷ [])
    -- "14 for a number not below the count of rules"; "then the part handed back is the empty one at the file's start"
    ∷ row "show: A has no rule 1" (showing file_a (for_a ++ rules_a) 1) (14 ∷ [])
    ∷ row "show: no rule at all" (showing file_a (for_a ++ no_rules) 0) (14 ∷ [])
    ∷ row "show: a number far beyond" (showing file_a (for_a ++ rules_a) 18446744073709551615) (14 ∷ [])
    ∷ row "show: after a refusal the empty part at the start" (placing file_a (for_a ++ marks_among_operands) 2) (0 ∷ 0 ∷ [])
    -- "after the rule file's own refusals", also of what stands behind rule n
    ∷ row "show: a broken rule behind rule 0" (showing file_a (for_a ++ broken_behind) 0) (12 ∷ [])
    ∷ row "show: 12 before 14" (showing file_a (for_a ++ broken_behind) 7) (12 ∷ [])
    ∷ row "show: 10 before 14" (showing file_a [] 0) (10 ∷ [])
    ∷ row "show: 7 before 10" (showing role_twice [] 0) (7 ∷ [])
    -- ---- request 3: "the fewest roles that already make a circle", one byte a role
    -- "a 07 with one role twice is a circle of one"; "No other circle in the file has fewer roles", though others have lower ones
    ∷ row "circle: one role twice, beside two roles" (circling own_senior 4) (0 ∷ 3 ∷ [])
    ∷ row "circle: two roles, beside three with a lower one" (circling short_behind_long 5) (0 ∷ 3 ∷ 4 ∷ [])
    -- "each the junior of the next in a 07 line of the file, and the last likewise the junior of the first"; "It starts with its lowest role."
    ∷ row "circle: each the junior of the next, 0 of 2" (circling three_roles 3) (0 ∷ 0 ∷ 2 ∷ 1 ∷ [])
    ∷ row "circle: each line twice" (circling (hex "01 00 00 00 04 07 03 01 07 03 01 07 01 03 07 01 03 0F") 2) (0 ∷ 1 ∷ 3 ∷ [])
    -- "among those as short, it is the first by the bytes as listed"
    ∷ row "circle: the first of two by the first byte" (circling (hex "01 00 00 00 05 07 01 02 07 02 01 07 04 00 07 00 04 0F") 2) (0 ∷ 0 ∷ 4 ∷ [])
    ∷ row "circle: the first of two by the second byte" (circling (hex "01 00 00 00 04 07 02 03 07 00 02 07 03 00 07 01 03 07 00 01 0F") 3) (0 ∷ 0 ∷ 1 ∷ 3 ∷ [])
    -- "Files refused otherwise return that number, and accepted files an empty list."
    ∷ row "circle: a byte after the end" (circling (hex "01 00 00 00 01 07 00 00 0F 00") 1) (4 ∷ [])
    ∷ row "circle: cut off behind it" (circling (hex "01 00 00 00 01 07 00 00") 1) (2 ∷ [])
    ∷ row "circle: A" (circling file_a 0) (0 ∷ [])
    ∷ row "circle: lines that make none" (circling (hex "01 00 00 00 03 07 00 01 07 01 02 07 00 02 0F") 3) (0 ∷ [])
    -- "Memory shorter than the circle gives 9 and stays untouched."
    ∷ row "circle: two of five, in memory for two" (circling two_circles 2) (0 ∷ 1 ∷ 3 ∷ [])
    ∷ row "circle: two of five, in memory for one" (circling two_circles 1) (9 ∷ [])
    ∷ row "circle: memory for two" (circled two_circles 2) (hex "01 03")
    ∷ row "circle: memory for more" (circled two_circles 4) (hex "01 03 AA AA")
    ∷ row "circle: memory for one" (circled two_circles 1) (hex "AA")
    ∷ row "circle: memory beside another refusal" (circled (hex "01 00 00 00 01 07 00 00 0F 00") 2) (hex "AA AA")
    ∷ row "circle: memory beside an accepted file" (circled file_a 2) (hex "AA AA")
    -- ---- request 4: "satisfaction for all single attributes first and for set attributes after", "and the whole is yes exactly when both are"
    ∷ row "satisfies: a user, both halves" (satisfying both_halves (for_both_halves ++ asks_both) user 0) (0 ∷ 1 ∷ 1 ∷ 1 ∷ [])
    ∷ row "satisfies: a user, the single met and the set not" (satisfying both_halves (for_both_halves ++ asks_both) user 1) (0 ∷ 1 ∷ 0 ∷ 0 ∷ [])
    ∷ row "satisfies: a user, the set met and the single not" (satisfying both_halves (for_both_halves ++ asks_both) user 2) (0 ∷ 0 ∷ 1 ∷ 0 ∷ [])
    ∷ row "satisfies: a user of whom nothing is known" (satisfying both_halves (for_both_halves ++ asks_both) user 3) (0 ∷ 0 ∷ 0 ∷ 0 ∷ [])
    ∷ row "satisfies: a resource, both halves" (satisfying both_halves (for_both_halves ++ asks_both) resource 0) (0 ∷ 1 ∷ 1 ∷ 1 ∷ [])
    ∷ row "satisfies: a resource, the single met and the set not" (satisfying both_halves (for_both_halves ++ asks_both) resource 1) (0 ∷ 1 ∷ 0 ∷ 0 ∷ [])
    ∷ row "satisfies: a resource, the set met and the single not" (satisfying both_halves (for_both_halves ++ asks_both) resource 2) (0 ∷ 0 ∷ 1 ∷ 0 ∷ [])
    ∷ row "satisfies: a resource of which nothing is known" (satisfying both_halves (for_both_halves ++ asks_both) resource 3) (0 ∷ 0 ∷ 0 ∷ 0 ∷ [])
    -- "∃v ∈ e(a)", and e(a) = ⊤
    ∷ row "satisfies: one of two values and of two sets" (satisfying both_halves (for_both_halves ++ asks_one_of_two) user 1) (0 ∷ 1 ∷ 1 ∷ 1 ∷ [])
    ∷ row "satisfies: no conjunct" (satisfying both_halves (for_both_halves ++ anybody) user 3) (0 ∷ 1 ∷ 1 ∷ 1 ∷ [])
    -- "255 being a set attribute": the users'
    ∷ row "satisfies: the users' 255 alone, met" (satisfying both_halves (for_both_halves ++ asks255) user 0) (0 ∷ 1 ∷ 1 ∷ 1 ∷ [])
    ∷ row "satisfies: the users' 255 alone, not met" (satisfying both_halves (for_both_halves ++ asks255) user 1) (0 ∷ 1 ∷ 0 ∷ 0 ∷ [])
    ∷ row "satisfies: the resources' 255 alone, met" (satisfying both_halves (for_both_halves ++ asks255) resource 0) (0 ∷ 1 ∷ 1 ∷ 1 ∷ [])
    ∷ row "satisfies: the resources' 255 alone, not met" (satisfying both_halves (for_both_halves ++ asks255) resource 1) (0 ∷ 0 ∷ 1 ∷ 0 ∷ [])
    -- the rule question says the same
    ∷ row "a rule that the user and the resource satisfy" (rule_answer both_halves (for_both_halves ++ asks_both) 0 0 0) (0 ∷ 1 ∷ [])
    ∷ row "a rule that the user satisfies in one half: the singles" (rule_answer both_halves (for_both_halves ++ asks_both) 1 0 0) (0 ∷ 0 ∷ [])
    ∷ row "a rule that the user satisfies in one half: the sets" (rule_answer both_halves (for_both_halves ++ asks_both) 2 0 0) (0 ∷ 0 ∷ [])
    ∷ row "a rule that the resource satisfies in one half: the singles" (rule_answer both_halves (for_both_halves ++ asks_both) 0 1 0) (0 ∷ 0 ∷ [])
    ∷ row "a rule that the resource satisfies in one half: the sets" (rule_answer both_halves (for_both_halves ++ asks_both) 0 2 0) (0 ∷ 0 ∷ [])
    ∷ row "both 255s, met" (rule_answer both_halves (for_both_halves ++ asks255) 0 0 0) (0 ∷ 1 ∷ [])
    ∷ row "both 255s, the users' not" (rule_answer both_halves (for_both_halves ++ asks255) 1 0 0) (0 ∷ 0 ∷ [])
    ∷ row "both 255s, the resources' not" (rule_answer both_halves (for_both_halves ++ asks255) 0 1 0) (0 ∷ 0 ∷ [])
    -- ---- request 5: "w1 for user conjuncts, w2 for resource conjuncts, w3 for operations, w4 for atoms, each 0 to 65,535"
    ∷ row "weights: A by 1, 1, 7 and 100" (weighing 1 1 7 100 file_a 25) (0 ∷ 25 ∷ 2 ∷ 1 ∷ 1 ∷ 107 ∷ [])
    ∷ row "weights: four sums, by ones" (mining four_sums 4096 53) (0 ∷ 53 ∷ 2 ∷ 1 ∷ 1 ∷ 10 ∷ [])
    ∷ row "weights: four sums, the rule" (output four_sums 53) (for_four_sums ++ hex "21 23 01 06 00 00 00 00 00 00 00 23 01 08 00 00 00 00 00 00 00 24 01 03 00 24 01 04 00 26 0F 00 27 00 00 28 00 0F 00 28 01 0F 00 29 00 2F")
    ∷ row "weights: four sums, w1 alone" (weighing 1 0 0 0 four_sums 53) (0 ∷ 53 ∷ 2 ∷ 1 ∷ 1 ∷ 3 ∷ [])
    ∷ row "weights: four sums, w2 alone" (weighing 0 1 0 0 four_sums 53) (0 ∷ 53 ∷ 2 ∷ 1 ∷ 1 ∷ 2 ∷ [])
    ∷ row "weights: four sums, w3 alone" (weighing 0 0 1 0 four_sums 53) (0 ∷ 53 ∷ 2 ∷ 1 ∷ 1 ∷ 4 ∷ [])
    ∷ row "weights: four sums, w4 alone" (weighing 0 0 0 1 four_sums 53) (0 ∷ 53 ∷ 2 ∷ 1 ∷ 1 ∷ 1 ∷ [])
    ∷ row "weights: four sums, all 0" (weighing 0 0 0 0 four_sums 53) (0 ∷ 53 ∷ 2 ∷ 1 ∷ 1 ∷ 0 ∷ [])
    ∷ row "weights: four sums, all 65,535" (weighing 65535 65535 65535 65535 four_sums 53) (0 ∷ 53 ∷ 2 ∷ 1 ∷ 1 ∷ 655350 ∷ [])
    ∷ row "weights: four sums, each another" (weighing 2 30 400 5000 four_sums 53) (0 ∷ 53 ∷ 2 ∷ 1 ∷ 1 ∷ 6666 ∷ [])
    -- values and elements, on each side; the 255s' conjuncts are their side's
    ∷ row "weights: values of users" (weighing 2 30 400 5000 user_values 26) (0 ∷ 26 ∷ 1 ∷ 1 ∷ 0 ∷ 404 ∷ [])
    ∷ row "weights: values of resources" (weighing 2 30 400 5000 resource_values 26) (0 ∷ 26 ∷ 1 ∷ 1 ∷ 0 ∷ 460 ∷ [])
    ∷ row "weights: elements of resource sets" (weighing 2 30 400 5000 resource_sets 38) (0 ∷ 38 ∷ 1 ∷ 1 ∷ 0 ∷ 490 ∷ [])
    ∷ row "weights: both 255s" (weighing 2 30 400 5000 one_of_two 32) (0 ∷ 32 ∷ 1 ∷ 1 ∷ 0 ∷ 432 ∷ [])
    -- over the rules as written: two of them
    ∷ row "weights: two rules" (weighing 2 30 400 5000 user_domain 44) (0 ∷ 44 ∷ 2 ∷ 2 ∷ 0 ∷ 864 ∷ [])
    -- ---- request 6: "seed 1 gives 270369 first"; then the next two outputs
    ∷ row "load: the first outputs" (xorshift 1 ∷ xorshift 270369 ∷ xorshift 67634689 ∷ []) (270369 ∷ 67634689 ∷ 2647435461 ∷ [])
    -- "every user's value, draw mod 8; every resource's value, draw mod 8; then for each role, each user ..., then for each resource and, within it, each operation"
    ∷ row "load: two of each" (loaded_into 1 2 2 2 2 59) (hex "01 02 02 02 02 02 00 00 02 01 00 03 00 00 00 01 00 03 00 00 01 01 00 03 01 00 00 05 00 03 01 00 01 07 00 05 00 01 06 00 00 00 06 00 00 01 06 00 01 01 06 01 00 00 06 01 00 01 0F")
    ∷ row "load: its length" (loading 1 2 2 2 2 59) (0 ∷ 59 ∷ [])
    -- "each user assigned if draw mod 4 is 0": of these eight draws some are even and no multiple of 4
    ∷ row "load: users of two roles" (loaded_into 1 4 0 0 2 42) (hex "01 04 00 00 02 02 00 00 02 01 00 03 00 00 00 01 00 03 00 00 01 01 00 03 00 00 02 05 00 03 00 00 03 07 00 05 00 01 05 01 01 0F")
    ∷ row "load: three roles, one of them a senior" (loaded_into 20 1 1 1 3 38) (hex "01 01 01 01 03 02 00 00 02 01 00 03 00 00 00 05 00 03 01 00 00 07 00 05 00 00 06 00 00 00 06 02 00 00 07 00 01 0F")
    -- "for each junior and each higher-numbered senior, juniors outermost"
    ∷ row "load: seniors alone" (loaded_into 136 0 0 0 4 21) (hex "01 00 00 00 04 02 00 00 02 01 00 07 00 01 07 00 02 07 01 03 0F")
    ∷ row "load: juniors outermost" (loaded_into 22 0 0 0 4 18) (hex "01 00 00 00 04 02 00 00 02 01 00 07 01 02 07 02 03 0F")
    -- zero is allowed, of each size
    ∷ row "load: nothing" (loaded_into 1 0 0 0 0 12) (hex "01 00 00 00 00 02 00 00 02 01 00 0F")
    -- "15 for seed 0, then 5 for sizes, 1 if the file would pass 65,535 bytes, 9 for short output"
    ∷ row "load: seed 0 before sizes" (loading 0 99 0 0 0 0) (15 ∷ [])
    ∷ row "load: 65 users, before short output" (loading 1 65 0 0 0 0) (5 ∷ [])
    ∷ row "load: 65 resources" (loading 1 0 65 0 0 1000) (5 ∷ [])
    ∷ row "load: 17 operations" (loading 1 0 0 17 0 1000) (5 ∷ [])
    ∷ row "load: 33 roles" (loading 1 0 0 0 33 1000) (5 ∷ [])
    ∷ row "load: 64 users" (loading 1 64 0 0 0 1000) (0 ∷ 396 ∷ [])
    ∷ row "load: 16 operations, 1 resource and 1 role" (loading 1 0 1 16 1 1000) (0 ∷ 46 ∷ [])
    ∷ row "load: output of one byte less" (loading 1 0 0 0 0 11) (9 ∷ [])
    ∷ row "load: output of one byte less, untouched" (loaded_into 1 0 0 0 0 3) (hex "AA AA AA")
    ∷ row "load: output of more" (loaded_into 1 0 0 0 0 14) (hex "01 00 00 00 00 02 00 00 02 01 00 0F AA AA")
    ∷ row "load: output beside seed 0" (loaded_into 0 0 0 0 0 2) (hex "AA AA")
    -- ---- request 7: "The rule file opens with 20 and six one-byte operands: users, resources, operations, roles, user attributes, resource attributes"
    ∷ row "20: the bytes of A" (output file_a 26) (hex "20 02 02 01 02 01 01 21 26 01 00 27 00 00 28 00 01 00 28 01 01 00 29 00 2F AA")
    ∷ row "20: the bytes of nobody" (output nobody 8) (hex "20 00 00 00 00 00 00 2F")
    ∷ row "20: six numbers in this order, attributes by 02 and by 08" (output six_numbers 8) (hex "20 01 02 03 04 05 06 2F")
    ∷ row "20: length 8 beside six numbers" (mining six_numbers 4096 8) (0 ∷ 8 ∷ 0 ∷ 0 ∷ 0 ∷ 0 ∷ [])
    ∷ row "20: nobody, and output of 7 bytes" (mining nobody 4096 7) (9 ∷ [])
    -- the first command: no byte, an unknown one, one that is cut off; "a known one other than 20 gets 12, in the place of out of order"
    ∷ row "first command: none" (judging file_a []) (10 ∷ [])
    ∷ row "first command: unknown" (judging file_a (hex "1F")) (11 ∷ [])
    ∷ row "first command: a 22 that is cut off" (judging file_a (hex "22 00 05")) (10 ∷ [])
    ∷ row "first command: a 22" (judging file_a (hex "22 00 05 00 2F")) (12 ∷ [])
    ∷ row "first command: 21, the rules of A without their 20" (judging file_a rules_a) (12 ∷ [])
    ∷ row "first command: 2F" (judging file_a no_rules) (12 ∷ [])
    -- "after 20 itself has been read whole": cut off behind each byte, by 10
    ∷ row "20: cut off behind each byte" (each (λ n. judging file_a (take n (hex "20 03 02 01 02 01 01"))) (up_to 7)) (10 ∷ 10 ∷ 10 ∷ 10 ∷ 10 ∷ 10 ∷ 10 ∷ [])
    ∷ row "20: nothing behind it" (judging file_a for_a) (10 ∷ [])
    -- "16 for operands unlike the role file's": each of them
    ∷ row "16: users" (judging file_a (hex "20 03 02 01 02 01 01" ++ rules_a)) (16 ∷ [])
    ∷ row "16: resources" (judging file_a (hex "20 02 01 01 02 01 01" ++ rules_a)) (16 ∷ [])
    ∷ row "16: operations" (judging file_a (hex "20 02 02 02 02 01 01" ++ rules_a)) (16 ∷ [])
    ∷ row "16: roles" (judging file_a (hex "20 02 02 01 01 01 01" ++ rules_a)) (16 ∷ [])
    ∷ row "16: user attributes" (judging file_a (hex "20 02 02 01 02 02 01" ++ rules_a)) (16 ∷ [])
    ∷ row "16: resource attributes" (judging file_a (hex "20 02 02 01 02 01 00" ++ rules_a)) (16 ∷ [])
    ∷ row "16: the rules of A beside nobody" (judging nobody (for_a ++ rules_a)) (16 ∷ [])
    -- given at the 20, whatever stands behind it; "after the role file's refusals", before 5 and 14; "Every call that takes both files tests them."
    ∷ row "16 before 10" (judging file_a for_nobody) (16 ∷ [])
    ∷ row "16 before 11" (judging file_a (for_nobody ++ hex "1F")) (16 ∷ [])
    ∷ row "16 before 12" (judging file_a (for_nobody ++ for_nobody)) (16 ∷ [])
    ∷ row "7 before 16" (judging role_twice (for_a ++ rules_a)) (7 ∷ [])
    ∷ row "16 before 5" (rule_answer file_a (for_nobody ++ rules_a) 2 0 0) (16 ∷ [])
    ∷ row "16 before 14" (showing file_a (for_nobody ++ rules_a) 1) (16 ∷ [])
    -- "so does a second 20", of the same or of other operands; cut off it is 10, behind the end a byte after the end
    ∷ row "a second 20: at once" (judging file_a (for_a ++ for_a ++ rules_a)) (12 ∷ [])
    ∷ row "a second 20: other operands" (judging file_a (for_a ++ for_nobody ++ rules_a)) (12 ∷ [])
    ∷ row "a second 20: behind a 21" (judging file_a (for_a ++ hex "21" ++ for_a ++ hex "26 01 00 28 00 01 00 29 00 2F")) (12 ∷ [])
    ∷ row "a second 20: before 2F" (judging file_a (for_a ++ hex "21 26 01 00 28 00 01 00 29 00" ++ for_a ++ hex "2F")) (12 ∷ [])
    ∷ row "a second 20: cut off" (judging file_a (for_a ++ hex "20 02 02 01 02 01")) (10 ∷ [])
    ∷ row "a second 20: behind 2F" (judging file_a (for_a ++ rules_a ++ hex "20")) (12 ∷ [])
    -- rule 0 begins behind the 20
    ∷ row "show: where rule 0 of A stands" (placing file_a (for_a ++ rules_a) 0) (7 ∷ 24 ∷ [])
    -- ---- request 8: "one for each user and operation, each the set of resources granted; word 16 × user + operation"
    ∷ row "summary: three desks, filled" (filling three_desks [] 1024) (0 ∷ 1 ∷ 3 ∷ 16 ∷ 2 ∷ [])
    ∷ row "summary: nobody's is empty" (filling nobody [] 1024) (0 ∷ [])
    ∷ row "summary: a right through a senior" (rights inherits [] 0 0) (0 ∷ 1 ∷ [])
    ∷ row "summary: an operation beyond the sizes" (rights three_desks [] 0 2) (0 ∷ 0 ∷ [])
    ∷ row "summary: a user beyond the sizes" (rights three_desks [] 2 1) (0 ∷ 0 ∷ [])
    -- "assign a user to a role, and take the assignment away"
    ∷ row "summary: user 1 assigned to role 1" (filling three_desks (gives 1 1 ∷ []) 1024) (0 ∷ 1 ∷ 3 ∷ 16 ∷ 2 ∷ 17 ∷ 3 ∷ [])
    ∷ row "summary: assigned to a senior" (rights three_desks (gives 0 1 ∷ []) 1 1) (0 ∷ 3 ∷ [])
    ∷ row "summary: the senior taken away" (rights three_desks (takes 0 0 ∷ []) 0 1) (0 ∷ 0 ∷ [])
    ∷ row "summary: taken away, still held through the senior" (rights three_desks (gives 1 0 ∷ takes 1 0 ∷ []) 0 1) (0 ∷ 3 ∷ [])
    ∷ row "summary: the senior taken away, held itself" (rights three_desks (gives 1 0 ∷ takes 0 0 ∷ []) 0 1) (0 ∷ 3 ∷ [])
    ∷ row "summary: first taken, then given" (rights three_desks (takes 2 1 ∷ gives 2 1 ∷ []) 1 0) (0 ∷ 2 ∷ [])
    ∷ row "summary: first given, then taken" (rights three_desks (gives 2 1 ∷ takes 2 1 ∷ []) 1 0) (0 ∷ 0 ∷ [])
    ∷ row "summary: another user's words" (rights three_desks (takes 0 0 ∷ []) 1 0) (0 ∷ 2 ∷ [])
    -- "repeating one, or taking away what isn't there, changes nothing"
    ∷ row "summary: given again" (rights three_desks (gives 0 0 ∷ []) 0 1) (0 ∷ 3 ∷ [])
    ∷ row "summary: given twice, taken once" (rights three_desks (gives 2 1 ∷ gives 2 1 ∷ takes 2 1 ∷ []) 1 0) (0 ∷ 0 ∷ [])
    ∷ row "summary: taken where there is none" (rights three_desks (takes 1 0 ∷ []) 0 1) (0 ∷ 3 ∷ [])
    ∷ row "summary: given again, its answer" (editing three_desks 1024 (gives 0 0)) (0 ∷ [])
    ∷ row "summary: taken where there is none, its answer" (editing three_desks 1024 (takes 1 0)) (0 ∷ [])
    -- "17 for a table of other than 1,024 words, then 5 for a record whose sizes pass the limits or for numbers beyond its sizes"
    ∷ row "summary: a table of 1,023 words" (sized 1023 2 2 2 3) (17 ∷ [])
    ∷ row "summary: a table of 1,025 words" (sized 1025 2 2 2 3) (17 ∷ [])
    ∷ row "summary: an edit beside 1,023 words" (editing three_desks 1023 (gives 0 0)) (17 ∷ [])
    ∷ row "summary: 17 before 5, for sizes" (sized 0 65 2 2 3) (17 ∷ [])
    ∷ row "summary: 17 before 5, for numbers" (editing three_desks 1025 (gives 3 2)) (17 ∷ [])
    ∷ row "summary: the largest sizes" (sized 1024 64 64 16 32) (0 ∷ [])
    ∷ row "summary: 65 users" (sized 1024 65 64 16 32) (5 ∷ [])
    ∷ row "summary: 65 resources" (sized 1024 64 65 16 32) (5 ∷ [])
    ∷ row "summary: 17 operations" (sized 1024 64 64 17 32) (5 ∷ [])
    ∷ row "summary: 33 roles" (sized 1024 64 64 16 33) (5 ∷ [])
    ∷ row "summary: no such role" (editing three_desks 1024 (gives 3 0)) (5 ∷ [])
    ∷ row "summary: no such user" (editing three_desks 1024 (takes 0 2)) (5 ∷ [])
    ∷ row "summary: the last role and user" (editing three_desks 1024 (gives 2 1)) (0 ∷ [])
    -- "refused edits among them", "either leaves record and table untouched"
    ∷ row "summary: refused edits among others" (rights three_desks (takes 3 0 ∷ takes 0 0 ∷ gives 0 2 ∷ gives 1 0 ∷ gives 9 9 ∷ []) 0 1) (0 ∷ 3 ∷ [])
    ∷ row "summary: a refused edit assigns nobody" (assignment three_desks (gives 3 0 ∷ []) 3 0) (0 ∷ 0 ∷ [])
    -- ---- request 9: "29 and one operand, exactly once per rule, behind the parts"
    ∷ row "29: missing at 2F" (judging file_a (for_a ++ hex "21 26 01 00 28 00 01 00 2F")) (12 ∷ [])
    ∷ row "29: missing at the next 21" (judging file_a (for_a ++ hex "21 26 01 00 28 00 01 00 21")) (12 ∷ [])
    ∷ row "29: twice" (judging file_a (for_a ++ hex "21 26 01 00 28 00 01 00 29 00 29 00 2F")) (12 ∷ [])
    ∷ row "29: a second one, higher" (judging file_a (for_a ++ hex "21 26 01 00 28 00 01 00 29 00 29 01 2F")) (12 ∷ [])
    ∷ row "29: before the part" (judging file_a (for_a ++ hex "21 26 01 00 29 00 28 00 01 00 2F")) (12 ∷ [])
    ∷ row "29: cut off" (judging file_a (for_a ++ hex "21 26 01 00 28 00 01 00 29")) (10 ∷ [])
    -- "the lowest level that allows the rule's own conjuncts", beside a file without attributes: none, roles, resource numbers, both
    ∷ row "29: level 0" (rule_answer one_of_two (for_one_of_two ++ hex "21 26 01 00 28 00 01 00 29 00 2F") 1 1 0) (0 ∷ 1 ∷ [])
    ∷ row "29: level 1" (rule_answer one_of_two (for_one_of_two ++ hex "21 23 FF 01 00 00 00 00 00 00 00 26 01 00 28 00 01 00 29 01 2F") 0 1 0) (0 ∷ 1 ∷ [])
    ∷ row "29: level 2" (rule_answer one_of_two (for_one_of_two ++ hex "21 24 FF 00 00 26 01 00 28 00 01 00 29 02 2F") 1 0 0) (0 ∷ 1 ∷ [])
    ∷ row "29: level 3" (judging one_of_two (for_one_of_two ++ hex "21 23 FF 01 00 00 00 00 00 00 00 24 FF 00 00 26 01 00 28 00 01 00 29 03 2F")) (0 ∷ 0 ∷ [])
    -- "18 for a wrong level": one that does not allow them, one that is not the lowest, and none of the four
    ∷ row "29: 1 for no 255" (judging one_of_two (for_one_of_two ++ hex "21 26 01 00 28 00 01 00 29 01 2F")) (18 ∷ [])
    ∷ row "29: 0 for the users' 255" (judging one_of_two (for_one_of_two ++ hex "21 23 FF 01 00 00 00 00 00 00 00 26 01 00 28 00 01 00 29 00 2F")) (18 ∷ [])
    ∷ row "29: 3 for the users' 255" (judging one_of_two (for_one_of_two ++ hex "21 23 FF 01 00 00 00 00 00 00 00 26 01 00 28 00 01 00 29 03 2F")) (18 ∷ [])
    ∷ row "29: 1 for the resources' 255" (judging one_of_two (for_one_of_two ++ hex "21 24 FF 00 00 26 01 00 28 00 01 00 29 01 2F")) (18 ∷ [])
    ∷ row "29: 3 for the resources' 255" (judging one_of_two (for_one_of_two ++ hex "21 24 FF 00 00 26 01 00 28 00 01 00 29 03 2F")) (18 ∷ [])
    ∷ row "29: 2 for both" (judging one_of_two (for_one_of_two ++ hex "21 23 FF 01 00 00 00 00 00 00 00 24 FF 00 00 26 01 00 28 00 01 00 29 02 2F")) (18 ∷ [])
    ∷ row "29: 4 for both" (judging one_of_two (for_one_of_two ++ hex "21 23 FF 01 00 00 00 00 00 00 00 24 FF 00 00 26 01 00 28 00 01 00 29 04 2F")) (18 ∷ [])
    ∷ row "29: 255 beside A" (judging file_a (for_a ++ hex "21 26 01 00 28 00 01 00 29 FF 2F")) (18 ∷ [])
    -- "the rule's own": not of a rule before it; values and atoms have no level
    ∷ row "29: a level for each rule" (judging one_of_two (for_one_of_two ++ hex "21 24 FF 00 00 26 01 00 28 00 01 00 29 02 21 26 01 00 28 00 01 00 29 02 2F")) (18 ∷ [])
    ∷ row "29: values and atoms are of level 0" (rule_answer file_a (for_a ++ hex "21 22 00 05 00 24 00 05 00 26 01 00 27 00 00 28 00 01 00 29 00 2F") 0 0 0) (0 ∷ 1 ∷ [])
    -- "where 13 would be tested for that command": behind 12 of the same command, before what stands behind it
    ∷ row "12 before 18: a wrong level in no rule" (judging file_a (for_a ++ hex "29 01 2F")) (12 ∷ [])
    ∷ row "18 before 12: a wrong level, and no part" (judging file_a (for_a ++ hex "21 26 01 00 29 01 2F")) (18 ∷ [])
    ∷ row "13 before 18: no such part, and a wrong level" (judging file_a (for_a ++ hex "21 26 01 00 28 02 01 00 29 01 2F")) (13 ∷ [])
    -- mined rules tell their levels
    ∷ row "29 mined: level 3" (output one_of_two 32) (for_one_of_two ++ hex "21 23 FF 01 00 00 00 00 00 00 00 24 FF 00 00 26 01 00 28 00 01 00 29 03 2F")
    ∷ row "29 mined: level 2" (output (hex "01 02 02 01 01 05 00 00 05 00 01 06 00 00 00 0F") 22) (for_one_of_two ++ hex "21 24 FF 00 00 26 01 00 28 00 01 00 29 02 2F")
    -- ---- request 10: "the most records that the rules deny in any w neighbouring ones, and the lowest start that has so many"
    ∷ row "log: windows of 1" (denying file_a (for_a ++ rules_a) six_records 1) (0 ∷ 1 ∷ 0 ∷ [])
    ∷ row "log: windows of 2" (denying file_a (for_a ++ rules_a) six_records 2) (0 ∷ 2 ∷ 2 ∷ [])
    ∷ row "log: windows of 3" (denying file_a (for_a ++ rules_a) six_records 3) (0 ∷ 2 ∷ 0 ∷ [])
    ∷ row "log: windows of 4" (denying file_a (for_a ++ rules_a) six_records 4) (0 ∷ 3 ∷ 0 ∷ [])
    ∷ row "log: a window of all six" (denying file_a (for_a ++ rules_a) six_records 6) (0 ∷ 4 ∷ 0 ∷ [])
    ∷ row "log: the last window" (denying file_a (for_a ++ rules_a) (hex "00 00 00 00 01 00 01 00 00") 2) (0 ∷ 2 ∷ 1 ∷ [])
    ∷ row "log: nothing denied" (denying file_a (for_a ++ rules_a) (granted_record ++ granted_record) 1) (0 ∷ 0 ∷ 0 ∷ [])
    -- "records of three bytes: user, resource, operation"
    ∷ row "log: user, resource, operation" (denying three_sizes one_triple (hex "01 02 03") 1) (0 ∷ 0 ∷ 0 ∷ [])
    ∷ row "log: another user" (denying three_sizes one_triple (hex "00 02 03") 1) (0 ∷ 1 ∷ 0 ∷ [])
    ∷ row "log: another operation" (denying three_sizes one_triple (hex "01 02 02") 1) (0 ∷ 1 ∷ 0 ∷ [])
    -- "A log shorter than w is one window; an empty log reports 0 at 0."
    ∷ row "log: shorter than the window" (denying file_a (for_a ++ no_rules) (granted_record ++ granted_record) 3) (0 ∷ 2 ∷ 0 ∷ [])
    ∷ row "log: six records in a window of 64" (denying file_a (for_a ++ rules_a) six_records 64) (0 ∷ 4 ∷ 0 ∷ [])
    ∷ row "log: empty" (denying file_a (for_a ++ no_rules) [] 1) (0 ∷ 0 ∷ 0 ∷ [])
    -- "that the rules deny": here other than the roles; and "the count by the roles"
    ∷ row "log: rules that grant nothing" (denying file_a (for_a ++ no_rules) granted_record 1) (0 ∷ 1 ∷ 0 ∷ [])
    ∷ row "log: by the roles" (roles_denying file_a six_records 2) (0 ∷ 2 ∷ 2 ∷ [])
    ∷ row "log: by the roles, nothing denied" (roles_denying file_a granted_record 1) (0 ∷ 0 ∷ 0 ∷ [])
    -- "19 for w outside 1 to 64, then 20 for a length not divisible by three, then 5 for a record, all after the files' refusals"
    ∷ row "log: a window of 0" (denying file_a (for_a ++ rules_a) six_records 0) (19 ∷ [])
    ∷ row "log: a window of 65" (denying file_a (for_a ++ rules_a) six_records 65) (19 ∷ [])
    ∷ row "log: a window far beyond" (denying file_a (for_a ++ rules_a) six_records 18446744073709551615) (19 ∷ [])
    ∷ row "log: two bytes" (denying file_a (for_a ++ rules_a) (hex "00 00") 1) (20 ∷ [])
    ∷ row "log: four bytes" (denying file_a (for_a ++ rules_a) (hex "00 00 00 00") 1) (20 ∷ [])
    ∷ row "log: user 2 of 2" (denying file_a (for_a ++ rules_a) (hex "02 00 00") 1) (5 ∷ [])
    ∷ row "log: resource 3 of 3" (denying three_sizes one_triple (hex "00 03 00") 1) (5 ∷ [])
    ∷ row "log: operation 4 of 4" (denying three_sizes one_triple (hex "00 00 04") 1) (5 ∷ [])
    ∷ row "log: the last record beyond the sizes" (denying file_a (for_a ++ rules_a) (six_records ++ hex "00 00 01") 2) (5 ∷ [])
    ∷ row "log: 19 before 20" (denying file_a (for_a ++ rules_a) (hex "00") 0) (19 ∷ [])
    ∷ row "log: 20 before 5" (denying file_a (for_a ++ rules_a) (hex "02 00 00 00") 1) (20 ∷ [])
    ∷ row "log: 10 before 19" (denying file_a [] (hex "00") 0) (10 ∷ [])
    ∷ row "log: 16 before 19" (denying file_a (for_nobody ++ no_rules) (hex "00") 0) (16 ∷ [])
    ∷ row "log: 18 before 19" (denying file_a (for_a ++ hex "21 26 01 00 28 00 01 00 29 01 2F") (hex "00") 0) (18 ∷ [])
    ∷ row "log: 7 before 10" (denying role_twice [] (hex "00") 0) (7 ∷ [])
    -- ---- request 11: "Groups merge within each run until no pair is left; then merging goes on over all groups"
    ∷ row "cuts: none" (cut_output either_pair [] 56) first_two
    ∷ row "cuts: 1" (cut_output either_pair (1 ∷ []) 50) last_two
    ∷ row "cuts: 2" (cut_output either_pair (2 ∷ []) 56) first_two
    ∷ row "cuts: 1 and 2" (cut_output either_pair (1 ∷ 2 ∷ []) 56) first_two
    -- "merges counted, over both stages": in the first alone, in the second alone, and one in each
    ∷ row "cuts: a merge of the first stage" (cutting either_pair (1 ∷ []) 4096 50) (0 ∷ 50 ∷ 3 ∷ 2 ∷ 1 ∷ 6 ∷ [])
    ∷ row "cuts: a merge of the second stage" (cutting either_pair (1 ∷ 2 ∷ []) 4096 56) (0 ∷ 56 ∷ 3 ∷ 2 ∷ 1 ∷ 6 ∷ [])
    ∷ row "cuts: a merge of each stage" (cutting three_alike (1 ∷ []) 4096 26) (0 ∷ 26 ∷ 3 ∷ 1 ∷ 2 ∷ 1 ∷ [])
    -- "no such file may break anything said of mined files"
    ∷ row "cuts: the judge" (judging either_pair last_two) (0 ∷ 0 ∷ [])
    -- "21 for cuts that do not ascend strictly or are out of range": "each from 1 to roles − 1"
    ∷ row "cuts: 0" (cutting either_pair (0 ∷ []) 4096 56) (21 ∷ [])
    ∷ row "cuts: 3 of 3 roles" (cutting either_pair (3 ∷ []) 4096 56) (21 ∷ [])
    ∷ row "cuts: 1 and then 3" (cutting either_pair (1 ∷ 3 ∷ []) 4096 56) (21 ∷ [])
    ∷ row "cuts: 2 and then 1" (cutting either_pair (2 ∷ 1 ∷ []) 4096 56) (21 ∷ [])
    ∷ row "cuts: 1 twice" (cutting either_pair (1 ∷ 1 ∷ []) 4096 56) (21 ∷ [])
    ∷ row "cuts: 1 of one role" (cutting (hex "01 01 01 01 01 0F") (1 ∷ []) 4096 56) (21 ∷ [])
    ∷ row "cuts: 1 of no role" (cutting (hex "01 01 01 01 00 0F") (1 ∷ []) 4096 56) (21 ∷ [])
    -- "after 1 to 7 and before 9"; 8 stands before all
    ∷ row "cuts: 8 before 21" (cutting either_pair (3 ∷ []) 2047 56) (8 ∷ [])
    ∷ row "cuts: 2 before 21" (cutting (hex "01 02 02 01 03") (3 ∷ []) 4096 56) (2 ∷ [])
    ∷ row "cuts: 7 before 21" (cutting role_twice (255 ∷ []) 4096 56) (7 ∷ [])
    ∷ row "cuts: 21 before 9" (cutting either_pair (3 ∷ []) 4096 0) (21 ∷ [])
    ∷ row "cuts: 9, a byte too short" (cutting either_pair (1 ∷ []) 4096 49) (9 ∷ [])
    ∷ row "cuts: 21 leaves the output" (cut_output either_pair (3 ∷ []) 56) (memory 56)
    -- ---- request 12: the numbers of users, and nothing else, are replaced
    ∷ row "renumbered: the user of a 03" (moved (hex "03 00 01 02 07 00")) (hex "03 00 01 03 07 00")
    ∷ row "renumbered: the user of a 04" (moved (hex "04 00 01 03 07 00 00 00 00 00 00 00")) (hex "04 00 01 00 07 00 00 00 00 00 00 00")
    ∷ row "renumbered: the user of a 05" (moved (hex "05 01 00")) (hex "05 01 01")
    ∷ row "renumbered: a resource of a 03 stays" (moved (hex "03 01 01 02 07 00")) (hex "03 01 01 02 07 00")
    ∷ row "renumbered: a resource of a 04 stays" (moved (hex "04 01 01 02 07 00 00 00 00 00 00 00")) (hex "04 01 01 02 07 00 00 00 00 00 00 00")
    ∷ row "renumbered: 01, 02, 06, 07, 08 and 0F have no user" (moved (hex "01 01 01 01 01 02 00 00 06 01 01 01 07 01 01 08 00 00 01 0F")) (hex "01 01 01 01 01 02 00 00 06 01 01 01 07 01 01 08 00 00 01 0F")
    ∷ row "renumbered: command by command" (moved (hex "03 00 00 01 05 00 05 00 01 0F")) (hex "03 00 00 02 05 00 05 00 02 0F")
    ∷ row "renumbered: a file" (moved staff) (hex "01 04 02 01 02 02 00 00 02 00 01 02 01 00 02 01 01 03 00 00 01 09 00 03 00 00 02 08 00 03 00 00 03 07 00 03 00 00 00 08 00 04 00 01 03 03 00 00 00 00 00 00 00 03 01 00 01 05 00 04 01 01 00 03 00 00 00 00 00 00 00 05 00 02 05 01 01 05 01 03 06 00 01 00 06 01 00 00 0F")
    -- "both mine to the same bytes and the same counts": a rule that names roles, and one that lists the values of two users
    ∷ row "renumbered: the bytes before" (output staff 60) (hex "20 04 02 01 02 02 02 21 23 FF 01 00 00 00 00 00 00 00 24 00 05 00 26 01 00 28 00 01 00 29 01 21 22 00 07 00 22 00 09 00 25 01 03 00 00 00 00 00 00 00 26 01 00 28 01 01 00 29 00 2F")
    ∷ row "renumbered: the bytes after" (output (moved staff) 120) (output staff 120)
    ∷ row "renumbered: the counts after" (weighing 3 5 7 11 (moved staff) 60) (weighing 3 5 7 11 staff 60)
    -- "The CR 11 way of mining is included, with equal cuts"
    ∷ row "renumbered: two users swapped" swapped (hex "01 02 02 01 03 05 00 01 05 01 01 05 02 00 06 00 00 00 06 01 01 00 06 02 01 00 0F")
    ∷ row "renumbered: the bytes without cuts" (cut_output swapped [] 56) first_two
    ∷ row "renumbered: the bytes with a cut" (cut_output swapped (1 ∷ []) 50) last_two
    ∷ row "renumbered: the counts with a cut" (cutting swapped (1 ∷ []) 4096 50) (0 ∷ 50 ∷ 3 ∷ 2 ∷ 1 ∷ 6 ∷ [])
    ∷ row "renumbered: cuts that are refused" (cutting swapped (2 ∷ 1 ∷ []) 4096 56) (21 ∷ [])
    -- ---- the bytes of these rows: what is no digit, half a byte, and two bytes without a blank are no bytes
    ∷ row "hex: digits" (hex "00 09 0A 0F 10 F0 FF") (0 ∷ 9 ∷ 10 ∷ 15 ∷ 16 ∷ 240 ∷ 255 ∷ [])
    ∷ row "hex: no digit" (spelt "0G 0a") (no_byte ∷ no_byte ∷ [])
    ∷ row "hex: half a byte" (spelt "01 0") (1 ∷ no_byte ∷ [])
    ∷ row "hex: no blank" (spelt "0102") (no_byte ∷ no_byte ∷ [])
    ∷ []
