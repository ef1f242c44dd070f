-- What every call answers, as a function of the bytes and numbers handed in. 01, section "Where each call stops".
-- Assumes nothing.
use Rattle.std.specs.Prelude.{ℕ, suc, ◌-◌, eqb, ltb, leb, length, get_or, take, drop, Bool, true, cond, ◌&&◌, not, List, [], ◌∷◌, ◌++◌, map}
use Rattle.std.proofs.Math.Option.{Option, none, some}
use Rattle.files.specs.Answer.{Answer, number_of, unless, and_then, beyond, small_scratch, short_output, no_such_rule, bad_cuts, refused, accepted}
use Rattle.files.specs.Beside.{shape_of, beside_of}
use Rattle.files.specs.RoleFile.{read_roles, read_commands}
use Rattle.files.specs.RuleFile.{Lines, rule_in, parts_in, listings, lines_of, encode_file, read_rules}
use Rattle.files.specs.RulePart.{rule_start}
use Rattle.policy.specs.Circles.{circle_of}
use Rattle.policy.specs.Cost.{rule_cost}
use Rattle.policy.specs.Merging.{union}
use Rattle.policy.specs.Mined.{part_count, part_block, mined_groups, merge_count, rule_of}
use Rattle.policy.specs.Policy.{Policy, setting_of, roles_in}
use Rattle.policy.specs.Roles.{Roles, roles_grant}
use Rattle.policy.specs.Rules.{Setting, Block, grants, same_block, user, resource}
use Rattle.policy.specs.declared.Weights.{Weights}
use Rattle.sets.specs.Tests.{iff, all, any, each, up_to, sum}

-- "The result carries length (bytes of the rule file), parts ..., rules ..., merges ... and total cost"; size is 01's length
pub record Counts : Type 0 where
  pub size : ℕ
  pub parts : ℕ
  pub rules : ℕ
  pub merges : ℕ
  pub cost : ℕ

-- the judge's verdicts
pub data Verdict : Type 0 where
  -- roles and rules differ at a triple, the first by user, then resource, then operation
  differ : ℕ → ℕ → ℕ → Verdict
  -- a rule, the first, grants other than its parts
  stray_rule : ℕ → Verdict
  -- a part, the first, stands under no rule or several
  stray_part : ℕ → Verdict
  sound : Verdict

-- the values of a result, and of the answer to a question: 1 for yes, 0 for no
abbrev pub count_values : Counts → List ℕ
count_values c = c.size ∷ c.parts ∷ c.rules ∷ c.merges ∷ c.cost ∷ []

abbrev pub yes_no : Bool → List ℕ
yes_no b = cond b 1 0 ∷ []

-- 01's number of each verdict, and the values that come with it
abbrev pub verdict_number : Verdict → ℕ
verdict_number (differ u r o) = 1
verdict_number (stray_rule i) = 2
verdict_number (stray_part p) = 3
verdict_number sound = 0

abbrev pub verdict_values : Verdict → List ℕ
verdict_values (differ u r o) = u ∷ r ∷ o ∷ []
verdict_values (stray_rule i) = i ∷ []
verdict_values (stray_part p) = p ∷ []
verdict_values sound = []

-- a verdict in 01's numbers: its own, and then its values
abbrev pub verdict_told : Verdict → List ℕ
verdict_told v = verdict_number v ∷ verdict_values v

-- "1 and the first triple ...; else 2 and the first rule ...; else 3 and the first part ...; else 0"
abbrev pub decided : Option (ℕ × ℕ × ℕ) → Option ℕ → Option ℕ → Verdict
decided (some t) i p = differ t.0 t.1 t.2
decided none (some i) p = stray_rule i
decided none none (some p) = stray_part p
decided none none none = sound

-- the first member that passes
abbrev pub first : {A : Type 0} → (A → Bool) → List A → Option A
first f [] = none
first f (x ∷ xs) = let r = first f xs in cond (f x) (some x) r

module _ (P : Setting) where
  -- every triple, by user, then resource, then operation
  unfoldable pub triples : List (ℕ × ℕ × ℕ)
  triples = each (λ u. each (λ r. map (λ o. (u, r, o)) (up_to P.slots)) (up_to (P.side resource).count)) (up_to (P.side user).count)

  -- a triple within the sizes
  unfoldable pub is_triple : ℕ → ℕ → ℕ → Bool
  is_triple u r o = ltb u (P.side user).count && (ltb r (P.side resource).count && ltb o P.slots)

  -- some rule grants it
  unfoldable pub rules_grant : List Lines → Block
  rules_grant rules u r o = any (λ ls. grants P (rule_in P ls) u r o) rules

  module _ (R : Roles) where
    -- what the parts listed under a rule grant
    unfoldable pub parts_grant : Lines → Block
    parts_grant ls = union P (part_block P R) (parts_in P R ls)

    unfoldable pub first_difference : List Lines → Option (ℕ × ℕ × ℕ)
    first_difference rules = first (λ (t : ℕ × ℕ × ℕ). not (iff (roles_grant P R t.0 t.1 t.2) (rules_grant rules t.0 t.1 t.2))) triples

    unfoldable pub first_stray_rule : List Lines → Option ℕ
    first_stray_rule rules = first (λ i. let ls = get_or rules i [] in not (same_block P (grants P (rule_in P ls)) (parts_grant ls))) (up_to (length rules))

    unfoldable pub first_stray_part : List Lines → Option ℕ
    first_stray_part rules = first (λ p. not (eqb (listings P R rules p) 1)) (up_to (part_count P R))

    unfoldable pub verdict : List Lines → Verdict
    verdict rules = decided (first_difference rules) (first_stray_rule rules) (first_stray_part rules)

    -- the lines of the rules mined with these cuts: "Mined rules stand in group order"
    unfoldable pub mined_lines : List ℕ → List Lines
    mined_lines cuts = map (λ g. lines_of P R (rule_of P R g) g) (mined_groups P R cuts)

-- ---- request 11: "a list of cuts, each from 1 to roles − 1"

-- numbers that "ascend strictly": each is below all that follow
abbrev pub ascend : List ℕ → Bool
ascend [] = true
ascend (c ∷ cs) = all (ltb c) cs && ascend cs

-- legal cuts between so many roles
unfoldable pub cuts_ok : List ℕ → ℕ → Bool
cuts_ok cuts roles = all (λ c. leb 1 c && ltb c roles) cuts && ascend cuts

-- request 13: "Mining now accepts 2,048 words of scratch and up"
abbrev pub least_scratch : ℕ
least_scratch = 2048

-- an operation set is W bytes wide: 2 for 16 operations
module _ (W : ℕ) where
  module _ (F : Policy) (cuts : List ℕ) where
    -- the rule file that a policy is mined to with these cuts, and the counts that go with it
    unfoldable pub mined_bytes : List ℕ
    mined_bytes = encode_file W (shape_of F) (mined_lines (setting_of F) (roles_in F) cuts)

    -- the cost is by the weights handed in, over the rules as written: 000, "WSC(Rules) = Σ WSC(ρ)"
    unfoldable pub mined_counts : Weights → Counts
    mined_counts weights = record {
      size = length mined_bytes;
      parts = part_count (setting_of F) (roles_in F);
      rules = length (mined_groups (setting_of F) (roles_in F) cuts);
      merges = merge_count (setting_of F) (roles_in F) cuts;
      cost = sum (λ g. rule_cost (setting_of F) weights (rule_of (setting_of F) (roles_in F) g)) (mined_groups (setting_of F) (roles_in F) cuts);
    }

  -- "8 scratch below 4,096 words of 64 bits; then 1 to 7; then 9 output shorter than the rule file"; request 13: "8 is
  -- given below that", below 2,048; request 11: "21 for cuts that do not ascend strictly or are out of range, after 1 to 7 and before 9"
  unfoldable pub may_mine : List ℕ → List ℕ → ℕ → ℕ → Answer Policy
  may_mine file cuts scratch room =
      unless (leb least_scratch scratch) small_scratch
      (and_then (read_roles W file)
      (λ F. unless (cuts_ok cuts F.roles) bad_cuts (unless (leb (length (mined_bytes F cuts)) room) short_output (accepted F))))

  -- mining: the counts, from the file, the cuts, the weights, the words of scratch and the bytes of output. "Mining chooses
  -- nothing by cost": whether it is refused and what it writes do not look at the weights
  unfoldable pub mine_answer : List ℕ → List ℕ → Weights → ℕ → ℕ → Answer Counts
  mine_answer file cuts weights scratch room = and_then (may_mine file cuts scratch room) (λ F. accepted (mined_counts F cuts weights))

  -- the output memory after mining: "Output is untouched" by a refusal; else the rule file, and behind it the former bytes
  unfoldable pub mine_output : List ℕ → List ℕ → ℕ → List ℕ → List ℕ
  mine_output file cuts scratch former =
      elim (may_mine file cuts scratch (length former))
      [ refused e ↦ former | accepted F ↦ mined_bytes F cuts ++ drop (length (mined_bytes F cuts)) former ]

  -- "whether the roles grant a given triple, yes or no: 1 to 7, then 5 for a number beyond the sizes"
  unfoldable pub role_question : List ℕ → ℕ → ℕ → ℕ → Answer Bool
  role_question file u r o = and_then (read_roles W file) (λ F. unless (is_triple (setting_of F) u r o) beyond (accepted (roles_grant (setting_of F) (roles_in F) u r o)))

  -- both files: 1 to 7, then 10 to 13 and 16
  unfoldable pub read_both : List ℕ → List ℕ → Answer (Policy × List Lines)
  read_both file rules = and_then (read_roles W file) (λ F. and_then (read_rules W (beside_of F) rules) (λ ls. accepted (F, ls)))

  -- "whether some rule grants it: 1 to 7; then the rule file by command: ...; then 5"
  unfoldable pub rule_question : List ℕ → List ℕ → ℕ → ℕ → ℕ → Answer Bool
  rule_question file rules u r o =
      and_then (read_both file rules)
      (λ (p : Policy × List Lines). unless (is_triple (setting_of p.0) u r o) beyond (accepted (rules_grant (setting_of p.0) p.1 u r o)))

  -- "as the rule question without the last 5"
  unfoldable pub judge : List ℕ → List ℕ → Answer Verdict
  judge file rules = and_then (read_both file rules) (λ (p : Policy × List Lines). accepted (verdict (setting_of p.0) (roles_in p.0) p.1))

  -- ---- request 2: one rule

  -- where rule n begins and ends: "14 for a number not below the count of rules, after the rule file's own refusals"
  unfoldable pub show_answer : List ℕ → List ℕ → ℕ → Answer (ℕ × ℕ)
  show_answer file rules n =
      and_then (read_both file rules) (λ (p : Policy × List Lines). unless (ltb n (length p.1)) no_such_rule (accepted (rule_start W rules n, rule_start W rules (suc n))))

  -- where the part that is handed back begins and ends: "on a refusal ... the empty one at the file's start"
  unfoldable pub shown_place : List ℕ → List ℕ → ℕ → ℕ × ℕ
  shown_place file rules n = elim (show_answer file rules n) [ refused e ↦ (0, 0) | accepted p ↦ p ]

  -- "that part of the rule file itself"
  unfoldable pub shown_part : List ℕ → List ℕ → ℕ → List ℕ
  shown_part file rules n = take ((shown_place file rules n).1 - (shown_place file rules n).0) (drop (shown_place file rules n).0 rules)

  -- "A lent byte gets 0, or on a refusal its number"
  unfoldable pub shown_byte : List ℕ → List ℕ → ℕ → ℕ
  shown_byte file rules n = elim (show_answer file rules n) [ refused e ↦ number_of e | accepted p ↦ 0 ]

  -- ---- request 3: the circle

  -- the roles listed: "Files refused otherwise return that number, and accepted files an empty list. Memory shorter than the circle gives
  -- 9"; room is the bytes of the memory
  unfoldable pub circle_answer : List ℕ → ℕ → Answer (List ℕ)
  circle_answer file room = and_then (read_commands W file) (λ F. let c = circle_of F in unless (leb (length c) room) short_output (accepted c))

  -- the memory afterwards: "written one byte a role into lent memory", the former bytes behind them; a refusal leaves it "untouched"
  unfoldable pub circle_output : List ℕ → List ℕ → List ℕ
  circle_output file former = elim (circle_answer file (length former)) [ refused e ↦ former | accepted c ↦ c ++ drop (length c) former ]
