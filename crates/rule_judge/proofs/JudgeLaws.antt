-- What was read of both files decides the verdict.
-- Assumes nothing.
use Rattle.std.specs.Prelude.{ℕ, ◌≤◌, ◌-◌, length, take, List, ◌++◌, Some, None, Option as Found, ◌≡◌}
use Rattle.std.proofs.Common.{length-append, ◌∙◌, subst, arith}
use Rattle.std.proofs.Math.Option.{Option, none, some}
use Rattle.std.proofs.Math.Path.{refl, sym, ap, ap₂}
use Rattle.role_record.specs.Cells.{grid_cells}
use Rattle.role_record.specs.Record.{record_with, record_of}
use Rattle.files.specs.Answer.{Refusal, Answer, and_then, map_answer, refused, accepted}
use Rattle.files.proofs.AnswerLaws.{map-refused}
use Rattle.files.specs.Calls.{decided, first_difference, first_stray_rule, first_stray_part, verdict, read_both, judge}
use Rattle.files.specs.RuleFile.{Lines}
use Rattle.grant_grids.specs.Grid.{grid_of, in_grid, granted_by, grid_difference, difference_of}
use Rattle.grant_grids.proofs.GridLaws.{grid_long, roles_grid_means, judged_means}
use Rattle.policy.specs.Policy.{Policy, side_of, setting_of, roles_in}
use Rattle.policy.specs.Rules.{Block}
use Rattle.rule_file.specs.LegalLaws.{Sound as SoundFiles, both-accepted}
use Rattle.rule_file.specs.OpenedLaws.{first-words, grid_first}
use Rattle.rule_judge.specs.Judgement.{verdict_of}
use Rattle.rule_judge.specs.declared.Verdict.{Verdict}
use Rattle.rule_judge.specs.declared.Verdict.TheVariants.{Sound, Differ, StrayRule, StrayPart}
use Rattle.rule_listings.specs.Listed.{stray_of, stray_part_of}
use Rattle.rule_listings.specs.ListedLaws.{stray_means}
use Rattle.rule_reading.specs.BothFiles.{both_of, GridLent}
use Rattle.rule_reading.specs.declared.BothFiles.{BothFiles}
use Rattle.rule_steps.specs.GrantedLaws.{in_rules}
use Rattle.rule_steps.specs.Shows.{option_of, granted_within}

-- ---- the verdict, by the outcomes of the three comparisons

abbrev pub by_outcomes : Found (ℕ × ℕ × ℕ) → Found ℕ → Found ℕ → Verdict
by_outcomes (Some t) i p = Differ t.0 t.1 t.2
by_outcomes None (Some i) p = StrayRule i
by_outcomes None None (Some p) = StrayPart p
by_outcomes None None None = Sound

decided-so : (d : Option (ℕ × ℕ × ℕ)) (i p : Option ℕ) → verdict_of (decided d i p) ≡ by_outcomes (difference_of d) (option_of i) (stray_part_of p)
unfolding difference_of stray_part_of
decided-so (some t) i p = refl
decided-so none (some i) p = refl
decided-so none none (some p) = refl
decided-so none none none = refl

-- of what was read: the first difference of the roles' grid and the rules', and the first part not listed exactly once
unfoldable difference_in : BothFiles → List ℕ → Found (ℕ × ℕ × ℕ)
difference_in b grid = difference_of (grid_difference (grid_of b.file.operations (granted_by b.file.holders b.file.permissions b.file.roles)) grid b.file.users b.file.resources b.file.operations)

abbrev pub stray_in : BothFiles → Found ℕ
stray_in b = stray_of b.file.holders b.file.permissions b.file.roles b.file.operations b.seen b.again

unfoldable judged_by : BothFiles → List ℕ → Verdict
judged_by b grid = by_outcomes (difference_in b grid) b.stray (stray_in b)

-- ---- they are those of the definitions

module _ (F : Policy) (rules : List Lines) (Z : SoundFiles (F, rules)) (grid : List ℕ) (e : grid ≡ grid_of F.operations (granted_within F rules)) where
  differs : difference_in (both_of (F, rules)) grid ≡ difference_of (first_difference (setting_of F) (roles_in F) rules)
  unfolding difference_in both_of record_of record_with setting_of side_of
  differs = ap difference_of (judged_means (setting_of F) (roles_in F) rules (grid_of F.operations (granted_by (record_of F).holders (record_of F).permissions F.roles)) grid (roles_grid_means F Z.sized) (λ u r o t. ap (λ (g : List ℕ). in_grid g u r o) e ∙ in_rules F Z.sized rules u r o t))

  strays-so : stray_in (both_of (F, rules)) ≡ stray_part_of (first_stray_part (setting_of F) (roles_in F) rules)
  unfolding both_of record_of record_with
  strays-so = stray_means F Z.sized rules (λ ls m c i. Z.lines-legal ls m c i)

  judged : judged_by (both_of (F, rules)) grid ≡ verdict_of (verdict (setting_of F) (roles_in F) rules)
  unfolding judged_by both_of verdict
  judged =
      ap (λ (d : Found (ℕ × ℕ × ℕ)). by_outcomes d (option_of (first_stray_rule (setting_of F) (roles_in F) rules)) (stray_in (both_of (F, rules)))) differs
      ∙ ap (by_outcomes (difference_of (first_difference (setting_of F) (roles_in F) rules)) (option_of (first_stray_rule (setting_of F) (roles_in F) rules))) strays-so
      ∙ sym (decided-so (first_difference (setting_of F) (roles_in F) rules) (first_stray_rule (setting_of F) (roles_in F) rules) (first_stray_part (setting_of F) (roles_in F) rules))

-- the verdict on what was read
abbrev answered : Answer (Policy × List Lines) → Answer Verdict
answered a = map_answer verdict_of (and_then a (λ (p : Policy × List Lines). accepted (verdict (setting_of p.0) (roles_in p.0) p.1)))

judged-read : (p : Policy × List Lines) (b : BothFiles) (grid : List ℕ) → b ≡ both_of p → SoundFiles p → GridLent (accepted p) grid → accepted (judged_by b (take (grid_cells b.file.operations) grid)) ≡ answered (accepted p)
unfolding both_of record_of record_with GridLent
judged-read p b grid m z e =
    ap (λ (x : BothFiles). accepted (judged_by x (take (grid_cells x.file.operations) grid))) m
    ∙ ap (λ (v : Verdict). accepted v) (judged p.0 p.1 z (take (grid_cells p.0.operations) grid) e)

-- THE LAWS: both files are refused, or they are read
module _ (file rules : List ℕ) where
  pub unjudged : (e : Refusal) → refused e ≡ map_answer both_of (read_both 2 file rules) → refused e ≡ map_answer verdict_of (judge 2 file rules)
  unfolding judge
  unjudged e h = sym (ap answered (map-refused both_of e (read_both 2 file rules) h))

  -- by what the comparison of the two grids found
  pub judged-so : (b : BothFiles) (grid t : List ℕ) (d : Found (ℕ × ℕ × ℕ)) → accepted b ≡ map_answer both_of (read_both 2 file rules) → GridLent (read_both 2 file rules) grid
      → t ≡ grid_of b.file.operations (granted_by b.file.holders b.file.permissions b.file.roles)
      → d ≡ difference_of (grid_difference t (take (grid_cells b.file.operations - 0) grid) b.file.users b.file.resources b.file.operations)
      → accepted (by_outcomes d b.stray (stray_in b)) ≡ map_answer verdict_of (judge 2 file rules)
  unfolding judge difference_in judged_by
  judged-so b grid t d h g roles q =
      let p = both-accepted file rules b h in
      ap (λ (x : Found (ℕ × ℕ × ℕ)). accepted (by_outcomes x b.stray (stray_in b)))
      (q ∙ ap₂ (λ (x y : List ℕ). difference_of (grid_difference x y b.file.users b.file.resources b.file.operations)) roles (first-words (grid_cells b.file.operations) grid))
      ∙ judged-read p.from.value b grid p.from.made p.sound (subst (λ (a : Answer (Policy × List Lines)). GridLent a grid) p.from.is g)
      ∙ sym (ap answered p.from.is)

-- what the three comparisons found
module _ {d d' : Found (ℕ × ℕ × ℕ)} {i i' p p' : Found ℕ} (of-grids : d ≡ d') (of-rules : i ≡ i') (of-parts : p ≡ p') where
  pub outcome : {a : Answer Verdict} → accepted (by_outcomes d i p) ≡ a → accepted (by_outcomes d' i' p') ≡ a
  outcome h = sym (ap (λ (x : Found (ℕ × ℕ × ℕ)). accepted (by_outcomes x i p)) of-grids ∙ ap₂ (λ (x y : Found ℕ). accepted (by_outcomes d' x y)) of-rules of-parts) ∙ h

-- ---- the roles' grid, with the words behind it

module _ (n : ℕ) (G : Block) (part rest : List ℕ) (e : part ≡ grid_of n G) where
  pub roles_lent : take (grid_cells n - 0) (part ++ rest) ≡ grid_of n G
  roles_lent = first-words (grid_cells n) (part ++ rest) ∙ grid_first n G part rest e

  pub roles-long : length (take (grid_cells n - 0) (part ++ rest)) ≡ grid_cells n
  roles-long = ap length roles_lent ∙ grid_long n G

  pub roles-within : grid_cells n ≤ length (part ++ rest)
  roles-within = omega (arith, length-append part rest, ap length e ∙ grid_long n G)
