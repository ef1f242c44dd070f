-- The first command of a rule file beside a role file that was accepted.
-- Assumes nothing.
use Rattle.std.specs.Prelude.{ℕ, ◌-◌, ◌≤◌, length, take, drop, List, ◌++◌, ◌≡◌}
use Rattle.std.proofs.Common.{take_at, length-take-le, sym, ◌∙◌, subst, arith}
use Rattle.std.proofs.Math.Path.{ap}
use Rattle.files.specs.Answer.{Refusal as Cause, Answer, and_then, map_answer, refused, accepted}
use Rattle.files.proofs.AnswerLaws.{map-refused, map-accepted}
use Rattle.files.specs.Beside.{shape_of, beside_of}
use Rattle.files.specs.Calls.{read_both}
use Rattle.files.specs.RoleFile.{read_roles}
use Rattle.files.specs.RuleFile.{Lines, opened, read_body, read_rules}
use Rattle.grant_grids.specs.Grid.{grid_of}
use Rattle.grant_grids.proofs.GridLaws.{grid_long}
use Rattle.grant_grids.specs.Links.{link_table}
use Rattle.policy.specs.Policy.{Policy}
use Rattle.policy.specs.Rules.{Block, resource}
use Rattle.role_record.specs.Cells.{grid_cells}
use Rattle.role_record.specs.Record.{Sized, record_with, record_of, sizes_of}
use Rattle.role_record.specs.declared.RoleFile.{RoleFile}
use Rattle.rule_opening.specs.Opening.{shape_in, opening_of}
use Rattle.rule_opening.specs.OpeningLaws.{shape-so, opened-rest}
use Rattle.rule_reading.specs.BothFiles.{both_of, GridShown, GridLent}
use Rattle.rule_reading.specs.Turns.{Tabled, read_beside}
use Rattle.rule_steps.specs.Shows.{granted_within}

-- ---- the role file

-- it was refused
pub roles-refused : (file rules : List ℕ) (e : Cause) → refused e ≡ map_answer record_of (read_roles 2 file) → refused e ≡ read_both 2 file rules
unfolding read_both
roles-refused file rules e h =
    ap (λ (r : Answer Policy). and_then r (λ F. and_then (read_rules 2 (beside_of F) rules) (λ ls. accepted (F, ls)))) (sym (map-refused record_of e (read_roles 2 file) h))

-- a refusal makes nothing, and lends no grid
pub nothing-made : (file rules : List ℕ) (e : Cause) (grid : List ℕ) → refused e ≡ read_both 2 file rules → (refused e ≡ map_answer both_of (read_both 2 file rules)) × GridLent (read_both 2 file rules) grid
unfolding GridLent
nothing-made file rules e grid q = (ap (map_answer both_of) q, subst (λ (a : Answer (Policy × List Lines)). GridLent a grid) q tt)

-- it was accepted: its record keeps to the limits, and the links are those of the policy that it states
module _ (F : Policy) (Z : Sized F) (f : RoleFile) (shown : f ≡ record_of F) where
  pub record-bounds : (f.resources ≤ 64) × (f.operations ≤ 16) × (f.roles ≤ 32)
  unfolding record_of record_with
  record-bounds = subst (λ (g : RoleFile). (g.resources ≤ 64) × (g.operations ≤ 16) × (g.roles ≤ 32)) (sym shown) (Z.many resource, Z.operable, Z.few)

  pub roles-tabled : (links : List ℕ) → links ≡ link_table f.known f.values f.kinds f.domains f.resources → Tabled F f links
  roles-tabled links q = record { sized = Z; shown = shown; linked = q ∙ ap (λ (g : RoleFile). link_table g.known g.values g.kinds g.domains g.resources) shown }

-- ---- the first command

module _ (file rules : List ℕ) (F : Policy) (stated : read_roles 2 file ≡ accepted F) (f : RoleFile) (shown : f ≡ record_of F) (r : Answer (Unit {0}))
    (q : r ≡ opening_of (shape_in (sizes_of f) f.attributes) rules) where
  -- the answer is that of the first command beside the policy's shape
  opening-so : r ≡ map_answer (λ rest. tt) (opened 2 (shape_of F) rules)
  opening-so =
      q
      ∙ ap (λ (g : RoleFile). opening_of (shape_in (sizes_of g) g.attributes) rules) shown
      ∙ ap (λ (s : List ℕ). opening_of s rules) (shape-so F)

  -- reading both files is reading the rule file beside that policy
  both_so : (a : Answer (List ℕ)) → opened 2 (shape_of F) rules ≡ a
      → and_then (and_then a (read_body 2 (beside_of F))) (λ ls. accepted (F, ls)) ≡ read_both 2 file rules
  unfolding read_both read_rules
  both_so a o =
      ap (λ (r : Answer (List ℕ)). and_then (and_then r (read_body 2 (beside_of F))) (λ ls. accepted (F, ls))) (sym o)
      ∙ ap (λ (r : Answer Policy). and_then r (λ G. and_then (read_rules 2 (beside_of G) rules) (λ ls. accepted (G, ls)))) (sym stated)

  -- THE LAWS: the first command is refused
  pub rules_unopened : (e : Cause) → r ≡ refused e → refused e ≡ read_both 2 file rules
  rules_unopened e h = both_so (refused e) (map-refused (λ rest. tt) e (opened 2 (shape_of F) rules) (sym h ∙ opening-so))

  -- or it is passed, and what stands behind it is read
  pub rules-opened : r ≡ accepted tt → (7 ≤ length rules) × (read_beside F (drop 7 rules) ≡ read_both 2 file rules)
  unfolding read_beside
  rules-opened h =
      let t = map-accepted (λ rest. tt) tt (opened 2 (shape_of F) rules) (sym h ∙ opening-so) in
      let o = opened-rest (shape_of F) rules t.value t.is in
      (o.0, both_so (accepted (drop 7 rules)) o.1)

-- ---- tables that are lent

-- the words before n
pub first-words : (n : ℕ) (l : List ℕ) → take (n - 0) l ≡ take n l
first-words n l = let e : n - 0 ≡ n = omega arith in ap (λ (k : ℕ). take k l) e

pub first-long : (n : ℕ) (l : List ℕ) → n ≤ length l → length (take (n - 0) l) ≡ n
first-long n l h = ap length (first-words n l) ∙ length-take-le n l h

-- a grid with others behind it
pub grid_first : (n : ℕ) (G : Block) (part rest : List ℕ) → part ≡ grid_of n G → take (grid_cells n) (part ++ rest) ≡ grid_of n G
grid_first n G part rest e = take_at part rest (grid_cells n) (ap length e ∙ grid_long n G) ∙ e

-- so the words of the operations declared are the grid that was read
pub grid_left : (part rest : List ℕ) (a b : Answer (Policy × List Lines)) → a ≡ b → GridShown a part → GridLent b (part ++ rest)
unfolding GridShown GridLent
grid_left part rest a b e g = subst (λ (c : Answer (Policy × List Lines)). GridLent c (part ++ rest)) e (go a g)
  where
    go : (c : Answer (Policy × List Lines)) → GridShown c part → GridLent c (part ++ rest)
    go (refused d) g = tt
    go (accepted p) g = grid_first p.0.operations (granted_within p.0 p.1) part rest g
