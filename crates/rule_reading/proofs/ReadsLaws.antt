-- The state of the reader's loop beside the record of a role file, in the terms of the code.
-- Assumes nothing.
use Rattle.std.specs.Prelude.{ℕ, ◌+◌, ◌≤◌, ◌<◌, ◌-◌, eqb, drop, replicate, true, false, ◌≡◌, Ok}
use Rattle.std.proofs.Common.{ne_eqb, length-drop, sym, ◌∙◌, arith}
use Rattle.std.proofs.Math.ListN.{length}
use mathlib.Core.List.{List}
use Rattle.std.proofs.Math.Path.{refl, ap, subst}
use Rattle.role_record.specs.Cells.{grid_cells}
use Rattle.role_record.specs.Record.{table_of, attribute_table, record_with, record_of, sizes_of, WithinLimits, FewAttributes}
use Rattle.files.specs.Beside.{beside_of}
use Rattle.files.specs.Answer.{Answer, map_answer, refused, accepted}
use Rattle.files.specs.Cause.{cause}
use Rattle.files.specs.declared.refusal.Refusal.{Refusal}
use Rattle.files.specs.RuleFile.{Lines, rule_format}
use Rattle.grant_grids.specs.Grid.{grid_of}
use Rattle.grant_grids.proofs.GridLaws.{grid_long, no_triples}
use Rattle.grant_grids.specs.Links.{links_of}
use Rattle.rule_operands.specs.Checked.{checked_of}
use Rattle.policy.specs.Policy.{Policy}
use Rattle.policy.specs.Rules.{user, resource}
use Rattle.rule_commands.specs.Raw.{raw_of, Sided}
use Rattle.rule_reading.specs.BothFiles.{both_of, GridShown}
use Rattle.rule_reading.proofs.RuleStateLaws.{State, both_with, begin, turn-fails, some_bytes, not_past, close_refused, opened, ended-late, ended, line_refused, line-illegal, line-unlevelled, line-legal, line-added, start, outcome, outcome_beside, line-sided}
use Rattle.rule_notes.specs.Tally.{begun_with, opened_with, finished_with, finished_grid}
use Rattle.rule_notes.specs.LineSteps.{noted_with, met_after, PartWithin, listed_after, seen_by, again_by}
use Rattle.rule_steps.specs.ShowsLaws.{part-within}
use Rattle.role_record.specs.declared.RoleFile.{RoleFile}
use Rattle.rule_commands.specs.declared.Raw.{Raw}
use Rattle.rule_commands.specs.declared.RuleCommand.{RuleCommand}
use Rattle.rule_notes.specs.declared.Tally.{Tally}
use Rattle.files.specs.Bytes.{read}
use Rattle.rule_reading.proofs.TurnLaws.{Refuses, failed, unfinished, late, misplaced, illegal, unlevelled, Closing, Lining}
use Rattle.rule_reading.specs.Turns.{closes_rule, Tabled, read_beside}

-- ---- the bytes behind which no line of a rule stands

pub closes-opening : (b : ℕ) → b ≡ 0x21 → true ≡ closes_rule b
closes-opening b e = rw e refl

pub closes-other : (b : ℕ) → (b ≡ 0x21 → ⊥) → eqb b 0x2F ≡ closes_rule b
closes-other b e = rw (ne_eqb b 0x21 e) refl

module _ (F : Policy) (f : RoleFile) (links : List ℕ) (v : Tabled F f links) where
  -- what holds for the record and the links of the policy holds for those of the code
  at-record : (Q : RoleFile → List ℕ → Type 0) → Q (record_of F) (links_of F) → Q f links
  at-record Q q = subst (Q f) (sym v.linked) (subst (λ (g : RoleFile). Q g (links_of F)) (sym v.shown) q)

  pub within-limits : WithinLimits (sizes_of f)
  unfolding record_of record_with
  within-limits = at-record (λ g l. WithinLimits (sizes_of g)) (v.sized.many user, v.sized.many resource, v.sized.operable, v.sized.few)

  -- a table that was cleared is the grid of no triples
  cleared : (before after : List ℕ) → length before ≡ grid_cells f.operations → after ≡ table_of (length before) (λ i. 0) → after ≡ grid_of F.operations (λ u r o. false)
  unfolding record_of record_with
  cleared before after = at-record (λ g l. length before ≡ grid_cells g.operations → after ≡ table_of (length before) (λ i. 0) → after ≡ grid_of F.operations (λ u r o. false)) (no_triples F.operations before after)

  pub reads_begun : (rules : List ℕ) (k : Tally) (listed₀ grid₀ listed grid : List ℕ) → k ≡ begun_with → length listed₀ ≡ grid_cells f.operations → length grid₀ ≡ grid_cells f.operations
      → listed ≡ table_of (length listed₀) (λ i. 0) → grid ≡ table_of (length grid₀) (λ i. 0) → State F rules k (replicate 14 0) listed grid (replicate 32 0) (replicate 32 0) 0
  reads_begun rules k listed₀ grid₀ listed grid p a b q r =
      subst (λ (n : Tally). State F rules n (replicate 14 0) listed grid (replicate 32 0) (replicate 32 0) 0) (sym p) (begin F rules listed grid (cleared listed₀ listed a q) (cleared grid₀ grid b r))

  pub few-attributes : FewAttributes f.attributes
  unfolding record_of record_with attribute_table
  few-attributes = at-record (λ g l. FewAttributes g.attributes) (v.sized.declared user, v.sized.declared resource)

  module _ (rules : List ℕ) (k : Tally) (met listed grid seen again : List ℕ) (at : ℕ) (t : State F rules k met listed grid seen again at) where
    pub inside : (at ≤ length rules) × (k.rules ≤ at)
    inside = (t.within, t.few)

    -- the tables have the words of the operations declared
    pub tables-long : (length listed ≡ grid_cells f.operations) × (length grid ≡ grid_cells f.operations)
    unfolding record_of record_with
    tables-long = at-record (λ g l. (length listed ≡ grid_cells g.operations) × (length grid ≡ grid_cells g.operations)) (ap length t.shows.listed-shown ∙ grid_long F.operations _, ap length t.shows.grid_shown ∙ grid_long F.operations _)

    -- a command takes some bytes, and no more than there are
    pub command-bytes : (a : Raw) (w : ℕ) → raw_of (drop at rules) ≡ Ok (a, w) → (0 < w) × (w ≤ length rules - at)
    command-bytes a w e = (some_bytes F v.sized rules k met listed grid seen again at t a w e, not_past F v.sized rules k met listed grid seen again at t a w e)

    -- the end is where all bytes are taken
    at-end : (w : ℕ) → w ≡ length (drop at rules) → at + w ≡ length rules
    at-end w e = let i = t.within in let d = length-drop at rules in omega arith

    no_end : (w : ℕ) → (w ≡ length (drop at rules) → ⊥) → at + w ≡ length rules → ⊥
    no_end w n e = let i = t.within in let d = length-drop at rules in n (omega arith)

    checked : (a : Raw) → checked_of a (record_of F) ≡ checked_of a f
    checked a = ap (checked_of a) (sym v.shown)

    pub reads_refused : (e : Refusal) → Refuses k (drop at rules) f e → (g : List ℕ) → (refused (cause e) ≡ map_answer both_of (read_beside F rules)) × GridShown (read_beside F rules) g
    unfolding GridShown
    reads_refused e r g =
        let q = go e r ∙ outcome_beside F rules in
        (ap (map_answer both_of) q, subst (λ (a : Answer (Policy × List Lines)). GridShown a g) q tt)
      where
        go : (e : Refusal) → Refuses k (drop at rules) f e → refused (cause e) ≡ outcome F (read (rule_format 2 (beside_of F)) start rules)
        go _ (failed d h) = turn-fails F v.sized rules k met listed grid seen again at t d h
        go _ (unfinished a w e h m) = close_refused F v.sized rules k met listed grid seen again at t a w e h m
        go _ (late a w e h z d) = ended-late F v.sized rules k met listed grid seen again at t a w e h z (no_end w d)
        go _ (misplaced a w e n h) = line_refused F v.sized rules k met listed grid seen again at t a w e n h
        go _ (illegal a w e n h i) = line-illegal F v.sized rules k met listed grid seen again at t a w e n h (checked a ∙ i)
        go _ (unlevelled a w c e n h i u) = line-unlevelled F v.sized rules k met listed grid seen again at t a w e n h c (checked a ∙ i) u

    -- ---- a 21 or 2F

    module _ (n : Tally) (g : List ℕ) (p : n ≡ finished_with k met listed links f.users f.resources f.operations) (q : g ≡ finished_grid k met links f.users f.resources f.operations grid) where
      rule-opened : (w : ℕ) → Closing k (drop at rules) f 0x21 w
          → State F rules (opened_with (finished_with k met listed links f.users f.resources f.operations)) (replicate 14 0) (grid_of F.operations (λ u r o. false)) (finished_grid k met links f.users f.resources f.operations grid) seen again (at + w)
      unfolding record_of record_with
      rule-opened w c =
          at-record
          (λ r l. State F rules (opened_with (finished_with k met listed l r.users r.resources r.operations)) (replicate 14 0) (grid_of F.operations (λ u r o. false)) (finished_grid k met l r.users r.resources r.operations grid) seen again (at + w))
          (opened F v.sized rules k met listed grid seen again at t c.line w c.front c.closable c.closes)

      pub reads_opened : (w : ℕ) → Closing k (drop at rules) f 0x21 w → (m : Tally) (blank : List ℕ) → m ≡ opened_with n → blank ≡ table_of (length listed) (λ i. 0)
          → State F rules m (replicate 14 0) blank g seen again (at + w)
      reads_opened w c m blank i j =
          subst (λ (l : List ℕ). State F rules m (replicate 14 0) blank l seen again (at + w)) (sym q)
          (subst (λ (l : List ℕ). State F rules m (replicate 14 0) l (finished_grid k met links f.users f.resources f.operations grid) seen again (at + w)) (sym (cleared listed blank tables-long.0 j))
          (subst (λ (z : Tally). State F rules z (replicate 14 0) (grid_of F.operations (λ u r o. false)) (finished_grid k met links f.users f.resources f.operations grid) seen again (at + w)) (sym (i ∙ ap opened_with p)) (rule-opened w c)))

      rules-ended : Closing k (drop at rules) f 0x2F (length (drop at rules))
          → (accepted (both_with f (finished_with k met listed links f.users f.resources f.operations) seen again) ≡ map_answer both_of (read_beside F rules)) × GridShown (read_beside F rules) (finished_grid k met links f.users f.resources f.operations grid)
      unfolding record_of record_with
      rules-ended c =
          let e = ended F v.sized rules k met listed grid seen again at t c.line _ c.front c.closable c.closes (at-end _ refl) in
          let o = outcome_beside F rules in
          at-record
          (λ r l. (accepted (both_with r (finished_with k met listed l r.users r.resources r.operations) seen again) ≡ map_answer both_of (read_beside F rules)) × GridShown (read_beside F rules) (finished_grid k met l r.users r.resources r.operations grid))
          (e.0 ∙ ap (map_answer both_of) o, subst (λ (a : Answer (Policy × List Lines)). GridShown a (finished_grid k met (links_of F) (F.table user).count (F.table resource).count F.operations grid)) o e.1)

      pub reads_ended : Closing k (drop at rules) f 0x2F (length (drop at rules)) → (accepted (both_with f n seen again) ≡ map_answer both_of (read_beside F rules)) × GridShown (read_beside F rules) g
      reads_ended c = let e = rules-ended c in (ap (λ (m : Tally). accepted (both_with f m seen again)) p ∙ e.0, subst (GridShown (read_beside F rules)) (sym q) e.1)

    -- ---- a line

    module _ (c : RuleCommand) (a : Raw) (w : ℕ) (d : Lining k (drop at rules) f c a w) where
      pub line-within : Sided c × PartWithin c
      line-within = (
        line-sided F v.sized rules k met listed grid seen again at t a w d.front d.lines d.placed c (checked a ∙ d.made),
        part-within F v.sized c (line-legal F v.sized rules k met listed grid seen again at t a w d.front d.lines d.placed c (checked a ∙ d.made)),
      )

      line_read : State F rules (noted_with k c a) (met_after f.users f.resources f.roles f.known f.values f.holders met c) (listed_after f.operations f.holders f.permissions listed c) grid (seen_by seen c) (again_by seen again c) (at + w)
      unfolding record_of record_with
      line_read =
          at-record
          (λ g l. State F rules (noted_with k c a) (met_after g.users g.resources g.roles g.known g.values g.holders met c) (listed_after g.operations g.holders g.permissions listed c) grid (seen_by seen c) (again_by seen again c) (at + w))
          (line-added F v.sized rules k met listed grid seen again at t a w d.front d.lines d.placed c (checked a ∙ d.made) d.told)

      pub reads_line : (m : Tally) (met₁ listed₁ seen₁ again₁ : List ℕ) → m ≡ noted_with k c a → met₁ ≡ met_after f.users f.resources f.roles f.known f.values f.holders met c → listed₁ ≡ listed_after f.operations f.holders f.permissions listed c
          → seen₁ ≡ seen_by seen c → again₁ ≡ again_by seen again c → State F rules m met₁ listed₁ grid seen₁ again₁ (at + w)
      reads_line m met₁ listed₁ seen₁ again₁ p q r s u =
          subst (λ (n : Tally). State F rules n met₁ listed₁ grid seen₁ again₁ (at + w)) (sym p)
          (subst (λ (l : List ℕ). State F rules (noted_with k c a) l listed₁ grid seen₁ again₁ (at + w)) (sym q)
          (subst (λ (l : List ℕ). State F rules (noted_with k c a) (met_after f.users f.resources f.roles f.known f.values f.holders met c) l grid seen₁ again₁ (at + w)) (sym r)
          (subst (λ (l : List ℕ). State F rules (noted_with k c a) (met_after f.users f.resources f.roles f.known f.values f.holders met c) (listed_after f.operations f.holders f.permissions listed c) grid l again₁ (at + w)) (sym s)
          (subst (λ (l : List ℕ). State F rules (noted_with k c a) (met_after f.users f.resources f.roles f.known f.values f.holders met c) (listed_after f.operations f.holders f.permissions listed c) grid (seen_by seen c) l (at + w)) (sym u) line_read))))
