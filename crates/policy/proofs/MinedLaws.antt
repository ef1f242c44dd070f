-- What holds of the groups that mining leaves and of their rules: the third demand, of rules as values, for every list of cuts.
-- Assumes nothing.
use Rattle.std.specs.Prelude.{ℕ, ◌+◌, ◌≤◌, ◌<◌, max, length, ◌||◌, List, [], ◌≡◌, refl}
use Rattle.std.proofs.Math.ListN.{get_or}
use Rattle.std.proofs.Math.Path.{ap}
use Rattle.std.proofs.Common.{◌∙◌, zero-add}
use Rattle.policy.specs.Covering.{cover, fits, level_of}
use Rattle.policy.proofs.GroupLaws.{times, parts-count, part-once, groups-parts, groups-ascending, groups-union, groups-some, groups_fit, rule, no_pair}
use Rattle.policy.specs.Merging.{low_part}
use Rattle.policy.proofs.MergeLaws.{total}
use Rattle.policy.specs.Mined.{part_count, part_at, part_block, mined_groups, merge_count, group_block, rule_of}
use Rattle.policy.proofs.PartLaws.{part-some, Own, part-fits}
use Rattle.policy.specs.Roles.{Roles, parts, block_of, roles_grant}
use Rattle.policy.proofs.RuleLaws.{Lawful}
use Rattle.policy.specs.Rules.{Setting, Rule, grants, at, rule_level, Triple, NotEmpty, Same, struck}
use Rattle.policy.proofs.SegmentLaws.{mined-run}
use Rattle.policy.proofs.ThinLaws.{written-exact, written-thin, written-level, no_lower}
use Rattle.policy.specs.Thinning.{thinned, written}
use Rattle.sets.specs.Sorted.{Ascending}
use Rattle.sets.specs.Tests.{Is, ◌is_in◌, any, up_to}
use Rattle.sets.specs.TestLaws.{get_d_in, any_places, any_ext}

module _ (P : Setting) (R : Roles) (cuts : List ℕ) where
  pub record MinedRules : Type 0 where
    -- the rules grant a triple exactly when the roles do
    pub triples : (u r o : ℕ) → Triple P u r o → any (λ g. grants P (rule_of P R g) u r o) (mined_groups P R cuts) ≡ roles_grant P R u r o
    -- every part stands in exactly one group, and there once; the groups have no other members
    pub once : (p : ℕ) → p < part_count P R → total ◌+◌ 0 (times p) (mined_groups P R cuts) ≡ 1
    pub members : (g : List ℕ) → g is_in mined_groups P R cuts → (p : ℕ) → p is_in g → p < part_count P R
    -- a group's block is not empty, and fits its level
    pub filled : (g : List ℕ) → g is_in mined_groups P R cuts → NotEmpty P (group_block P R g)
    pub fitting : (g : List ℕ) → g is_in mined_groups P R cuts → Is (fits P (group_block P R g) (level_of P (group_block P R g)))
    -- a rule grants what its parts do
    pub exact : (g : List ℕ) → g is_in mined_groups P R cuts → Same P (grants P (rule_of P R g)) (group_block P R g)
    -- no rule of a lower level could grant the same
    pub lower : (g : List ℕ) → g is_in mined_groups P R cuts → (ρ : Rule) → Is (at P 3 ρ) → rule_level P ρ < rule_level P (rule_of P R g) → Same P (grants P ρ) (grants P (rule_of P R g)) → ⊥
    -- for no two rules could a single one
    pub pairs : (i j : ℕ) → i < j → j < length (mined_groups P R cuts) → (ρ : Rule) → Is (at P 3 ρ)
        → rule_level P ρ ≤ max (rule_level P (rule_of P R (get_or (mined_groups P R cuts) i []))) (rule_level P (rule_of P R (get_or (mined_groups P R cuts) j [])))
        → Same P (grants P ρ) (λ u r o. grants P (rule_of P R (get_or (mined_groups P R cuts) i [])) u r o || grants P (rule_of P R (get_or (mined_groups P R cuts) j [])) u r o) → ⊥
    -- striking one conjunct or atom would change the grants
    pub thin : (g : List ℕ) → g is_in mined_groups P R cuts → (i : ℕ) → i < length (rule_of P R g).conds → Same P (grants P (struck i (rule_of P R g))) (grants P (rule_of P R g)) → ⊥
    -- the level of a rule is that of its parts' union
    pub level : (g : List ℕ) → g is_in mined_groups P R cuts → rule_level P (rule_of P R g) ≡ level_of P (group_block P R g)
    -- a rule is the covering rule of its parts at its level, thinned
    pub shape : (g : List ℕ) → g is_in mined_groups P R cuts → rule_of P R g ≡ thinned P (group_block P R g) (cover P (group_block P R g) (rule_level P (rule_of P R g)))
    -- the groups stand by lowest part
    pub order : Ascending (low_part (part_count P R)) (mined_groups P R cuts)
    pub counted : part_count P R ≡ length (mined_groups P R cuts) + merge_count P R cuts

  module _ (L : Lawful P) (O : Own P R) where
    numbered-fits : (p : ℕ) → p < part_count P R → Is (fits P (part_block P R p) 3)
    unfolding part_block part_at part_count
    numbered-fits p h = part-fits P R L O (get_or (parts P R) p (record { role = 0; lead = 0 })) (get_d_in (parts P R) (record { role = 0; lead = 0 }) p h)

    numbered-some : (p : ℕ) → p < part_count P R → NotEmpty P (part_block P R p)
    unfolding part_block part_at part_count
    numbered-some p h = part-some P R (get_d_in (parts P R) (record { role = 0; lead = 0 }) p h)

    group-fits : (g : List ℕ) → g is_in mined_groups P R cuts → Is (fits P (group_block P R g) (level_of P (group_block P R g)))
    unfolding group_block
    group-fits = groups_fit P (part_block P R) (part_count P R) (mined_groups P R cuts) (merge_count P R cuts) (mined-run P R cuts) L numbered-fits

    all-parts : (u r o : ℕ) → any (λ p. part_block P R p u r o) (up_to (part_count P R)) ≡ roles_grant P R u r o
    unfolding part_block part_at part_count roles_grant
    all-parts u r o =
        any_places (λ p. block_of P R p u r o) (record { role = 0; lead = 0 }) 0 (parts P R) (λ p. get_or (parts P R) p (record { role = 0; lead = 0 }))
        (λ i l. ap (λ (k : ℕ). get_or (parts P R) k (record { role = 0; lead = 0 })) (zero-add i))

    group-some : (g : List ℕ) → g is_in mined_groups P R cuts → NotEmpty P (group_block P R g)
    unfolding group_block
    group-some = groups-some P (part_block P R) (part_count P R) (mined_groups P R cuts) (merge_count P R cuts) (mined-run P R cuts) numbered-some

    pub mined-rules : MinedRules
    unfolding group_block rule_of rule written
    mined-rules = record {
      triples = λ u r o t. any_ext (λ g. grants P (rule_of P R g) u r o) (λ g. group_block P R g u r o) (mined_groups P R cuts) (λ g m. written-exact P L (group_block P R g) (group-fits g m) u r o t)
          ∙ groups-union P (part_block P R) (part_count P R) (mined_groups P R cuts) (merge_count P R cuts) (mined-run P R cuts) u r o ∙ all-parts u r o;
      once = part-once P (part_block P R) (part_count P R) (mined_groups P R cuts) (merge_count P R cuts) (mined-run P R cuts);
      members = groups-parts P (part_block P R) (part_count P R) (mined_groups P R cuts) (merge_count P R cuts) (mined-run P R cuts);
      filled = group-some;
      fitting = group-fits;
      exact = λ g m. written-exact P L (group_block P R g) (group-fits g m);
      lower = λ g m. no_lower P L (group_block P R g) (group-fits g m);
      pairs = no_pair P (part_block P R) (part_count P R) (mined_groups P R cuts) (merge_count P R cuts) (mined-run P R cuts) L numbered-fits;
      thin = λ g m. written-thin P L (group_block P R g) (group-fits g m);
      level = λ g m. written-level P L (group_block P R g) (group-fits g m);
      shape = λ g m. rw (written-level P L (group_block P R g) (group-fits g m)) refl;
      order = groups-ascending P (part_block P R) (part_count P R) (mined_groups P R cuts) (merge_count P R cuts) (mined-run P R cuts);
      counted = parts-count P (part_block P R) (part_count P R) (mined_groups P R cuts) (merge_count P R cuts) (mined-run P R cuts);
    }
