-- Of two settings of which one is the other with its users renumbered, all that mining asks is answered alike:
-- covering rules, levels, merging, thinning, parts, lines and costs.
-- Assumes nothing.
use Prim.Native.Nat.{ℕ, suc, max, ◌<◌}
use Rattle.std.proofs.Math.ListN.{length}
use Rattle.std.specs.Prelude.{Bool, ◌≡◌, eqb}
use Rattle.std.proofs.Math.Bool.{◌&&◌}
use mathlib.Core.List.{List, [], ◌∷◌, ◌++◌, map}
use Rattle.std.proofs.Math.Path.{refl, ap, ap₂, fun_ext}
use Rattle.std.proofs.Common.{◌∙◌}
use Rattle.files.specs.Calls.{mined_lines}
use Rattle.files.specs.RuleFile.{cond_lines, all_lines, lines_of}
use Rattle.policy.specs.Cost.{single_cost, set_cost, atom_cost, side_cost, rule_cost}
use Rattle.policy.specs.Covering.{known, all_know, values_of, op_in, pair_in, stands_in, everywhere, conjuncts, atom_conds, cover, fits, level_of}
use Rattle.policy.specs.Merging.{stages, union, mergeable}
use Rattle.policy.specs.Mined.{part_count, part_at, part_block, run_of, segments, mined_groups, merge_count, group_block, rule_of}
use Rattle.policy.specs.Roles.{Roles, Part, alike, leads, is_part, parts, block_of, class_of}
use Rattle.policy.specs.Rules.{Side, Which, Setting, Cond, Rule, Block, meets, attrs_of, own_at, holds, grants, allowed, at, rule_level, same_block, user, resource, conjunct, atom}
use Rattle.policy.specs.Thinning.{trim_cond, grants_just, thinned, written}
use Rattle.policy.specs.declared.Weights.{Weights}
use Rattle.renumbering.proofs.NumberLaws.{any_renumbered, all_renumbered, all-kept, sorted_kept}
use Rattle.renumbering.specs.Renumbered.{Renumbering}
use Rattle.sets.specs.ListLaws.{all_ext, each_ext}
use Rattle.sets.specs.Lowest.{lowest}
use Rattle.sets.specs.Sets.{bit, mask_of}
use Rattle.sets.specs.Tests.{imp, iff, all, any, keep, each, only, up_to, is_some}
use Rattle.sets.specs.TestLaws.{any_ext}

-- one setting is the other with its users renumbered
pub record SettingAs (P S : Setting) (π : Renumbering (P.side user).count) : Type 0 where
  pub count : (S.side user).count ≡ (P.side user).count
  pub attrs : (S.side user).attrs ≡ (P.side user).attrs
  pub is_set : (S.side user).is_set ≡ (P.side user).is_set
  pub domain : (S.side user).domain ≡ (P.side user).domain
  pub below : (S.side user).below ≡ (P.side user).below
  pub value : (a u : ℕ) → u < (P.side user).count → (S.side user).value a (π.to u) ≡ (P.side user).value a u
  pub resources : S.side resource ≡ P.side resource
  pub slots : S.slots ≡ P.slots

module _ (P S : Setting) (π : Renumbering (P.side user).count) (A : SettingAs P S π) where
  abbrev n : ℕ
  n = (P.side user).count

  abbrev rs : List ℕ
  rs = up_to (P.side resource).count

  -- a set of triples with its users renumbered
  abbrev pub BlockAs : Block → Block → Type 0
  BlockAs B C = (u r o : ℕ) → u < (P.side user).count → C (π.to u) r o ≡ B u r o

  -- ---- who stands in a set of triples

  op_same : (B C : Block) → BlockAs B C → (o : ℕ) → op_in S C o ≡ op_in P B o
  unfolding op_in
  op_same B C h o =
      rw (A.count, A.resources)
      (any_renumbered n π (λ u. any (λ r. B u r o) rs) (λ u. any (λ r. C u r o) rs)
      (λ u l. any_ext (λ r. C (π.to u) r o) (λ r. B u r o) rs (λ r m. h u r o l)))

  pair_same : (B C : Block) → BlockAs B C → (u r : ℕ) → u < n → pair_in S C (π.to u) r ≡ pair_in P B u r
  unfolding pair_in
  pair_same B C h u r l = rw A.slots (any_ext (λ o. C (π.to u) r o) (λ o. B u r o) (up_to P.slots) (λ o m. h u r o l))

  user-stands : (B C : Block) → BlockAs B C → (u : ℕ) → u < n → stands_in S C user (π.to u) ≡ stands_in P B user u
  unfolding stands_in
  user-stands B C h u l = rw A.resources (any_ext (λ r. pair_in S C (π.to u) r) (λ r. pair_in P B u r) rs (λ r m. pair_same B C h u r l))

  resource-stands : (B C : Block) → BlockAs B C → stands_in S C resource ≡ stands_in P B resource
  unfolding stands_in
  resource-stands B C h = fun_ext λ r. rw A.count (any_renumbered n π (λ u. pair_in P B u r) (λ u. pair_in S C u r) (λ u l. pair_same B C h u r l))

  -- ---- what rules grant

  -- a condition holds of a user under either number
  holds_same : (c : Cond) (u r : ℕ) → u < n → holds S c (π.to u) r ≡ holds P c u r
  unfolding holds meets
  holds_same (conjunct user a vs) u r l = rw (A.below, A.value a u l) refl
  holds_same (conjunct resource a vs) u r l = rw A.resources refl
  holds_same (atom a b) u r l = rw (A.domain, A.is_set, A.resources, A.value a u l) refl

  grants-same : (ρ : Rule) → BlockAs (grants P ρ) (grants S ρ)
  unfolding grants
  grants-same ρ u r o l = ap (λ (b : Bool). bit ρ.ops o && b) (all_ext (λ c. holds S c (π.to u) r) (λ c. holds P c u r) ρ.conds (λ c m. holds_same c u r l))

  everywhere-same : (B C : Block) → BlockAs B C → (c : Cond) → everywhere S C c ≡ everywhere P B c
  unfolding everywhere
  everywhere-same B C h c =
      rw (A.count, A.resources)
      (all_renumbered n π (λ u. all (λ r. imp (pair_in P B u r) (holds P c u r)) rs) (λ u. all (λ r. imp (pair_in S C u r) (holds S c u r)) rs)
      (λ u l. all_ext (λ r. imp (pair_in S C (π.to u) r) (holds S c (π.to u) r)) (λ r. imp (pair_in P B u r) (holds P c u r)) rs
      (λ r m. ap₂ imp (pair_same B C h u r l) (holds_same c u r l))))

  block_same : (B₁ B₂ C₁ C₂ : Block) → BlockAs B₁ C₁ → BlockAs B₂ C₂ → same_block S C₁ C₂ ≡ same_block P B₁ B₂
  unfolding same_block
  block_same B₁ B₂ C₁ C₂ h k =
      rw (A.count, A.resources, A.slots)
      (all_renumbered n π (λ u. all (λ r. all (λ o. iff (B₁ u r o) (B₂ u r o)) (up_to P.slots)) rs) (λ u. all (λ r. all (λ o. iff (C₁ u r o) (C₂ u r o)) (up_to P.slots)) rs)
      (λ u l. all_ext (λ r. all (λ o. iff (C₁ (π.to u) r o) (C₂ (π.to u) r o)) (up_to P.slots)) (λ r. all (λ o. iff (B₁ u r o) (B₂ u r o)) (up_to P.slots)) rs
      (λ r m. all_ext (λ o. iff (C₁ (π.to u) r o) (C₂ (π.to u) r o)) (λ o. iff (B₁ u r o) (B₂ u r o)) (up_to P.slots) (λ o q. ap₂ iff (h u r o l) (k u r o l)))))

  -- ---- covering

  users-known : (B C : Block) → BlockAs B C → (a : ℕ) → all_know (S.side user) (stands_in S C user) a ≡ all_know (P.side user) (stands_in P B user) a
  unfolding all_know
  users-known B C h a =
      rw A.count
      (all-kept n π (stands_in P B user) (stands_in S C user) (user-stands B C h)
      (λ w. is_some ((P.side user).value a w)) (λ w. is_some ((S.side user).value a w)) (λ u l. ap is_some (A.value a u l)))

  users-values : (B C : Block) → BlockAs B C → (a : ℕ) → values_of (S.side user) (stands_in S C user) a ≡ values_of (P.side user) (stands_in P B user) a
  unfolding values_of
  users-values B C h a =
      rw A.count
      (sorted_kept n π (stands_in P B user) (stands_in S C user) (user-stands B C h)
      (λ w. known ((P.side user).value a w)) (λ w. known ((S.side user).value a w)) (λ u l. ap known (A.value a u l)))

  conjuncts-same : (B C : Block) → BlockAs B C → (l : ℕ) (w : Which) → conjuncts S C l w ≡ conjuncts P B l w
  unfolding conjuncts attrs_of all_know values_of
  conjuncts-same B C h l user =
      rw A.attrs
      (each_ext
      (λ a. only (all_know (S.side user) (stands_in S C user) a) (conjunct user a (values_of (S.side user) (stands_in S C user) a)))
      (λ a. only (all_know (P.side user) (stands_in P B user) a) (conjunct user a (values_of (P.side user) (stands_in P B user) a)))
      (attrs_of (P.side user) (own_at user l))
      (λ a m. ap₂ (λ (b : Bool) (vs : List ℕ). only b (conjunct user a vs)) (users-known B C h a) (users-values B C h a)))
  conjuncts-same B C h l resource = rw (A.resources, resource-stands B C h) refl

  atoms-same : (B C : Block) → BlockAs B C → atom_conds S C ≡ atom_conds P B
  unfolding atom_conds
  atoms-same B C h =
      rw (A.attrs, A.resources)
      (each_ext
      (λ a. each (λ b. only (everywhere S C (atom a b)) (atom a b)) (up_to (P.side resource).attrs))
      (λ a. each (λ b. only (everywhere P B (atom a b)) (atom a b)) (up_to (P.side resource).attrs))
      (up_to (P.side user).attrs)
      (λ a m. each_ext (λ b. only (everywhere S C (atom a b)) (atom a b)) (λ b. only (everywhere P B (atom a b)) (atom a b)) (up_to (P.side resource).attrs)
      (λ b q. ap (λ (t : Bool). only t (atom a b)) (everywhere-same B C h (atom a b)))))

  cover-same : (B C : Block) → BlockAs B C → (l : ℕ) → cover S C l ≡ cover P B l
  unfolding cover
  cover-same B C h l =
      let e : op_in S C ≡ op_in P B = fun_ext λ o. op_same B C h o in
      ap₂ (λ (m : ℕ) (cs : List Cond). record { ops = m; conds = cs })
      (ap₂ mask_of A.slots e)
      (ap₂ ◌++◌ (ap₂ ◌++◌ (conjuncts-same B C h l user) (conjuncts-same B C h l resource)) (atoms-same B C h))

  fits-same : (B C : Block) → BlockAs B C → fits S C ≡ fits P B
  unfolding fits
  fits-same B C h = fun_ext λ l. rw (cover-same B C h l) (block_same (grants P (cover P B l)) B (grants S (cover P B l)) C (grants-same (cover P B l)) h)

  level-same : (B C : Block) → BlockAs B C → level_of S C ≡ level_of P B
  unfolding level_of
  level-same B C h = ap lowest (fits-same B C h)

  -- ---- merging

  module _ (block other : ℕ → Block) (h : (p : ℕ) → BlockAs (block p) (other p)) where
    union-same : (g : List ℕ) → BlockAs (union P block g) (union S other g)
    unfolding union
    union-same g u r o l = any_ext (λ p. other p (π.to u) r o) (λ p. block p u r o) g (λ p m. h p u r o l)

    -- whatever the blocks are: two groups may become one under either numbering
    pub mergeable-same : mergeable S other ≡ mergeable P block
    unfolding mergeable
    mergeable-same = fun_ext λ g. fun_ext λ k.
        ap₂ (λ (f : ℕ → Bool) (n : ℕ). any f (up_to (suc n)))
        (fits-same (union P block (g ++ k)) (union S other (g ++ k)) (union-same (g ++ k)))
        (ap₂ (λ (m n : ℕ). max m n)
        (level-same (union P block g) (union S other g) (union-same g))
        (level-same (union P block k) (union S other k) (union-same k)))

  -- ---- thinning

  trim_same : trim_cond S ≡ trim_cond P
  unfolding trim_cond
  trim_same = fun_ext go
    where
      go : (c : Cond) → trim_cond S c ≡ trim_cond P c
      go (conjunct user a vs) = rw A.below refl
      go (conjunct resource a vs) = refl
      go (atom a b) = refl

  just_same : (B C : Block) → BlockAs B C → (f : ℕ) → grants_just S C f ≡ grants_just P B f
  unfolding grants_just
  just_same B C h f = fun_ext λ cs. block_same (grants P (record { ops = f; conds = cs })) B (grants S (record { ops = f; conds = cs })) C (grants-same (record { ops = f; conds = cs })) h

  written_same : (B C : Block) → BlockAs B C → written S C ≡ written P B
  unfolding written thinned
  written_same B C h = rw (level-same B C h, cover-same B C h (level_of P B), trim_same, just_same B C h (cover P B (level_of P B)).ops) refl

  -- ---- a rule's level, lines and cost

  set_same : (w : Which) → (S.side w).is_set ≡ (P.side w).is_set
  set_same user = A.is_set
  set_same resource = ap (λ (s : Side). s.is_set) A.resources

  attrs-same : (w : Which) → (S.side w).attrs ≡ (P.side w).attrs
  attrs-same user = A.attrs
  attrs-same resource = ap (λ (s : Side). s.attrs) A.resources

  allowed_same : (l : ℕ) → allowed S l ≡ allowed P l
  unfolding allowed attrs_of
  allowed_same l = fun_ext go
    where
      go : (c : Cond) → allowed S l c ≡ allowed P l c
      go (conjunct w a vs) = rw (attrs-same w) refl
      go (atom a b) = rw (attrs-same user, attrs-same resource) refl

  rule_level_same : rule_level S ≡ rule_level P
  unfolding rule_level at
  rule_level_same = fun_ext λ ρ. ap lowest (fun_ext λ l. ap (λ (f : Cond → Bool). all f ρ.conds) (allowed_same l))

  lines_same : cond_lines S ≡ cond_lines P
  unfolding cond_lines
  lines_same = fun_ext go
    where
      go : (c : Cond) → cond_lines S c ≡ cond_lines P c
      go (conjunct w a vs) = rw (set_same w) refl
      go (atom a b) = refl

  pub cost-same : (weights : Weights) → rule_cost S weights ≡ rule_cost P weights
  unfolding rule_cost side_cost single_cost set_cost atom_cost
  cost-same weights = fun_ext λ ρ. rw (single, sets) refl
    where
      single : single_cost S ≡ single_cost P
      single = fun_ext go
        where
          go : (c : Cond) → single_cost S c ≡ single_cost P c
          go (conjunct w a vs) = rw (set_same w) refl
          go (atom a b) = refl

      sets : set_cost S ≡ set_cost P
      sets = fun_ext go
        where
          go : (c : Cond) → set_cost S c ≡ set_cost P c
          go (conjunct w a vs) = rw (set_same w) refl
          go (atom a b) = refl

-- ---- roles and parts

-- one file's roles are the other's, with the users renumbered
pub record RolesAs (n : ℕ) (π : Renumbering n) (R T : Roles) : Type 0 where
  pub number : T.number ≡ R.number
  pub gives : T.gives ≡ R.gives
  pub held : (k u : ℕ) → u < n → T.held k (π.to u) ≡ R.held k u

module _ (P S : Setting) (π : Renumbering (P.side user).count) (A : SettingAs P S π) (R T : Roles) (H : RolesAs (P.side user).count π R T) where
  alike_same : alike S T ≡ alike P R
  unfolding alike
  alike_same = fun_ext λ k. fun_ext λ o. fun_ext λ q. rw (H.gives, A.resources) refl

  leads-same : leads S T ≡ leads P R
  unfolding leads
  leads-same = fun_ext λ k. fun_ext λ o. rw (alike_same, H.gives, A.resources) refl

  part_same : is_part S T ≡ is_part P R
  unfolding is_part
  part_same = fun_ext λ k. fun_ext λ o.
      ap₂ ◌&&◌
      (ap (λ (c : ℕ). any (λ u. T.held k u) (up_to c)) A.count ∙ any_renumbered (P.side user).count π (λ u. R.held k u) (λ u. T.held k u) (λ u l. H.held k u l))
      (ap (λ (f : ℕ → ℕ → Bool). f k o) leads-same)

  parts_same : parts S T ≡ parts P R
  unfolding parts
  parts_same = rw (part_same, A.slots, H.number) refl

  blocks_same : (p : Part) → BlockAs P S π A (block_of P R p) (block_of S T p)
  unfolding block_of
  blocks_same p u r o l = rw (alike_same, H.held p.role u l, H.gives) refl

  class_same : class_of S T ≡ class_of P R
  unfolding class_of
  class_same = fun_ext λ p. rw (alike_same, A.slots) refl

  pub count_same : part_count S T ≡ part_count P R
  unfolding part_count
  count_same = ap length parts_same

  at_same : part_at S T ≡ part_at P R
  unfolding part_at
  at_same = fun_ext λ p. rw parts_same refl

  pub numbered-same : (p : ℕ) → BlockAs P S π A (part_block P R p) (part_block S T p)
  unfolding part_block
  numbered-same p u r o l = rw at_same (blocks_same (part_at P R p) u r o l)

  -- roles keep their numbers, so with the same cuts the parts stand in the same runs
  segments-same : segments S T ≡ segments P R
  unfolding segments
  segments-same = fun_ext λ cuts.
      ap₂ (λ (n : ℕ) (part : ℕ → Part).
      map (λ j. map (λ p. p ∷ []) (keep (λ p. eqb (run_of cuts (part p).role) j) (up_to n))) (up_to (suc (length cuts))))
      count_same at_same

  merges-same : mergeable S (part_block S T) ≡ mergeable P (part_block P R)
  merges-same = mergeable-same P S π A (part_block P R) (part_block S T) numbered-same

  stages-same : (cuts : List ℕ) → stages (mergeable S (part_block S T)) ◌++◌ (part_count S T) (segments S T cuts) ≡ stages (mergeable P (part_block P R)) ◌++◌ (part_count P R) (segments P R cuts)
  stages-same cuts = rw (count_same, segments-same) (ap (λ (ok : List ℕ → List ℕ → Bool). stages ok ◌++◌ (part_count P R) (segments P R cuts)) merges-same)

  -- with any cuts the same groups, and as many merges
  pub mined-same : (mined_groups S T ≡ mined_groups P R) × (merge_count S T ≡ merge_count P R)
  unfolding mined_groups merge_count
  mined-same =
      (fun_ext λ cuts. ap (λ (p : List (List ℕ) × ℕ). p.0) (stages-same cuts), fun_ext λ cuts. ap (λ (p : List (List ℕ) × ℕ). p.1) (stages-same cuts))

  pub rule-same : rule_of S T ≡ rule_of P R
  unfolding rule_of group_block
  rule-same = fun_ext λ g. written_same P S π A (union P (part_block P R) g) (union S (part_block S T) g) (union-same P S π A (part_block P R) (part_block S T) numbered-same g)

  -- the same lines, whatever the rule and its parts
  lines_of_same : lines_of S T ≡ lines_of P R
  unfolding lines_of all_lines
  lines_of_same = fun_ext λ ρ. fun_ext λ g. rw (lines_same P S π A, rule_level_same P S π A, at_same, class_same) refl

  pub mined_lines_same : mined_lines S T ≡ mined_lines P R
  unfolding mined_lines
  mined_lines_same = fun_ext λ cuts. rw (lines_of_same, rule-same, mined-same.0) refl
