-- What code writes and counts of merged groups is the mined rule file and its counts.
-- Assumes nothing.
use Rattle.std.specs.Prelude.{ℕ, ◌+◌, ◌<◌, get_or, Bool, true, false, ◌≡◌}
use Rattle.std.proofs.Math.ListN.{length}
use Rattle.std.proofs.Math.Bool.{cond}
use mathlib.Core.List.{List, [], ◌∷◌, ◌++◌}
use Rattle.std.proofs.Math.Path.{refl, sym, ap}
use Rattle.std.proofs.Common.{◌∙◌, arith}
use Rattle.role_record.specs.Record.{Sized, record_of}
use Rattle.files.specs.Beside.{shape_of}
use Rattle.files.specs.Calls.{Counts, mined_lines, mined_bytes, mined_counts}
use Rattle.files.specs.RuleFile.{Lines, encode, encode_all, encode_file, opens, lines_of}
use Rattle.write_kept.specs.Kept.{kept_at, kept_head, KeptTable}
use Rattle.write_measure.specs.FileTable.{sums_with, sums_at, rule_with, file_bytes, measured_of}
use Rattle.mine_matches.specs.Matches.{known_in, matches_in}
use Rattle.grant_grids.specs.Links.{links_of}
use Rattle.policy.specs.Cost.{rule_cost}
use Rattle.policy.specs.Covering.{level_of}
use Rattle.policy.specs.Merging.{union}
use Rattle.policy.specs.Mined.{part_count, mined_groups, merge_count, rule_of}
use Rattle.policy.specs.Policy.{Policy, setting_of, roles_in}
use Rattle.policy.specs.Rules.{Rule}
use Rattle.policy.specs.declared.Weights.{Weights}
use Rattle.write_cost.specs.CostSumLaws.{cost-weighed, weighed_if, weighed-all}
use Rattle.write_cost.specs.CostSums.{rule_sums, no_sums, all_sums, weighed}
use Rattle.write_cost.specs.declared.Sums.{Sums}
use Rattle.write_theory.specs.RuleLists.{rule_sums_in}
use Rattle.write_theory.specs.RuleTable.{rule_bytes_in}
use Rattle.write_theory.proofs.WriterLaws.{written-bytes, written_sums}
use Rattle.mine_distinct.specs.InsideValues.{distinct_in, having_in, inside_in}
use Rattle.sets.specs.ListLaws.{each_map, sum_ext}
use Rattle.sets.specs.Tests.{Is, keep, each, up_to, sum}
use Rattle.mine_groups.specs.MergedLaws.{heads-each, heads-sum, heads-count}
use Rattle.mine_parts.specs.Layout.{words_at, is_head_at}
use Rattle.mine_groups.specs.Scratch.{blocks_of, Merged, all_parts, Stands}
use Rattle.mine_thin.specs.KeptPlacesLaws.{kept_means}
use Rattle.mine_theory.proofs.Words.FlagLaws.{sum_if}
use Rattle.mine_theory.specs.Words.Flags.{kept_places}
use Rattle.write_measure.specs.declared.Measured.{Measured}

-- ---- lists and counts

counts_same : {a b c d e p q r s t : ℕ} → a ≡ p → b ≡ q → c ≡ r → d ≡ s → e ≡ t → ◌≡◌ {A = Counts} (record { size = a; parts = b; rules = c; merges = d; cost = e }) (record { size = p; parts = q; rules = r; merges = s; cost = t })
counts_same h i j k l = rw (h, i, j, k, l) refl

each_if : {C : Type 0} (p : ℕ → Bool) (f : ℕ → List C) (l : List ℕ) → each (λ i. cond (p i) (f i) []) l ≡ each f (keep p l)
each_if p f [] = refl
each_if p f (x ∷ l) = go (p x) (each_if p f l)
  where
    go : (b : Bool) → each (λ i. cond (p i) (f i) []) l ≡ each f (keep p l) → cond b (f x) [] ++ each (λ i. cond (p i) (f i) []) l ≡ each f (cond b (x ∷ keep p l) (keep p l))
    go true e = ap (λ r. f x ++ r) e
    go false e = e

module _ (F : Policy) (cuts : List ℕ) (Z : Sized F) (starts t : List ℕ) (S : Stands t starts) (M : Merged F cuts (all_parts starts) t) (kept : List ℕ)
    (k : KeptTable (links_of F) (matches_in F) (known_in F) (record_of F).attributes (record_of F).users (record_of F).resources (record_of F).operations (all_parts starts) t kept) where
  abbrev group : ℕ → List ℕ
  group i = M.groups.group i

  abbrev rule : List ℕ → Rule
  rule = rule_of (setting_of F) (roles_in F)

  abbrev lines : List ℕ → Lines
  lines g = lines_of (setting_of F) (roles_in F) (rule g) g

  abbrev mined : List (List ℕ)
  mined = mined_groups (setting_of F) (roles_in F) cuts

  -- the places kept are those of the written rule
  kept-so : (i : ℕ) → i < all_parts starts → Is (M.groups.alive i) → get_or kept i 0 ≡ kept_places (setting_of F) (words_at t i) (level_of (setting_of F) (union (setting_of F) (blocks_of F) (group i)))
  unfolding kept_head kept_at
  kept-so i h a =
      k i h
      ∙ ap (λ (b : Bool). cond b (kept_at (links_of F) (matches_in F) (known_in F) (record_of F).attributes (record_of F).users (record_of F).resources (record_of F).operations t i) 0) (M.shown.heads i h ∙ a)
      ∙ rw (M.shown.words i h a, M.shown.level i h a) (kept_means F Z (union (setting_of F) (blocks_of F) (group i)) (level_of (setting_of F) (union (setting_of F) (blocks_of F) (group i))))

  abbrev bytes_of : ℕ → List ℕ
  bytes_of i = rule_bytes_in (distinct_in F) (having_in F) (inside_in F) (record_of F).kinds (record_of F).permissions (record_of F).operations starts t i (get_or kept i 0)

  abbrev sums_of : ℕ → Sums
  sums_of i = rule_sums_in (distinct_in F) (having_in F) (inside_in F) (record_of F).kinds t i (get_or kept i 0)

  rule-so : (i : ℕ) → i < all_parts starts → Is (M.groups.alive i) → bytes_of i ≡ each (encode 2) (opens ∷ lines (group i))
  rule-so i h a = written-bytes F Z (all_parts starts) starts t S.begun M.groups M.shown i h a (get_or kept i 0) (kept-so i h a)

  sums_so : (i : ℕ) → i < all_parts starts → Is (M.groups.alive i) → sums_of i ≡ rule_sums (setting_of F) (rule (group i))
  sums_so i h a = written_sums F Z (all_parts starts) starts t S.begun M.groups M.shown i h a (get_or kept i 0) (kept-so i h a)

  abbrev tables-bytes : List ℕ
  tables-bytes = file_bytes kept (distinct_in F) (having_in F) (inside_in F) (record_of F).kinds (record_of F).permissions (record_of F).operations starts t

  all-encoded : each (λ g. each (encode 2) (opens ∷ lines g)) mined ++ (0x2F ∷ []) ≡ encode_all 2 (mined_lines (setting_of F) (roles_in F) cuts)
  unfolding encode_all encode mined_lines
  all-encoded = ap (λ r. r ++ (0x2F ∷ [])) (sym (each_map (λ ls. each (encode 2) (opens ∷ ls)) lines mined))

  -- THE LAW: the bytes, behind the 20
  pub file_means : 0x20 ∷ (shape_of F ++ file_bytes kept (distinct_in F) (having_in F) (inside_in F) (record_of F).kinds (record_of F).permissions (record_of F).operations starts t) ≡ mined_bytes 2 F cuts
  unfolding file_bytes rule_with mined_bytes encode_file
  file_means =
      ap (λ (l : List ℕ). 0x20 ∷ (shape_of F ++ l))
      (ap (λ r. r ++ (0x2F ∷ [])) (each_if (is_head_at t) bytes_of (up_to (all_parts starts)) ∙ heads-each F cuts (all_parts starts) t M (λ g. each (encode 2) (opens ∷ lines g)) bytes_of rule-so)
      ∙ all-encoded)

  -- what the rules' cost is made of comes to their cost, by whatever weights
  weighed-groups : (weights : Weights)
      → weighed weights (all_sums (sums_at kept (distinct_in F) (having_in F) (inside_in F) (record_of F).kinds t) (up_to (all_parts starts))) ≡ sum (λ g. rule_cost (setting_of F) weights (rule g)) mined
  unfolding sums_with
  weighed-groups weights =
      weighed-all weights (λ i. cond (is_head_at t i) (sums_of i) no_sums) (up_to (all_parts starts))
      ∙ sum_ext (λ i. weighed weights (cond (is_head_at t i) (sums_of i) no_sums)) (λ i. cond (is_head_at t i) (weighed weights (sums_of i)) 0) (up_to (all_parts starts)) (λ i m. weighed_if weights (is_head_at t i) (sums_of i))
      ∙ sum_if (is_head_at t) (λ i. weighed weights (sums_of i)) (up_to (all_parts starts))
      ∙ heads-sum F cuts (all_parts starts) t M (λ g. rule_cost (setting_of F) weights (rule g)) (λ i. weighed weights (sums_of i)) (λ i h a. ap (weighed weights) (sums_so i h a) ∙ sym (cost-weighed (setting_of F) weights (rule (group i))))

  -- THE LAW: the counts
  pub measure_means : (measured-of : Measured) → measured-of ≡ measured_of kept (distinct_in F) (having_in F) (inside_in F) (record_of F).kinds (record_of F).permissions (record_of F).operations starts t
      → (7 + measured-of.bytes ≡ length (mined_bytes 2 F cuts))
      × ((weights : Weights) → mined_counts 2 F cuts weights ≡ record { size = 7 + measured-of.bytes; parts = all_parts starts; rules = measured-of.rules; merges = merge_count (setting_of F) (roles_in F) cuts; cost = weighed weights measured-of.sums })
  unfolding measured_of mined_counts
  measure_means m e =
      let of-rules : m.bytes ≡ length tables-bytes = ap (λ (x : Measured). x.bytes) e in
      let of-file : length (0x20 ∷ (shape_of F ++ tables-bytes)) ≡ length (mined_bytes 2 F cuts) = ap length file_means in
      let sized : 7 + m.bytes ≡ length (mined_bytes 2 F cuts) = omega (arith, of-rules, of-file) in
      let ruled : m.rules ≡ length mined = ap (λ (x : Measured). x.rules) e ∙ heads-count F cuts (all_parts starts) t M in
      let parted : all_parts starts ≡ part_count (setting_of F) (roles_in F) = M.shown.all in (
        sized,
        λ weights.
            let costed : weighed weights m.sums ≡ sum (λ g. rule_cost (setting_of F) weights (rule g)) mined = ap (λ (x : Measured). weighed weights x.sums) e ∙ weighed-groups weights in
            counts_same (sym sized) (sym parted) (sym ruled) refl (sym costed),
      )
