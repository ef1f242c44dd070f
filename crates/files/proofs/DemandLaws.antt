-- The proof of the third demand: the theory of rules and groups, carried over to the bytes.
-- Assumes nothing.
use Rattle.std.specs.Prelude.{ℕ, zero, suc, ◌+◌, ◌<◌, get_or, ◌≡◌, refl}
use Rattle.std.proofs.Math.ListN.{length, length-map}
use mathlib.Core.List.Memᴰ
use mathlib.Core.List.{List, [], ◌∷◌, map}
use Rattle.std.proofs.Math.Path.{sym, ap, subst}
use Rattle.std.proofs.Common.{ap₂, ◌∙◌, arith}
use Rattle.files.specs.Answer.{accepted}
use Rattle.files.specs.Beside.{Beside}
use Rattle.files.specs.Calls.{Counts, rules_grant, parts_grant, mined_lines}
use Rattle.files.specs.Demand3.{Demand3}
use Rattle.files.proofs.LineLaws.{Sayable, levels-back, rule-back}
use Rattle.files.proofs.ReadBackLaws.{Writable, read_back}
use Rattle.files.specs.RuleFile.{Lines, levels_in, rule_in, listings, lines_of, encode_file, read_rules}
use Rattle.files.proofs.WriteLaws.{parts-back, listings-times, Encodable, writable, attr_numbered}
use Rattle.policy.specs.Cost.{rule_cost}
use Rattle.policy.specs.Covering.{cover, level_of}
use Rattle.policy.proofs.MergeLaws.{Every}
use Rattle.policy.specs.Merging.{union}
use Rattle.policy.specs.Mined.{part_count, part_block, mined_groups, merge_count, group_block, rule_of}
use Rattle.policy.proofs.MinedLaws.{MinedRules}
use Rattle.policy.proofs.OrderLaws.{written_asc, written-values}
use Rattle.policy.specs.Roles.{Roles, parts, roles_grant}
use Rattle.policy.proofs.RuleLaws.{Lawful}
use Rattle.policy.specs.Rules.{Setting, Rule, grants, at, rule_level, well_formed, of_section, Triple, Same, struck}
use Rattle.policy.specs.Thinning.{thinned}
use Rattle.policy.specs.declared.Weights.{Weights}
use Rattle.policy.proofs.WrittenLaws.{written-had, written_ops_lt, written_ops_some, written-allowed, written-formed, written_of_section}
use Rattle.sets.specs.ListLaws.{any-map}
use Rattle.sets.specs.Lowest.{lowest}
use Rattle.sets.specs.Sets.{size}
use Rattle.sets.specs.Tests.{Is, ◌is_in◌, all, sum}
use Rattle.sets.specs.TestLaws.{and_l, same, any_out, map-out, get_d_in, any_ext}

get_d_map : {A B : Type 0} (f : A → B) (l : List A) (d : A) (e : B) (i : ℕ) → i < length l → get_or (map f l) i e ≡ f (get_or l i d)
get_d_map f [] d e i h = absurd (omega arith)
get_d_map f (x ∷ xs) d e zero h = refl
get_d_map f (x ∷ xs) d e (suc i) h = get_d_map f xs d e i (omega arith)

sum_map_same : {A B : Type 0} (f : A → B) (h : B → ℕ) (k : A → ℕ) (l : List A) → ((x : A) → x is_in l → h (f x) ≡ k x) → sum h (map f l) ≡ sum k l
sum_map_same f h k [] e = refl
sum_map_same f h k (x ∷ xs) e = ap₂ ◌+◌ (e x (Memᴰ.head refl)) (sum_map_same f h k xs (λ y m. e y (Memᴰ.tail m)))

section_at : (P : Setting) (ρ : Rule) → Is (of_section P ρ) → Is (at P 3 ρ)
unfolding of_section
section_at P ρ h = and_l (at P 3 ρ) (all (well_formed P) ρ.conds) h

module _ (W : ℕ) (cuts : List ℕ) (B : Beside) (L : Lawful B.setting) (M : MinedRules B.setting B.roles cuts) (E : Encodable W B.setting B.roles) where
  abbrev P : Setting
  P = B.setting

  abbrev R : Roles
  R = B.roles

  -- what a writer asks holds of every group's rule
  sayable : (g : List ℕ) → g is_in mined_groups P R cuts → Sayable P R (rule_of P R g) g
  unfolding rule_of group_block union
  sayable g m = record {
    ascending = written_asc P (attr_numbered W B E) (group_block P R g);
    ordinary = written-values P (group_block P R g);
    had = written-had P (group_block P R g);
    permitted = written-allowed P L (group_block P R g) (M.fitting g m);
    formed = written-formed P L (group_block P R g) (M.fitting g m) (M.filled g m);
    operable = written_ops_some P (group_block P R g) (M.filled g m);
    bounded = written_ops_lt P (group_block P R g);
    members = M.members g m;
    some-part = let s = M.filled g m in let t = any_out (λ p. part_block P R p s.u s.r s.o) g s.inside in (t.0, t.1);
  }

  mined-taken : length B.shape ≡ 6 → read_rules W B (encode_file W B.shape (mined_lines P R cuts)) ≡ accepted (mined_lines P R cuts)
  unfolding mined_lines
  mined-taken six = read_back W B six (map (λ g. lines_of P R (rule_of P R g) g) (mined_groups P R cuts)) λ ls m.
      let t = map-out (λ g. lines_of P R (rule_of P R g) g) (mined_groups P R cuts) m in
      subst (Writable W B) (sym t.2) (writable W B E (rule_of P R t.0) t.0 (sayable t.0 t.1))

  -- a group's lines say its rule, and its parts
  says_rule : (g : List ℕ) → g is_in mined_groups P R cuts → rule_in P (lines_of P R (rule_of P R g) g) ≡ rule_of P R g
  says_rule g m = rule-back P R (rule_of P R g) g (sayable g m) (attr_numbered W B E)

  says_parts : (g : List ℕ) → g is_in mined_groups P R cuts → parts_grant P R (lines_of P R (rule_of P R g) g) ≡ group_block P R g
  says_parts g m = parts-back P R (rule_of P R g) g (M.members g m)

  -- what holds of each group's lines holds of all lines mined
  each-mined : (Q : Lines → Type 0) → ((g : List ℕ) → g is_in mined_groups P R cuts → Q (lines_of P R (rule_of P R g) g)) → Every Q (mined_lines P R cuts)
  unfolding mined_lines
  each-mined Q h ls m = let t = map-out (λ g. lines_of P R (rule_of P R g) g) (mined_groups P R cuts) m in subst Q (sym t.2) (h t.0 t.1)

  mined-count : length (mined_lines P R cuts) ≡ length (mined_groups P R cuts)
  unfolding mined_lines
  mined-count = length-map (mined_groups P R cuts) (λ g. lines_of P R (rule_of P R g) g)

  -- the rule of line list number i
  rule-at : (i : ℕ) → i < length (mined_groups P R cuts) → rule_in P (get_or (mined_lines P R cuts) i []) ≡ rule_of P R (get_or (mined_groups P R cuts) i [])
  unfolding mined_lines
  rule-at i h = ap (rule_in P) (get_d_map (λ g. lines_of P R (rule_of P R g) g) (mined_groups P R cuts) [] [] i h) ∙ says_rule (get_or (mined_groups P R cuts) i []) (get_d_in (mined_groups P R cuts) [] i h)

  mined-same : (u r o : ℕ) → Triple P u r o → rules_grant P (mined_lines P R cuts) u r o ≡ roles_grant P R u r o
  unfolding rules_grant mined_lines
  mined-same u r o t =
      any-map (λ g. lines_of P R (rule_of P R g) g) (λ ls. grants P (rule_in P ls) u r o) (mined_groups P R cuts)
      ∙ any_ext (λ g. grants P (rule_in P (lines_of P R (rule_of P R g) g)) u r o) (λ g. grants P (rule_of P R g) u r o) (mined_groups P R cuts) (λ g m. ap (λ (ρ : Rule). grants P ρ u r o) (says_rule g m))
      ∙ M.triples u r o t

  -- THE THEOREM, of any policy whose rules can be written
  pub demand_3 : length B.shape ≡ 6 → (weights : Weights) (c : Counts) → c.size ≡ length (encode_file W B.shape (mined_lines P R cuts)) → c.parts ≡ part_count P R → c.rules ≡ length (mined_groups P R cuts) → c.merges ≡ merge_count P R cuts
      → c.cost ≡ sum (λ g. rule_cost P weights (rule_of P R g)) (mined_groups P R cuts) → Demand3 W cuts weights B (encode_file W B.shape (mined_lines P R cuts)) c
  unfolding mined_lines rule_of
  demand_3 six weights c size parts rules merges cost = record {
    rules = mined_lines P R cuts;
    taken = mined-taken six;
    same = mined-same;
    once = λ p l. listed-once p l;
    exact = each-mined (λ ls. Same P (grants P (rule_in P ls)) (parts_grant P R ls)) (λ g m. rw (says_rule g m, says_parts g m) (M.exact g m));
    proper = each-mined (λ ls. Is (of_section P (rule_in P ls))) (λ g m. rw (says_rule g m) (of-section g m));
    lowest = each-mined (λ ls. (ρ : Rule) → Is (of_section P ρ) → rule_level P ρ < rule_level P (rule_in P ls) → Same P (grants P ρ) (grants P (rule_in P ls)) → ⊥)
        (λ g m. rw (says_rule g m) (λ ρ s. M.lower g m ρ (section_at P ρ s)));
    apart = λ i j h l ρ s.
        let k = mined-count in
        rw (rule-at i (omega arith), rule-at j (omega arith)) (M.pairs i j h (omega arith) ρ (section_at P ρ s));
    needed = each-mined (λ ls. (i : ℕ) → i < length (rule_in P ls).conds → Same P (grants P (struck i (rule_in P ls))) (grants P (rule_in P ls)) → ⊥) (λ g m. rw (says_rule g m) (M.thin g m));
    covering = each-mined (λ ls. rule_in P ls ≡ thinned P (parts_grant P R ls) (cover P (parts_grant P R ls) (rule_level P (rule_in P ls)))) (λ g m. rw (says_rule g m, says_parts g m) (M.shape g m));
    levelled = each-mined (λ ls. rule_level P (rule_in P ls) ≡ level_of P (parts_grant P R ls)) (λ g m. rw (says_rule g m, says_parts g m) (M.level g m));
    stated = each-mined (λ ls. levels_in ls ≡ rule_level P (rule_in P ls) ∷ []) (λ g m. rw (says_rule g m) (levels-back P R (rule_of P R g) g));
    grouped = grouped-so;
    ordered = M.order;
    counted = let k = M.counted in omega arith;
    sized = size;
    parted = parts;
    ruled = rules ∙ sym mined-count;
    merged = merges;
    costed = cost ∙ sym costs-so;
  }
    where
      listed-once : (p : ℕ) → p < part_count P R → listings P R (mined_lines P R cuts) p ≡ 1
      listed-once p l = listings-times P R (rule_of P R) (mined_groups P R cuts) M.members p l (M.once p l)

      of-section : (g : List ℕ) → g is_in mined_groups P R cuts → Is (of_section P (rule_of P R g))
      of-section g m = written_of_section P L (group_block P R g) (M.fitting g m) (M.filled g m)

      grouped-so : mined_lines P R cuts ≡ map (λ g. lines_of P R (rule_of P R g) g) (mined_groups P R cuts)
      grouped-so = refl

      costs-so : sum (λ ls. rule_cost P weights (rule_in P ls)) (mined_lines P R cuts) ≡ sum (λ g. rule_cost P weights (rule_of P R g)) (mined_groups P R cuts)
      costs-so = sum_map_same (λ g. lines_of P R (rule_of P R g) g) (λ ls. rule_cost P weights (rule_in P ls)) (λ g. rule_cost P weights (rule_of P R g)) (mined_groups P R cuts) (λ g m. ap (rule_cost P weights) (says_rule g m))
