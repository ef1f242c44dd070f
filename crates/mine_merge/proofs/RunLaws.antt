-- The first stage: the runs of roles that cuts make are merged one after the other. Without a cut it is left out.
-- Assumes nothing.
use Prim.Native.Nat.{ℕ, zero, suc, ◌+◌, ◌-◌, ◌≤◌, ◌<◌}
use Rattle.std.proofs.Common.{leb-true, leb-false, le-leb, ltb-true, le-ltb, inl, inr, ◌∙◌, subst, arith}
use Rattle.std.specs.Prelude.{leb, ltb, length, get_or, Bool, true, ◌≡◌, refl}
use Rattle.std.proofs.Math.Bool.{cond}
use mathlib.Core.List.{List, [], ◌∷◌, ◌++◌, map, map-append}
use Rattle.std.proofs.Math.Path.{sym, ap, ap₂}
use Rattle.mine_theory.specs.Search.Frontier.{Groups, groups_in}
use Rattle.mine_theory.proofs.Search.WithinLaws.{groups-alone, groups-few, runs_turn}
use Rattle.mine_merge.specs.Progress.{merged_of, Settled, Leading}
use Rattle.mine_merge.proofs.ProgressLaws.{stage_left}
use Rattle.mine_merge.specs.Traced.{Traced, alone}
use Rattle.files.specs.Calls.{cuts_ok}
use Rattle.files.proofs.CutLaws.{cuts_rising, cuts_inside}
use Rattle.policy.proofs.EdgeLaws.{edge, Begins, edge-rises, segments_by_edges}
use Rattle.policy.proofs.GroupLaws.{start-length}
use Rattle.policy.proofs.MergeLaws.{run, merges, run-enough}
use Rattle.policy.specs.Merging.{merge_all, first_stage, start_groups, mergeable, groups, merges_made}
use Rattle.policy.specs.Mined.{part_count, part_at, segments, mined_groups, merge_count}
use Rattle.policy.specs.Policy.{Policy, setting_of, roles_in}
use Rattle.policy.specs.Roles.{Part}
use Rattle.policy.proofs.SegmentLaws.{no_cuts}
use Rattle.sets.specs.ListLaws.{keep_all, up_to-more}
use Rattle.sets.specs.TestLaws.{same, test, get_d_in}
use Rattle.sets.specs.Tests.{Is, up_to}
use Rattle.mine_groups.specs.Scratch.{blocks_of, Started, all_parts}
use Rattle.mine_parts.specs.Layout.{role_at}

-- ---- without a cut: every part is alone

alone-groups : (n : ℕ) → groups_in n alone ≡ start_groups 0 n
unfolding groups_in alone
alone-groups n = ap (map (λ i. i ∷ [])) (keep_all (λ i. true) (up_to n) (λ i m. refl))

-- and merging goes on to 01's groups
pub alone-leads : (F : Policy) (cuts : List ℕ) (parts : ℕ) {t : List ℕ} → length cuts ≡ 0 → Traced F parts t alone → Leading F cuts parts t 0
unfolding groups merges_made
alone-leads F (c ∷ cuts) parts e T = absurd (omega arith)
alone-leads F [] parts e T =
    let ok : List ℕ → List ℕ → Bool = mergeable (setting_of F) (blocks_of F) in
    let start = alone-groups parts ∙ ap (start_groups 0) T.all in
    let many = ap length start ∙ start-length 0 (part_count (setting_of F) (roles_in F)) in
    let m = ap₂ (merges ok ◌++◌) many start ∙ sym (no_cuts (setting_of F) (roles_in F)).1 in
    record { groups = alone; shown = T; ends = ap₂ (run ok ◌++◌) many start ∙ sym (no_cuts (setting_of F) (roles_in F)).0; counted = omega arith }

-- ---- where the runs of roles begin and end among the parts

-- the number of the first part of run j; behind the last run, that of all parts
abbrev pub edge_in : List ℕ → List ℕ → ℕ → ℕ
edge_in cuts starts j = edge cuts (λ c. get_or starts c 0) (all_parts starts) j

-- the parts of run j, each a group by itself
abbrev pub segment_in : List ℕ → List ℕ → ℕ → List (List ℕ)
segment_in cuts starts j = start_groups (edge_in cuts starts j) (edge_in cuts starts (suc j) - edge_in cuts starts j)

-- of so many runs, the parts before `first`, scratch shows what the first stage leaves, with `made` merges made; all other parts are alone
pub record RunsDone (F : Policy) (cuts starts t : List ℕ) (made runs first : ℕ) : Type 0 where
  pub groups : Groups (List ℕ)
  pub shown : Traced F (all_parts starts) t groups
  pub ended : first ≡ edge_in cuts starts runs
  pub left : groups_in first groups ≡ (first_stage (mergeable (setting_of F) (blocks_of F)) ◌++◌ (all_parts starts) (map (segment_in cuts starts) (up_to runs))).0
  pub counted : made ≡ (first_stage (mergeable (setting_of F) (blocks_of F)) ◌++◌ (all_parts starts) (map (segment_in cuts starts) (up_to runs))).1
  pub others : (k : ℕ) → first ≤ k → k < all_parts starts → Is (groups.alive k) × (groups.group k ≡ k ∷ [])

-- at first all parts are alone
pub runs_begin : (F : Policy) (cuts starts : List ℕ) {t : List ℕ} → Traced F (all_parts starts) t alone → RunsDone F cuts starts t 0 0 0
unfolding groups_in alone
runs_begin F cuts starts T = record { groups = alone; shown = T; ended = refl; left = refl; counted = refl; others = λ k a b. (refl, refl) }

module _ (cuts starts : List ℕ) (roles : ℕ) (legal : Is (cuts_ok cuts roles)) (few : roles ≤ 32) where
  -- a cut is a role's number
  pub cut_low : (i : ℕ) → i < length cuts → get_or cuts i 0 ≤ 32
  cut_low i h = let b = cuts_inside cuts roles legal (get_d_in cuts 0 i h) in let c = b.1 in omega arith

  module _ {t : List ℕ} (S : Started (all_parts starts) t starts) where
    -- no run ends behind the last part
    pub edge-low : (j : ℕ) → edge_in cuts starts j ≤ all_parts starts
    edge-low zero = omega arith
    edge-low (suc i) = test (ltb i (length cuts))
        (λ e. rw e (S.rises (get_or cuts i 0) 32 (cut_low i (ltb-true i (length cuts) e)) (omega arith)))
        (λ e. rw e (omega arith))

    module _ (F : Policy) {s : Groups (List ℕ)} (T : Traced F (all_parts starts) t s) where
      -- the parts of the roles from a cut on are those from its start on
      begins : Begins (setting_of F) (roles_in F) cuts (λ c. get_or starts c 0)
      begins = record {
        few = λ c m. let h = (cuts_inside cuts roles legal m).1 in let r = S.rises c 32 (omega arith) (omega arith) in let e = T.all in omega arith;
        right = λ c p m l. let e = T.all in let h = (cuts_inside cuts roles legal m).1 in role-behind c p (omega arith) (omega arith);
      }
        where
          role-behind : (c p : ℕ) → c ≤ 32 → p < all_parts starts → leb c (part_at (setting_of F) (roles_in F) p).role ≡ leb (get_or starts c 0) p
          role-behind c p h l =
              let role = ap (λ (q : Part). q.role) (T.named p l) in
              let own = S.within p l in
              let from = own.0 in
              let to = own.1 in
              ap (leb c) (sym role)
              ∙ same (leb c (role_at t p)) (leb (get_or starts c 0) p)
              (λ e. let a = leb-true c (role_at t p) e in let r = S.rises c (role_at t p) a (omega arith) in le-leb (get_or starts c 0) p (omega arith))
              (λ e. let a = leb-true (get_or starts c 0) p e in
              test (leb c (role_at t p)) (λ q. q) (λ q. let b = leb-false c (role_at t p) q in let r = S.rises (role_at t p + 1) c (omega arith) h in absurd (omega arith)))

      -- a run ends no earlier than it begins
      edge_on : (j : ℕ) → edge_in cuts starts j ≤ edge_in cuts starts (suc j)
      edge_on j = subst (λ (n : ℕ). edge cuts (λ c. get_or starts c 0) n j ≤ edge cuts (λ c. get_or starts c 0) n (suc j)) (sym T.all) (edge-rises (setting_of F) (roles_in F) cuts (cuts_rising cuts roles legal) (λ c. get_or starts c 0) begins j)

      segments_in : segments (setting_of F) (roles_in F) cuts ≡ map (segment_in cuts starts) (up_to (suc (length cuts)))
      segments_in =
          subst (λ (n : ℕ). segments (setting_of F) (roles_in F) cuts ≡ map (λ j. start_groups (edge cuts (λ c. get_or starts c 0) n j) (edge cuts (λ c. get_or starts c 0) n (suc j) - edge cuts (λ c. get_or starts c 0) n j)) (up_to (suc (length cuts)))) (sym T.all)
          (segments_by_edges (setting_of F) (roles_in F) cuts (cuts_rising cuts roles legal) (λ c. get_or starts c 0) begins)

      abbrev ok : List ℕ → List ℕ → Bool
      ok = mergeable (setting_of F) (blocks_of F)

      abbrev n : ℕ
      n = all_parts starts

      -- one run more
      pub runs_next : {u v : List ℕ} {made more first end : ℕ} (runs : ℕ) (D : RunsDone F cuts starts u made runs first) → end ≡ edge_in cuts starts (suc runs) → Settled F (all_parts starts) first end D.groups v more end → RunsDone F cuts starts v (made + more) (runs + 1) end
      runs_next {u} {v} {made} {more} {first} {end} runs D e Y =
          let rises = edge_on runs in
          let low = edge-low (suc runs) in
          let begin = D.ended in
          let l : first ≤ end = omega arith in
          let next : suc runs ≡ runs + 1 = omega arith in
          let gs : List (List ℕ) = start_groups first (end - first) in
          let many = start-length first (end - first) in
          let done = stage_left F n first end D.groups Y in
          let r = runs_turn ok ◌++◌ n D.groups Y.groups first end made more (map (segment_in cuts starts) (up_to runs)) l D.left D.counted (λ k h. Y.progress.outside k (inl h)) gs (groups-alone D.groups first end l (λ k a b. D.others k a (omega arith))) (omega arith) done.0 done.1 in
          let more-segments : map (segment_in cuts starts) (up_to runs) ++ (gs ∷ []) ≡ map (segment_in cuts starts) (up_to (runs + 1)) =
          ap (λ (g : List (List ℕ)). map (segment_in cuts starts) (up_to runs) ++ (g ∷ [])) (ap₂ (λ (a b : ℕ). start_groups a (b - a)) begin e)
          ∙ sym (ap (map (segment_in cuts starts)) (up_to-more runs) ∙ map-append (segment_in cuts starts) (up_to runs) (runs ∷ [])) in
          record {
            groups = Y.groups;
            shown = Y.progress.shown;
            ended = e ∙ ap (edge_in cuts starts) next;
            left = r.0 ∙ ap (λ (l : List (List (List ℕ))). (first_stage ok ◌++◌ n l).0) more-segments;
            counted = r.1 ∙ ap (λ (l : List (List (List ℕ))). (first_stage ok ◌++◌ n l).1) more-segments;
            others = λ k a b. let o = Y.progress.outside k (inr a) in let p = D.others k (omega arith) b in (o.0 ∙ p.0, o.1 ∙ p.1);
          }

      -- behind the last run merging goes on to the groups of the policy
      pub runs_end : {u : List ℕ} {made runs first : ℕ} → RunsDone F cuts starts u made runs first → runs ≡ suc (length cuts) → Leading F cuts (all_parts starts) u made
      unfolding mined_groups merge_count
      runs_end {u} {made} {runs} {first} D e =
          let all : first ≡ n = D.ended ∙ ap (edge_in cuts starts) e ∙ ap (λ (b : Bool). cond b (get_or starts (get_or cuts (length cuts) 0) 0) n) (le-ltb (length cuts) (length cuts) (omega arith)) in
          let listed : map (segment_in cuts starts) (up_to runs) ≡ segments (setting_of F) (roles_in F) cuts = ap (λ (k : ℕ). map (segment_in cuts starts) (up_to k)) e ∙ sym segments_in in
          let gs : List (List ℕ) = groups_in n D.groups in
          let left : gs ≡ (first_stage ok ◌++◌ n (segments (setting_of F) (roles_in F) cuts)).0 = ap (λ (k : ℕ). groups_in k D.groups) (sym all) ∙ D.left ∙ ap (λ (l : List (List (List ℕ))). (first_stage ok ◌++◌ n l).0) listed in
          let goes : merged_of F gs ≡ merge_all ok ◌++◌ (part_count (setting_of F) (roles_in F)) (first_stage ok ◌++◌ (part_count (setting_of F) (roles_in F)) (segments (setting_of F) (roles_in F) cuts)).0 =
          sym (run-enough ok ◌++◌ n gs (groups-few D.groups n)) ∙ ap (merge_all ok ◌++◌ n) left ∙ ap (λ (k : ℕ). merge_all ok ◌++◌ k (first_stage ok ◌++◌ k (segments (setting_of F) (roles_in F) cuts)).0) D.shown.all in
          record {
            groups = D.groups;
            shown = D.shown;
            ends = ap (λ (r : List (List ℕ) × ℕ). r.0) goes;
            counted = ap₂ ◌+◌ (D.counted ∙ ap (λ (l : List (List (List ℕ))). (first_stage ok ◌++◌ n l).1) listed ∙ ap (λ (k : ℕ). (first_stage ok ◌++◌ k (segments (setting_of F) (roles_in F) cuts)).1) D.shown.all) (ap (λ (r : List (List ℕ) × ℕ). r.1) goes);
          }
