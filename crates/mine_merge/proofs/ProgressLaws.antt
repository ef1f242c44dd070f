-- The laws of merging in scratch memory: a stage begins with the groups as they are, each join is the next step of the run over its window,
-- and at the end the run is over.
-- Assumes nothing.
use Rattle.std.specs.Prelude.{ℕ, suc, ◌+◌, ◌≤◌, ◌<◌, max, min, eqb, ltb, length, Bool, true, false, cond, List, ◌++◌, ◌⊎◌, ◌≡◌, refl}
use Rattle.std.proofs.Common.{eqb-true, ltb-true, ltb-false, inl, inr, sym, ap, ◌∙◌, subst, arith}
use Rattle.std.proofs.lemmas.Bool.{eqb-false}
use Rattle.std.proofs.Math.Option.{some}
use Rattle.mine_theory.specs.Search.Frontier.{Groups, groups_in, within, joined_at, ok_at, Clean}
use Rattle.mine_theory.proofs.Search.FrontierLaws.{ok_at-out, alive-kept, group-kept, joined_length, step-none, back_found, behind-found, run-found, run_none}
use Rattle.mine_theory.proofs.Search.WithinLaws.{within_all, joined-within, pair-before, pair-on}
use Rattle.role_record.specs.Record.{Sized}
use Rattle.mine_merge.proofs.JoinLaws.{joined_traced}
use Rattle.mine_merge.proofs.PairLaws.{level_means, pair_means}
use Rattle.mine_merge.specs.Progress.{groups_of, merged_of, Progress, Refused, Settled, Leading}
use Rattle.mine_merge.proofs.ResolveLaws.{resolved_shows}
use Rattle.mine_merge.specs.Steps.{Paired, Tables}
use Rattle.mine_merge.specs.Traced.{Traced}
use Rattle.mine_join.specs.Joins.{Joined, Resolved}
use Rattle.mine_search.specs.PartnerSearch.{joined_level, pair_at, NoneIn, FirstIn, Partner}
use Rattle.mine_search.specs.PartnerSearchLaws.{partner-same, partner-behind}
use Rattle.policy.specs.Covering.{level_of}
use Rattle.policy.proofs.MergeLaws.{run, merges}
use Rattle.policy.specs.Merging.{step, union, mergeable}
use Rattle.policy.specs.Mined.{merge_count}
use Rattle.policy.specs.Policy.{Policy, setting_of, roles_in}
use Rattle.sets.specs.TestLaws.{test}
use Rattle.mine_groups.specs.Scratch.{blocks_of, Merged}

-- the tables by which pairs are tested are among the tables
pub paired-tables : {F : Policy} {links matches known attributes holders permissions : List ℕ} {users resources operations roles : ℕ} → Tables F links matches known attributes holders permissions users resources operations roles
    → Paired F links matches known attributes users resources operations
paired-tables T = record { of-links = T.of-links; of_matches = T.of_matches; of-known = T.of-known; of-attributes = T.of-attributes; of-users = T.of-users; of-resources = T.of-resources; of-operations = T.of-operations }

-- the pairs from the first number of a window on are all that its groups have
none_before : {A : Type 0} (ok : A → A → Bool) (first : ℕ) (s : Groups A) (c n : ℕ) → NoneIn (λ i. ok_at ok (within first s) i c) first n → (i : ℕ) → i < n → ok_at ok (within first s) i c ≡ false
none_before ok first s c n h i l = test (ltb i first) (λ e. pair-before ok first s i c (ltb-true i first e)) (λ e. h i (ltb-false i first e) l)

-- ---- a stage

module _ (F : Policy) (parts first end : ℕ) (old : Groups (List ℕ)) where
  abbrev ok : List ℕ → List ℕ → Bool
  ok = mergeable (setting_of F) (blocks_of F)

  -- it begins with the groups as they are
  pub stage_begun : {t : List ℕ} → end ≤ parts → Traced F parts t old → Settled F parts first end old t 0 first
  stage_begun h T = record {
    groups = old;
    progress = record { inside = h; shown = T; ends = refl; counted = omega arith; outside = λ k o. (refl, refl) };
    refused = λ i j p q r. pair-before ok first old i j r;
  }

  -- the search is at c, whose partner is known
  pub record Going (t : List ℕ) (made front c other : ℕ) : Type 0 where
    pub groups : Groups (List ℕ)
    pub progress : Progress F parts first end old t made groups
    pub clean : Clean (mergeable (setting_of F) (blocks_of F)) end (within first groups) c front
    pub partner : Partner first end (ok_at (mergeable (setting_of F) (blocks_of F)) (within first groups)) c other

  -- a step that is made is the next of the run
  step-made : {t u : List ℕ} {made next : ℕ} (s : Groups (List ℕ)) (i j : ℕ) → next ≡ made + 1 → first ≤ i → i < j → j < end → Progress F parts first end old t made s → ok_at ok (within first s) i j ≡ true → Traced F parts u (joined_at ◌++◌ s i j)
      → step ok ◌++◌ (groups_of first end s) ≡ some (groups_in end (joined_at ◌++◌ (within first s) i j)) → Progress F parts first end old u next (joined_at ◌++◌ s i j)
  step-made s i j k a h l P may shown e =
      let left : List (List ℕ) = groups_of first end (joined_at ◌++◌ s i j) in
      let same = ap (groups_in end) (joined-within first s ◌++◌ i j) in
      let n : length (groups_of first end s) ≡ suc (length left) = joined_length ok ◌++◌ end (within first s) i j may h l ∙ ap (λ (gs : List (List ℕ)). suc (length gs)) same in
      let r = run-found ok ◌++◌ (length left) (groups_of first end s) left (e ∙ ap some same) in
      let m : (merged_of F (groups_of first end s)).1 ≡ suc (merged_of F left).1 = ap (λ (k : ℕ). merges ok ◌++◌ k (groups_of first end s)) n ∙ r.1 in
      let c = P.counted in
      record {
        inside = P.inside;
        shown = shown;
        ends = sym (ap (λ (k : ℕ). run ok ◌++◌ k (groups_of first end s)) n ∙ r.0) ∙ P.ends;
        counted = omega arith;
        outside = λ k o. let d = apart k o in (alive-kept ◌++◌ s i j k d.1 ∙ (P.outside k o).0, group-kept ◌++◌ s i j k d.0 ∙ (P.outside k o).1);
      }
    where
      apart : (k : ℕ) → (k < first) ⊎ (end ≤ k) → (k ≡ i → ⊥) × (k ≡ j → ⊥)
      apart k (inl b) = ((λ z. omega arith), (λ z. omega arith))
      apart k (inr b) = ((λ z. omega arith), (λ z. omega arith))

  -- where c has no partner, no pair before the front is left
  pub going_end : {t : List ℕ} {made front c other : ℕ} → Going t made front c other → c < front → c < end → end ≤ other → Settled F parts first end old t made front
  going_end {t} {made} {front} {c} {other} G f l h = record { groups = G.groups; progress = G.progress; refused = none G.partner }
    where
      left : NoneIn (λ i. ok_at ok (within first G.groups) i c) first c → NoneIn (ok_at ok (within first G.groups) c) (c + 1) end → Refused F parts first end old G.groups front
      left before behind i j p q r = test (eqb i c) (λ z. left-of (eqb-true i c z)) (λ d. test (eqb j c) (λ z. right_of (eqb-true j c z)) (λ z. G.clean.apart i j p q r (eqb-false i c d) (eqb-false j c z)))
        where
          left-of : i ≡ c → ok_at ok (within first G.groups) i j ≡ false
          left-of z = rw z (behind j (omega arith) q)

          right_of : j ≡ c → ok_at ok (within first G.groups) i j ≡ false
          right_of z = rw z (none_before ok first G.groups c c before i (omega arith))

      none : Partner first end (ok_at ok (within first G.groups)) c other → Refused F parts first end old G.groups front
      none (inl (e, before, behind)) = left before behind
      none (inr (inl (o, p, e, k))) = absurd (omega arith)
      none (inr (inr (p, q, e, k, m))) = absurd (omega arith)

  -- at its end no pair of the window is left
  pub stage_ended : {t : List ℕ} {made front : ℕ} → end ≤ front → Settled F parts first end old t made front → Settled F parts first end old t made end
  stage_ended h S = record { groups = S.groups; progress = S.progress; refused = λ i j p q r. S.refused i j p q (omega arith) }

  -- and so the groups of the window are those that merging leaves, and the merges are counted
  pub stage_left : {t : List ℕ} {made : ℕ} (S : Settled F parts first end old t made end) → (groups_of first end S.groups ≡ (merged_of F (groups_of first end old)).0) × (made ≡ (merged_of F (groups_of first end old)).1)
  stage_left S =
      let r = run_none ok ◌++◌ (length (groups_of first end S.groups)) (groups_of first end S.groups) (step-none ok ◌++◌ end (within first S.groups) (λ a b p q. S.refused a b p q (omega arith))) in
      let z = r.1 in
      let c = S.progress.counted in
      (sym r.0 ∙ S.progress.ends, omega arith)

-- ---- the last stage: with the heads resolved, scratch shows the groups that merging leaves, and the merges are counted

pub last-left : (F : Policy) (cuts : List ℕ) (parts : ℕ) {t u v : List ℕ} {made more : ℕ} (L : Leading F cuts parts t made) → Settled F parts 0 parts L.groups u more parts → Resolved parts u v → (made + more ≡ merge_count (setting_of F) (roles_in F) cuts) × Merged F cuts parts v
last-left F cuts parts {t} {u} {v} {made} {more} L S R =
    let all : groups_of 0 parts L.groups ≡ groups_in parts L.groups = ap (groups_in parts) (within_all L.groups) in
    let left = stage_left F parts 0 parts L.groups S in
    let counted = left.1 ∙ ap (λ (gs : List (List ℕ)). (merged_of F gs).1) all in
    let c = L.counted in (
      omega arith,
      record {
        groups = S.groups;
        shown = resolved_shows F parts u v S.groups S.progress.shown R;
        left = ap (groups_in parts) (sym (within_all S.groups)) ∙ left.0 ∙ ap (λ (gs : List (List ℕ)). (merged_of F gs).0) all ∙ L.ends;
      },
    )

-- ---- the search for pairs

module _ (F : Policy) (Z : Sized F) (links matches known attributes : List ℕ) (users resources operations : ℕ) (T : Paired F links matches known attributes users resources operations) (parts first end : ℕ) (old : Groups (List ℕ)) where
  abbrev pair : List ℕ → ℕ → ℕ → Bool
  pair = pair_at links matches known attributes users resources operations

  abbrev may : List ℕ → List ℕ → Bool
  may = mergeable (setting_of F) (blocks_of F)

  -- the pairs of the window are those that the words of scratch tell
  pairs-same : (t : List ℕ) (s : Groups (List ℕ)) → end ≤ parts → Traced F parts t s → (i j : ℕ) → first ≤ i → i < j → j < end → pair t i j ≡ ok_at may (within first s) i j
  pairs-same t s h S i j a b l = pair_means F Z links matches known attributes users resources operations T parts t s S i j (omega arith) (omega arith) ∙ sym (pair-on may first s i j a b)

  -- the search goes on with the part at the front, before which there is no pair
  pub going-begin : (t : List ℕ) (made start other : ℕ) → first ≤ start → start < end → FirstIn end (pair_at links matches known attributes users resources operations t start) (start + 1) end other → Settled F parts first end old t made start → Going F parts first end old t (made + 0) (start + 1) start other
  going-begin t made start other a l f S = record {
    groups = S.groups;
    progress = record { inside = S.progress.inside; shown = S.progress.shown; ends = S.progress.ends; counted = let c = S.progress.counted in omega arith; outside = S.progress.outside };
    clean = record { apart = λ i j p q r d e. S.refused i j p q (omega arith) };
    partner = partner-same (pair t) (ok_at may (within first S.groups)) start a l same (partner-behind (pair t) start (λ i b c. same i start b c l ∙ S.refused i start c l c) f);
  }
    where
      same : (i j : ℕ) → first ≤ i → i < j → j < end → pair t i j ≡ ok_at may (within first S.groups) i j
      same = pairs-same t S.groups S.progress.inside S.progress.shown

  -- a join of c with its partner
  pub going-turn : (t u : List ℕ) (made more front c other i j level next : ℕ) → more ≡ made + 1 → c < front → first ≤ c → c < end → other < end → i ≡ min c other → j ≡ max c other → level ≡ joined_level links matches known attributes users resources operations t i j → Joined t u i j level
      → Partner first end (pair_at links matches known attributes users resources operations u) i next → Going F parts first end old t made front c other → Going F parts first end old u more front i next
  going-turn t u made more front c other i j level next n f a l lo p q e J N G = taken (step-found G.partner)
    where
      Found : ℕ → ℕ → Type 0
      Found i j = (first ≤ i) × (i < j) × (j < end) × (ok_at may (within first G.groups) i j ≡ true) × (step may ◌++◌ (groups_of first end G.groups) ≡ some (groups_in end (joined_at ◌++◌ (within first G.groups) i j))) × Clean may end (joined_at ◌++◌ (within first G.groups) i j) i front

      at : (x y : ℕ) → i ≡ x → j ≡ y → Found x y → Found i j
      at x y a b r = rw (a, b) r

      step-found : Partner first end (ok_at may (within first G.groups)) c other → Found i j
      step-found (inl (z, before, behind)) = absurd (omega arith)
      step-found (inr (inl (o, h, join, before))) =
          let r = back_found may ◌++◌ end G.clean f l other h join (none_before may first G.groups c other before) in
          at other c (omega arith) (omega arith) (o, h, l, join, r.0, r.1)
      step-found (inr (inr (h, k, join, before, behind))) =
          let r = behind-found may ◌++◌ end G.clean f (none_before may first G.groups c c before) other h k join (λ a x y. behind a (omega arith) y) in
          at c other (omega arith) (omega arith) (a, h, k, join, r.0, r.1)

      taken : Found i j → Going F parts first end old u more front i next
      taken (o, h, k, join, stepped, clean) =
          let inside = G.progress.inside in
          let joins = sym (pair-on may first G.groups i j o h) ∙ join in
          let live = ok_at-out may G.groups i j joins in
          let means = level_means F Z links matches known attributes users resources operations T parts t G.groups G.progress.shown i j (omega arith) (omega arith) live.0 live.1 in
          let right = e ∙ means ∙ ap (λ (b : Bool). cond b (level_of (setting_of F) (union (setting_of F) (blocks_of F) (G.groups.group i ++ G.groups.group j))) 4) live.2 in
          let shown = joined_traced F Z parts t u G.groups i j level h (omega arith) G.progress.shown J joins right in
          record {
            groups = joined_at ◌++◌ G.groups i j;
            progress = step-made F parts first end old G.groups i j n o h k G.progress join shown stepped;
            clean = subst (λ (s : Groups (List ℕ)). Clean may end s i front) (joined-within first G.groups ◌++◌ i j) clean;
            partner = partner-same (pair u) (ok_at may (within first (joined_at ◌++◌ G.groups i j))) i o (omega arith) (pairs-same u (joined_at ◌++◌ G.groups i j) inside shown) N;
          }
