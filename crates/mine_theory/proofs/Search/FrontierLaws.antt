-- The search that tests no pair again whose groups are as they were finds the same first pair as the search that begins afresh.
-- Assumes nothing.
use Rattle.std.specs.Prelude.{ℕ, zero, suc, ◌+◌, ◌-◌, ◌≤◌, ◌<◌, eqb, length, Bool, true, false, ◌&&◌, List, ◌∷◌, map, ◌≡◌, refl}
use Rattle.std.proofs.Common.{eqb-true, eq-eqb, ne_eqb, sym, ap, ap₂, ◌∙◌, arith}
use Rattle.std.proofs.lemmas.Bool.{eqb-false}
use Rattle.std.proofs.Math.Bool.{and-true, and-false}
use Rattle.std.proofs.Math.Option
use Rattle.std.proofs.Math.Option.{Option, none, some}
use Rattle.mine_theory.specs.Search.Frontier.{Groups, groups_in, joined_at, ok_at, Clean, NoneBefore, NoneBehind}
use Rattle.policy.specs.Merging.{absorb, step, merge_all}
use Rattle.policy.proofs.MergeLaws.{run, merges}
use Rattle.sets.specs.Tests.{Is, keep, from}
use Rattle.sets.specs.TestLaws.{and_l, and_r, test}

-- ---- the groups of the m numbers from k on

module _ {A : Type 0} where
  abbrev groups_from : Groups A → ℕ → ℕ → List A
  groups_from s k m = map s.group (keep s.alive (from k m))

  from-alive : (s : Groups A) (k m : ℕ) → Is (s.alive k) → groups_from s k (suc m) ≡ s.group k ∷ groups_from s (suc k) m
  from-alive s k m h = rw h

  from_empty : (s : Groups A) (k m : ℕ) → s.alive k ≡ false → groups_from s k (suc m) ≡ groups_from s (suc k) m
  from_empty s k m h = rw h

  -- past a number that is a head in both, or in neither
  past : (R : List A → List A → Type 0) (s t : Groups A) (k m : ℕ) → t.alive k ≡ s.alive k → (Is (s.alive k) → R (s.group k ∷ groups_from s (suc k) m) (t.group k ∷ groups_from t (suc k) m)) → R (groups_from s (suc k) m) (groups_from t (suc k) m) → R (groups_from s k (suc m)) (groups_from t k (suc m))
  past R s t k m e f g = test (s.alive k) (λ p. rw (e, p) (f p)) (λ p. rw (e, p) g)

  from-same : (s t : Groups A) (k m : ℕ) → ((i : ℕ) → k ≤ i → t.alive i ≡ s.alive i) → ((i : ℕ) → k ≤ i → t.group i ≡ s.group i) → groups_from s k m ≡ groups_from t k m
  from-same s t k zero a g = refl
  from-same s t k (suc m) a g =
      let rest = from-same s t (suc k) m (λ i h. a i (omega arith)) (λ i h. g i (omega arith)) in
      past (λ l r. l ≡ r) s t k m (a k (omega arith)) (λ p. ap₂ ◌∷◌ (sym (g k (omega arith))) rest) rest

-- ---- two heads joined

module _ {A : Type 0} (join : A → A → A) (s : Groups A) (i j : ℕ) where
  -- the later is a head no more
  pub emptied : (joined_at join s i j).alive j ≡ false
  unfolding joined_at
  emptied = rw (eq-eqb j j refl) (and-false (s.alive j))

  -- every other number is a head if it was one
  pub alive-kept : (k : ℕ) → (k ≡ j → ⊥) → (joined_at join s i j).alive k ≡ s.alive k
  unfolding joined_at
  alive-kept k d = rw (ne_eqb k j d) (and-true (s.alive k))

  -- the earlier head has the joined group
  pub group-joined : (joined_at join s i j).group i ≡ join (s.group i) (s.group j)
  unfolding joined_at
  group-joined = rw (eq-eqb i i refl)

  -- every other head has the group that it had
  pub group-kept : (k : ℕ) → (k ≡ i → ⊥) → (joined_at join s i j).group k ≡ s.group k
  unfolding joined_at
  group-kept k d = rw (ne_eqb k i d)

  -- past a number that is as it was
  past-kept : (R : List A → List A → Type 0) (k m : ℕ) → (k ≡ i → ⊥) → (k ≡ j → ⊥) → (Is (s.alive k) → R (s.group k ∷ groups_from s (suc k) m) (s.group k ∷ groups_from (joined_at join s i j) (suc k) m)) → R (groups_from s (suc k) m) (groups_from (joined_at join s i j) (suc k) m) → R (groups_from s k (suc m)) (groups_from (joined_at join s i j) k (suc m))
  past-kept R k m ki kj f g = past R s (joined_at join s i j) k m (alive-kept k kj) (λ p. rw (group-kept k ki) (f p)) g

  -- from the later head on only that one is missing
  behind-joined : i < j → (m : ℕ) → groups_from s (suc j) m ≡ groups_from (joined_at join s i j) j (suc m)
  behind-joined h m =
      from-same s (joined_at join s i j) (suc j) m (λ k l. alive-kept k (λ e. omega arith)) (λ k l. group-kept k (λ e. omega arith))
      ∙ sym (from_empty (joined_at join s i j) j m emptied)

  length_from : i < j → Is (s.alive j) → (d k m : ℕ) → k + d ≡ j → j < k + m → length (groups_from s k m) ≡ suc (length (groups_from (joined_at join s i j) k m))
  length_from h a d k zero e l = absurd (omega arith)
  length_from h a zero k (suc m) e l =
      let here : k ≡ j = omega arith in
      rw here (ap length (from-alive s j m a) ∙ ap (λ (t : List A). suc (length t)) (behind-joined h m))
  length_from h a (suc d) k (suc m) e l =
      let rest = length_from h a d (suc k) m (omega arith) (omega arith) in
      past (λ l r. length l ≡ suc (length r)) s (joined_at join s i j) k m (alive-kept k (λ q. omega arith)) (λ p. ap suc rest) rest

-- ---- pairs of heads

module _ {A : Type 0} (ok : A → A → Bool) where
  -- both have groups, and these may be joined
  pub ok_at-out : (s : Groups A) (i j : ℕ) → Is (ok_at ok s i j) → Is (s.alive i) × Is (s.alive j) × Is (ok (s.group i) (s.group j))
  unfolding ok_at
  ok_at-out s i j h =
      let r = and_r (s.alive i) (s.alive j && ok (s.group i) (s.group j)) h in
      (and_l (s.alive i) (s.alive j && ok (s.group i) (s.group j)) h, and_l (s.alive j) (ok (s.group i) (s.group j)) r, and_r (s.alive j) (ok (s.group i) (s.group j)) r)

  -- what is no head takes nothing in
  pub empty_left : (s : Groups A) (i j : ℕ) → s.alive i ≡ false → ok_at ok s i j ≡ false
  unfolding ok_at
  empty_left s i j h = rw h

  -- what is no head is not taken in
  pub empty_right : (s : Groups A) (i j : ℕ) → s.alive j ≡ false → ok_at ok s i j ≡ false
  unfolding ok_at
  empty_right s i j h = rw h (and-false (s.alive i))

  refused : (s : Groups A) (i j : ℕ) → ok_at ok s i j ≡ false → Is (s.alive i) → Is (s.alive j) → ok (s.group i) (s.group j) ≡ false
  unfolding ok_at
  refused s i j h p q = rw (p, q) at h

  pair-kept : (join : A → A → A) (s : Groups A) (i j a b : ℕ) → (a ≡ i → ⊥) → (b ≡ i → ⊥) → (a ≡ j → ⊥) → (b ≡ j → ⊥) → ok_at ok (joined_at join s i j) a b ≡ ok_at ok s a b
  unfolding ok_at
  pair-kept join s i j a b ai bi aj bj = rw (alive-kept join s i j a aj, alive-kept join s i j b bj, group-kept join s i j a ai, group-kept join s i j b bi)

-- ---- the first pair that may be joined

module _ {A : Type 0} (ok : A → A → Bool) (join : A → A → A) where
  absorb-now : (x y : A) (t : List A) → Is (ok x y) → absorb ok join x (y ∷ t) ≡ some (join x y, t)
  absorb-now x y t h = rw h

  absorb-on : (x y : A) (t : List A) → ok x y ≡ false → absorb ok join x (y ∷ t) ≡ Option.map (λ (p : A × List A). (p.0, y ∷ p.1)) (absorb ok join x t)
  absorb-on x y t h = rw h

  step-now : (x y : A) (t u : List A) → absorb ok join x t ≡ some (y, u) → step ok join (x ∷ t) ≡ some (y ∷ u)
  step-now x y t u h = rw (h, step)

  step-on : (x : A) (t : List A) → absorb ok join x t ≡ none → step ok join (x ∷ t) ≡ Option.map (λ (u : List A). x ∷ u) (step ok join t)
  step-on x t h = rw (h, step)

  module _ (s : Groups A) where
    absorb-refused : (a : ℕ) → Is (s.alive a) → (k m : ℕ) → ((b : ℕ) → k ≤ b → b < k + m → ok_at ok s a b ≡ false) → absorb ok join (s.group a) (groups_from s k m) ≡ none
    absorb-refused a p k zero h = refl
    absorb-refused a p k (suc m) h =
        let rest = absorb-refused a p (suc k) m (λ b l u. h b (omega arith) (omega arith)) in
        past (λ l r. absorb ok join (s.group a) l ≡ none) s s k m refl (λ q. absorb-on (s.group a) (s.group k) (groups_from s (suc k) m) (refused ok s a k (h k (omega arith) (omega arith)) p q) ∙ ap (Option.map (λ (r : A × List A). (r.0, s.group k ∷ r.1))) rest) rest

    none_from : (k m : ℕ) → ((a b : ℕ) → k ≤ a → a < b → b < k + m → ok_at ok s a b ≡ false) → step ok join (groups_from s k m) ≡ none
    none_from k zero h = refl
    none_from k (suc m) h =
        let rest = none_from (suc k) m (λ a b p q r. h a b (omega arith) q (omega arith)) in
        past (λ l r. step ok join l ≡ none) s s k m refl (λ q. step-on (s.group k) (groups_from s (suc k) m) (absorb-refused k q (suc k) m (λ b p r. h k b (omega arith) (omega arith) (omega arith))) ∙ ap (Option.map (λ (u : List A). s.group k ∷ u)) rest) rest

    module _ (i j : ℕ) (order : i < j) (may : Is (ok_at ok s i j)) (first : (b : ℕ) → i < b → b < j → ok_at ok s i b ≡ false) where
      abbrev after : Groups A
      after = joined_at join s i j

      abbrev joined : A
      joined = join (s.group i) (s.group j)

      absorb-here : (m : ℕ) → absorb ok join (s.group i) (groups_from s j (suc m)) ≡ some (joined, groups_from after j (suc m))
      absorb-here m =
          let live = ok_at-out ok s i j may in
          ap (absorb ok join (s.group i)) (from-alive s j m live.1)
          ∙ absorb-now (s.group i) (s.group j) (groups_from s (suc j) m) live.2
          ∙ ap (λ (t : List A). some (joined, t)) (behind-joined join s i j order m)

      absorb-from : (d k m : ℕ) → k + d ≡ j → i < k → j < k + m → absorb ok join (s.group i) (groups_from s k m) ≡ some (joined, groups_from after k m)
      absorb-from d k zero e h l = absurd (omega arith)
      absorb-from zero k (suc m) e h l = let here : k ≡ j = omega arith in rw here (absorb-here m)
      absorb-from (suc d) k (suc m) e h l =
          let rest = absorb-from d (suc k) m (omega arith) (omega arith) (omega arith) in
          past-kept join s i j (λ l r. absorb ok join (s.group i) l ≡ some (joined, r)) k m (λ q. omega arith) (λ q. omega arith) (λ q. absorb-on (s.group i) (s.group k) (groups_from s (suc k) m) (refused ok s i k (first k h (omega arith)) (ok_at-out ok s i j may).0 q) ∙ ap (Option.map (λ (r : A × List A). (r.0, s.group k ∷ r.1))) rest) rest

      step-here : (m : ℕ) → j < i + suc m → step ok join (groups_from s i (suc m)) ≡ some (groups_from after i (suc m))
      step-here m l =
          let live = (ok_at-out ok s i j may).0 in
          ap (step ok join) (from-alive s i m live)
          ∙ step-now (s.group i) joined (groups_from s (suc i) m) (groups_from after (suc i) m) (absorb-from (j - suc i) (suc i) m (omega arith) (omega arith) (omega arith))
          ∙ ap some (ap (λ (x : A). x ∷ groups_from after (suc i) m) (sym (group-joined join s i j)) ∙ sym (from-alive after i m (alive-kept join s i j i (λ q. omega arith) ∙ live)))

      step_from : (d k m : ℕ) → k + d ≡ i → j < k + m → ((a b : ℕ) → a < i → a < b → b < k + m → ok_at ok s a b ≡ false) → step ok join (groups_from s k m) ≡ some (groups_from after k m)
      step_from d k zero e l h = absurd (omega arith)
      step_from zero k (suc m) e l h = let here : k ≡ i = omega arith in rw here (step-here m (omega arith))
      step_from (suc d) k (suc m) e l h =
          let rest = step_from d (suc k) m (omega arith) (omega arith) (λ a b p q r. h a b p q (omega arith)) in
          past-kept join s i j (λ l r. step ok join l ≡ some r) k m (λ q. omega arith) (λ q. omega arith) (λ q. step-on (s.group k) (groups_from s (suc k) m) (absorb-refused k q (suc k) m (λ b p r. h k b (omega arith) (omega arith) (omega arith))) ∙ ap (Option.map (λ (u : List A). s.group k ∷ u)) rest) rest

module _ {A : Type 0} (ok : A → A → Bool) (join : A → A → A) (n : ℕ) where
  -- a step joins the first pair that may be joined, by the earlier head, then by the other
  pub step-first : (s : Groups A) (i j : ℕ) → i < j → j < n → ok_at ok s i j ≡ true → ((a b : ℕ) → a < i → a < b → b < n → ok_at ok s a b ≡ false) → ((b : ℕ) → i < b → b < j → ok_at ok s i b ≡ false) → step ok join (groups_in n s) ≡ some (groups_in n (joined_at join s i j))
  unfolding groups_in
  step-first s i j h l may earlier first = step_from ok join s i j h may first i 0 n (omega arith) (omega arith) (λ a b p q r. earlier a b p q (omega arith))

  -- where no pair may be joined there is no step
  pub step-none : (s : Groups A) → ((a b : ℕ) → a < b → b < n → ok_at ok s a b ≡ false) → step ok join (groups_in n s) ≡ none
  unfolding groups_in
  step-none s h = none_from ok join s 0 n (λ a b p q r. h a b q (omega arith))

  -- a join leaves one group fewer
  pub joined_length : (s : Groups A) (i j : ℕ) → ok_at ok s i j ≡ true → i < j → j < n → length (groups_in n s) ≡ suc (length (groups_in n (joined_at join s i j)))
  unfolding groups_in
  joined_length s i j may h l = length_from join s i j h (ok_at-out ok s i j may).1 j 0 n (omega arith) (omega arith)

-- ---- what the search knows

module _ {A : Type 0} (ok : A → A → Bool) (n : ℕ) where
  -- the search begins with nothing tested
  pub begin : (s : Groups A) → Clean ok n s 0 0
  begin s = record { apart = λ i j h l f. absurd (omega arith) }

  -- with their pairs with c refused too, the heads before x have none
  refused-before : {s : Groups A} {c front : ℕ} → Clean ok n s c front → c < front → (x : ℕ) → x ≤ c → ((a : ℕ) → a < x → ok_at ok s a c ≡ false) → (a b : ℕ) → a < x → a < b → b < n → ok_at ok s a b ≡ false
  refused-before {c = c} C f x l h a b p q r = test (eqb b c) (λ e. rw (eqb-true b c e) (h a p)) (λ e. C.apart a b q r (omega arith) (λ d. omega arith) (eqb-false b c e))

  -- with all pairs of c refused too, the heads before the front have none
  all-refused : {s : Groups A} {c front : ℕ} → Clean ok n s c front → NoneBefore ok s c → NoneBehind ok n s c → (a b : ℕ) → a < b → b < n → a < front → ok_at ok s a b ≡ false
  all-refused {s} {c} C before behind a b h l f = test (eqb a c) (λ e. first (eqb-true a c e)) (λ d. test (eqb b c) (λ e. second (eqb-true b c e)) (λ e. C.apart a b h l f (eqb-false a c d) (eqb-false b c e)))
    where
      first : a ≡ c → ok_at ok s a b ≡ false
      first q = rw q (behind b (omega arith) l)

      second : b ≡ c → ok_at ok s a b ≡ false
      second q = rw q (before a (omega arith))

  -- where c has no pair, the search goes on with the number at the front
  pub go_on : {s : Groups A} {c front : ℕ} → Clean ok n s c front → c < front → NoneBefore ok s c → NoneBehind ok n s c → front < n → Clean ok n s front (suc front) × NoneBefore ok s front
  go_on {front = front} C k before behind l = (record { apart = λ a b h u f d e. all-refused C before behind a b h u (omega arith) }, λ a h. all-refused C before behind a front h l h)

  module _ (join : A → A → A) where
    untouched : (s : Groups A) (i j a b : ℕ) → (a ≡ i → ⊥) → (b ≡ i → ⊥) → ((a ≡ j → ⊥) → (b ≡ j → ⊥) → ok_at ok s a b ≡ false) → ok_at ok (joined_at join s i j) a b ≡ false
    untouched s i j a b ai bi h = test (eqb a j) (λ e. first (eqb-true a j e)) (λ d. test (eqb b j) (λ e. second (eqb-true b j e)) (λ e. neither (eqb-false a j d) (eqb-false b j e)))
      where
        first : a ≡ j → ok_at ok (joined_at join s i j) a b ≡ false
        first q = empty_left ok (joined_at join s i j) a b (rw q (emptied join s i j))

        second : b ≡ j → ok_at ok (joined_at join s i j) a b ≡ false
        second q = empty_right ok (joined_at join s i j) a b (rw q (emptied join s i j))

        neither : (a ≡ j → ⊥) → (b ≡ j → ⊥) → ok_at ok (joined_at join s i j) a b ≡ false
        neither aj bj = pair-kept ok join s i j a b ai bi aj bj ∙ h aj bj

    -- after a join only the pairs of the earlier head are to be tested again
    joined-clean : {s : Groups A} {c front : ℕ} (i j : ℕ) → Clean ok n s c front → ((k : ℕ) → (k ≡ i → ⊥) → (k ≡ j → ⊥) → k ≡ c → ⊥) → Clean ok n (joined_at join s i j) i front
    joined-clean {s} i j C other = record { apart = λ a b h l f ai bi. untouched s i j a b ai bi (λ aj bj. C.apart a b h l f (other a ai aj) (other b bi bj)) }

module _ {A : Type 0} (ok : A → A → Bool) (join : A → A → A) (n : ℕ) where
  -- the first head that may take c's group in: a step joins the two, and the search goes on with that head
  pub back_found : {s : Groups A} {c front : ℕ} → Clean ok n s c front → c < front → c < n → (i : ℕ) → i < c → ok_at ok s i c ≡ true → ((k : ℕ) → k < i → ok_at ok s k c ≡ false) → (step ok join (groups_in n s) ≡ some (groups_in n (joined_at join s i c))) × Clean ok n (joined_at join s i c) i front
  back_found {s} {c} C f l i h may earlier =
      let before = refused-before ok n C f i (omega arith) earlier in
      (step-first ok join n s i c h l may before (λ b p q. C.apart i b p (omega arith) (omega arith) (λ d. omega arith) (λ d. omega arith)), joined-clean ok n join i c C (λ k p q. q))

  -- the first head behind c whose group c's may take in: a step joins the two, and the search stays with c
  pub behind-found : {s : Groups A} {c front : ℕ} → Clean ok n s c front → c < front → NoneBefore ok s c → (j : ℕ) → c < j → j < n → ok_at ok s c j ≡ true → ((k : ℕ) → c < k → k < j → ok_at ok s c k ≡ false) → (step ok join (groups_in n s) ≡ some (groups_in n (joined_at join s c j))) × Clean ok n (joined_at join s c j) c front
  behind-found {s} {c} C f before j h l may first = (step-first ok join n s c j h l may (refused-before ok n C f c (omega arith) before) first, joined-clean ok n join c j C (λ k p q. p))

-- ---- from a step to a run

module _ {A : Type 0} (ok : A → A → Bool) (join : A → A → A) where
  -- a run, by its first step
  first_step : (k : ℕ) (gs : List A) (o : Option (List A)) → step ok join gs ≡ o
      → merge_all ok join (suc k) gs ≡ elim o as (λ _. List A × ℕ) [ none ↦ (gs, 0) | some s ↦ (run ok join k s, suc (merges ok join k s)) ]
  first_step k gs o h = ap (λ (p : Option (List A)). elim p as (λ _. List A × ℕ) [ none ↦ (gs, 0) | some s ↦ (run ok join k s, suc (merges ok join k s)) ]) h

  -- a step that is made is the first of the run
  pub run-found : (k : ℕ) (gs hs : List A) → step ok join gs ≡ some hs → (run ok join (suc k) gs ≡ run ok join k hs) × (merges ok join (suc k) gs ≡ suc (merges ok join k hs))
  run-found k gs hs h = let e = first_step k gs (some hs) h in (ap (λ (r : List A × ℕ). r.0) e, ap (λ (r : List A × ℕ). r.1) e)

  -- where there is no step the run is over
  pub run_none : (k : ℕ) (gs : List A) → step ok join gs ≡ none → (run ok join k gs ≡ gs) × (merges ok join k gs ≡ 0)
  run_none zero gs h = (refl, refl)
  run_none (suc k) gs h = let e = first_step k gs none h in (ap (λ (r : List A × ℕ). r.0) e, ap (λ (r : List A × ℕ). r.1) e)
