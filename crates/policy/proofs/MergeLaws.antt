-- Merging: pairs that may be joined are joined, until there is none. Over any type of groups.
-- Assumes nothing.
use Rattle.std.specs.Prelude.{ℕ, zero, suc, ◌+◌, ◌≤◌, ◌<◌, length, get_or, Bool, true, false, cond, List, [], ◌∷◌, ◌++◌, ◌≡◌, refl}
use mathlib.Core.List.Memᴰ
use Rattle.std.proofs.Math.Option.{Option, none, some, map}
use Rattle.std.proofs.Common.{sym, ap, ◌∙◌, subst, arith}
use Rattle.policy.specs.Merging.{absorb, step, merge_all}
use Rattle.sets.specs.Sorted.{Ascending, and-then}
use Rattle.sets.specs.Tests.{Is, ◌is_in◌}
use Rattle.sets.specs.TestLaws.{get_d_in}

-- what all members make together
abbrev pub total {ℓ} : {A : Type ℓ} {M : Type 0} → (M → M → M) → M → (A → M) → List A → M
total op unit f [] = unit
total op unit f (g ∷ t) = op (f g) (total op unit f t)

-- every member has a property
abbrev pub Every {ℓ} : {A : Type ℓ} → (A → Type 0) → List A → Type ℓ
Every {A = A} Q l = (g : A) → g is_in l → Q g

pub every_cons {ℓ} : {A : Type ℓ} (Q : A → Type 0) (h : A) (t : List A) → Q h → Every Q t → Every Q (h ∷ t)
every_cons Q h t q e k (Memᴰ.head p) = subst Q (sym p) q
every_cons Q h t q e k (Memᴰ.tail m) = e k m

module _ {A : Type 0} (ok : A → A → Bool) (join : A → A → A) where
  -- ---- the same as relations. A step joins any two groups that may be joined: the first pair, as 01 has it, is one of
  -- them, and nothing below asks for more

  abbrev pub NoneFor : A → List A → Type 0
  NoneFor g t = (h : A) → h is_in t → ok g h ≡ false

  pub data Absorbs (g : A) : List A → A → List A → Type 0 where
    here : {h : A} {t : List A} → Is (ok g h) → Absorbs g (h ∷ t) (join g h) t
    there : {h g' : A} {t t' : List A} → Absorbs g t g' t' → Absorbs g (h ∷ t) g' (h ∷ t')

  pub data Steps : List A → List A → Type 0 where
    now : {g g' : A} {t t' : List A} → Absorbs g t g' t' → Steps (g ∷ t) (g' ∷ t')
    later : {g : A} {t t' : List A} → Steps t t' → Steps (g ∷ t) (g ∷ t')

  -- no pair may be joined
  pub data Apart : List A → Type 0 where
    nil : Apart []
    cons : {g : A} {t : List A} → NoneFor g t → Apart t → Apart (g ∷ t)

  pub data Runs : List A → List A → ℕ → Type 0 where
    stop : {gs : List A} → Apart gs → Runs gs gs 0
    more : {gs gs₁ gs₂ : List A} {n : ℕ} → Steps gs gs₁ → Runs gs₁ gs₂ n → Runs gs gs₂ (suc n)

  -- ---- what the functions find, by view: the answer is the index
  data AbsorbView (g : A) (t : List A) : Option (A × List A) → Type 0 where
    none_found : NoneFor g t → AbsorbView g t none
    found : {g' : A} {t' : List A} → Absorbs g t g' t' → AbsorbView g t (some (g', t'))

  data StepView (gs : List A) : Option (List A) → Type 0 where
    at_rest : Apart gs → StepView gs none
    moved : {s : List A} → Steps gs s → StepView gs (some s)

  none-cons : (g h : A) (t : List A) → ok g h ≡ false → NoneFor g t → NoneFor g (h ∷ t)
  none-cons g h t e n k (Memᴰ.head q) = rw q e
  none-cons g h t e n k (Memᴰ.tail m) = n k m

  absorb-there : (g h : A) (t : List A) → ok g h ≡ false → (o : Option (A × List A)) → AbsorbView g t o → AbsorbView g (h ∷ t) (map (λ (p : A × List A). (p.0, h ∷ p.1)) o)
  absorb-there g h t e o (none_found n) = none_found (none-cons g h t e n)
  absorb-there g h t e o (found a) = found (there a)

  absorb_view : (g : A) (t : List A) → AbsorbView g t (absorb ok join g t)
  absorb_view g [] = none_found (λ h m. absurd (Memᴰ.not-nil m))
  absorb_view g (h ∷ t) = go (ok g h) refl (absorb_view g t)
    where
      go : (b : Bool) → ok g h ≡ b → AbsorbView g t (absorb ok join g t) → AbsorbView g (h ∷ t) (cond b (some (join g h, t)) (map (λ (p : A × List A). (p.0, h ∷ p.1)) (absorb ok join g t)))
      go true e v = found (here e)
      go false e v = absorb-there g h t e (absorb ok join g t) v

  step-there : (g : A) (t : List A) → NoneFor g t → (o : Option (List A)) → StepView t o → StepView (g ∷ t) (map (λ (s : List A). g ∷ s) o)
  step-there g t n o (at_rest a) = at_rest (cons n a)
  step-there g t n o (moved s) = moved (later s)

  step_view : (gs : List A) → StepView gs (step ok join gs)
  step_view [] = at_rest nil
  step_view (g ∷ t) = go (absorb ok join g t) (absorb_view g t) (step_view t)
    where
      go : (o : Option (A × List A)) → AbsorbView g t o → StepView t (step ok join t) → StepView (g ∷ t) (elim o as (λ _. Option (List A)) [ none ↦ map (λ (s : List A). g ∷ s) (step ok join t) | some p ↦ some (p.0 ∷ p.1) ])
      go o (none_found n) v = step-there g t n (step ok join t) v
      go o (found a) v = moved (now a)

  -- ---- what a merge keeps

  absorbs_length : {g g' : A} {t t' : List A} → Absorbs g t g' t' → length t ≡ suc (length t')
  absorbs_length (here h) = refl
  absorbs_length (there a) = ap suc (absorbs_length a)

  pub steps_length : {gs gs' : List A} → Steps gs gs' → length gs ≡ suc (length gs')
  steps_length (now a) = ap suc (absorbs_length a)
  steps_length (later s) = ap suc (steps_length s)

  -- the two halves of a run: the groups that it leaves, and the merges that it makes
  abbrev pub run : ℕ → List A → List A
  run n gs = (merge_all ok join n gs).0

  abbrev pub merges : ℕ → List A → ℕ
  merges n gs = (merge_all ok join n gs).1

  -- enough fuel: the run comes to rest
  pub run_runs : (n : ℕ) (gs : List A) → length gs ≤ n → Runs gs (run n gs) (merges n gs)
  run_runs zero [] h = stop nil
  run_runs zero (g ∷ t) h = absurd (omega arith)
  run_runs (suc n) gs h = go (λ s. run_runs n s) (step ok join gs) (step_view gs)
    where
      go : ((s : List A) → length s ≤ n → Runs s (run n s) (merges n s)) → (o : Option (List A)) → StepView gs o
          → let e = elim o as (λ _. List A × ℕ) [ none ↦ (gs, 0) | some s ↦ (run n s, suc (merges n s)) ] in Runs gs e.0 e.1
      go r o (at_rest a) = stop a
      go r o (moved {s = s} k) = more k (r s (let e = steps_length k in omega arith))

  -- a run with more steps than there are groups is no longer
  pub run-enough : (n : ℕ) (gs : List A) → length gs ≤ n → merge_all ok join n gs ≡ merge_all ok join (length gs) gs
  run-enough zero [] h = refl
  run-enough zero (g ∷ t) h = absurd (omega arith)
  run-enough (suc n) [] h = refl
  run-enough (suc n) (g ∷ t) h = go (λ s. run-enough n s) (step ok join (g ∷ t)) (step_view (g ∷ t))
    where
      go : ((s : List A) → length s ≤ n → merge_all ok join n s ≡ merge_all ok join (length s) s) → (o : Option (List A)) → StepView (g ∷ t) o
          → ◌≡◌ {A = List A × ℕ} (elim o as (λ _. List A × ℕ) [ none ↦ (g ∷ t, 0) | some s ↦ (run n s, suc (merges n s)) ]) (elim o as (λ _. List A × ℕ) [ none ↦ (g ∷ t, 0) | some s ↦ (run (length t) s, suc (merges (length t) s)) ])
      go r o (at_rest a) = refl
      go r o (moved {s = s} k) =
          let d = steps_length k in
          let e : length s ≡ length t = omega arith in
          ap (λ (q : List A × ℕ). (q.0, suc q.1)) (r s (omega arith) ∙ ap (λ (m : ℕ). merge_all ok join m s) e)

  -- ---- stages: merges of any pairs that may be joined, before a run

  pub data Many : List A → List A → ℕ → Type 0 where
    none_made : {gs : List A} → Many gs gs 0
    one_more_lem : {gs gs₁ gs₂ : List A} {n : ℕ} → Steps gs gs₁ → Many gs₁ gs₂ n → Many gs gs₂ (suc n)

  pub runs_many : {gs gs' : List A} {n : ℕ} → Runs gs gs' n → Many gs gs' n
  runs_many (stop a) = none_made
  runs_many (more s r) = one_more_lem s (runs_many r)

  steps_front : {t t' : List A} (g : List A) → Steps t t' → Steps (g ++ t) (g ++ t')
  steps_front [] s = s
  steps_front (x ∷ xs) s = later (steps_front xs s)

  absorbs_behind : {g g' : A} {t t' : List A} (u : List A) → Absorbs g t g' t' → Absorbs g (t ++ u) g' (t' ++ u)
  absorbs_behind u (here p) = here p
  absorbs_behind u (there a) = there (absorbs_behind u a)

  steps_behind : {t t' : List A} (u : List A) → Steps t t' → Steps (t ++ u) (t' ++ u)
  steps_behind u (now a) = now (absorbs_behind u a)
  steps_behind u (later s) = later (steps_behind u s)

  -- merges in one part of a list, and then in the other
  many-front : {t t' : List A} {n : ℕ} (s : List A) → Many t t' n → Many (s ++ t) (s ++ t') n
  many-front s none_made = none_made
  many-front s (one_more_lem k r) = one_more_lem (steps_front s k) (many-front s r)

  pub many_beside : {s s' t t' : List A} {m n : ℕ} → Many s s' m → Many t t' n → Many (s ++ t) (s' ++ t') (m + n)
  many_beside {s} {t = t} {t' = t'} {n = n} none_made q = let e : n ≡ 0 + n = omega arith in subst (λ (k : ℕ). Many (s ++ t) (s ++ t') k) e (many-front s q)
  many_beside {s' = s'} {t = t} {t' = t'} {n = n} (one_more_lem {gs = gs} {n = m} k r) q =
      let e : suc (m + n) ≡ suc m + n = omega arith in subst (λ (j : ℕ). Many (gs ++ t) (s' ++ t') j) e (one_more_lem (steps_behind t k) (many_beside r q))

  -- and a run at the end
  pub many_runs : {gs gs₁ gs₂ : List A} {m n : ℕ} → Many gs gs₁ m → Runs gs₁ gs₂ n → Runs gs gs₂ (m + n)
  many_runs {gs} {gs₂ = gs₂} {n = n} none_made r = let e : n ≡ 0 + n = omega arith in subst (λ (k : ℕ). Runs gs gs₂ k) e r
  many_runs {gs₂ = gs₂} {n = n} (one_more_lem {gs = gs} {n = m} k q) r = let e : suc (m + n) ≡ suc m + n = omega arith in subst (λ (j : ℕ). Runs gs gs₂ j) e (more k (many_runs q r))

  pub runs_apart : {gs gs' : List A} {n : ℕ} → Runs gs gs' n → Apart gs'
  runs_apart (stop a) = a
  runs_apart (more s r) = runs_apart r

  -- parts = rules + merges
  pub runs_count : {gs gs' : List A} {n : ℕ} → Runs gs gs' n → length gs ≡ length gs' + n
  runs_count (stop {gs = gs} a) = omega arith
  runs_count (more s r) = let e = steps_length s in let f = runs_count r in omega arith

  -- an operation by which groups add up: what all groups make together is kept
  module _ {M : Type 0} (◌⊛◌ : M → M → M) (unit : M) (assoc : (x y z : M) → ◌⊛◌ (◌⊛◌ x y) z ≡ ◌⊛◌ x (◌⊛◌ y z)) (comm : (x y : M) → ◌⊛◌ x y ≡ ◌⊛◌ y x) (f : A → M) (adds : (g h : A) → f (join g h) ≡ ◌⊛◌ (f g) (f h)) where
    infixl 60 ◌⊛◌
    abbrev sum_of : List A → M
    sum_of l = total ◌⊛◌ unit f l

    swap : (x y z : M) → x ⊛ (y ⊛ z) ≡ y ⊛ (x ⊛ z)
    swap x y z = sym (assoc x y z) ∙ ap (λ (k : M). k ⊛ z) (comm x y) ∙ assoc y x z

    absorbs_total : {g g' : A} {t t' : List A} → Absorbs g t g' t' → f g ⊛ sum_of t ≡ f g' ⊛ sum_of t'
    absorbs_total {g} (here {h = h} {t = t} p) = sym (assoc (f g) (f h) (sum_of t)) ∙ ap (λ (k : M). k ⊛ sum_of t) (sym (adds g h))
    absorbs_total {g} (there {h = h} {g' = g'} {t = t} {t' = t'} a) = swap (f g) (f h) (sum_of t) ∙ ap (λ (k : M). f h ⊛ k) (absorbs_total a) ∙ swap (f h) (f g') (sum_of t')

    steps_total : {gs gs' : List A} → Steps gs gs' → sum_of gs ≡ sum_of gs'
    steps_total (now a) = absorbs_total a
    steps_total (later {g = g} s) = ap (λ (k : M). f g ⊛ k) (steps_total s)

    pub runs_total : {gs gs' : List A} {n : ℕ} → Runs gs gs' n → total ◌⊛◌ unit f gs ≡ total ◌⊛◌ unit f gs'
    runs_total (stop a) = refl
    runs_total (more s r) = steps_total s ∙ runs_total r

  -- a property that joining keeps
  module _ (Q : A → Type 0) (keeps : (g h : A) → Q g → Q h → Is (ok g h) → Q (join g h)) where
    absorbs_every : {g g' : A} {t t' : List A} → Absorbs g t g' t' → Q g → Every Q t → Q g' × Every Q t'
    absorbs_every {g} (here {h = h} p) q e = (keeps g h q (e h (Memᴰ.head refl)) p, λ k m. e k (Memᴰ.tail m))
    absorbs_every (there {h = h} {t' = t'} a) q e =
        let r = absorbs_every a q (λ k m. e k (Memᴰ.tail m)) in
        (r.0, every_cons Q h t' (e h (Memᴰ.head refl)) r.1)

    steps_every : {gs gs' : List A} → Steps gs gs' → Every Q gs → Every Q gs'
    steps_every (now {g = g} {g' = g'} {t' = t'} a) e =
        let r = absorbs_every a (e g (Memᴰ.head refl)) (λ k m. e k (Memᴰ.tail m)) in
        every_cons Q g' t' r.0 r.1
    steps_every (later {g = g} {t' = t'} s) e = every_cons Q g t' (e g (Memᴰ.head refl)) (steps_every s (λ k m. e k (Memᴰ.tail m)))

    pub runs_every : {gs gs' : List A} {n : ℕ} → Runs gs gs' n → Every Q gs → Every Q gs'
    runs_every (stop a) e = e
    runs_every (more s r) e = runs_every r (steps_every s e)

  -- the order of the groups: by a number that the earlier of two hands on
  module _ (low : A → ℕ) (first : (g h : A) → low g < low h → low (join g h) ≡ low g) where
    -- what a group absorbs leaves the others as they were, and its own number
    absorbs_low : {g g' : A} {t t' : List A} → Absorbs g t g' t' → Every (λ h. low g < low h) t → (low g' ≡ low g) × Every (λ h. low g < low h) t'
    absorbs_low {g} (here {h = h} p) e = (first g h (e h (Memᴰ.head refl)), λ k m. e k (Memᴰ.tail m))
    absorbs_low {g} (there {h = h} {t' = t'} a) e =
        let r = absorbs_low a (λ k m. e k (Memᴰ.tail m)) in
        (r.0, every_cons (λ h. low g < low h) h t' (e h (Memᴰ.head refl)) r.1)

    absorbs_part : {g g' : A} {t t' : List A} (Q : A → Type 0) → Absorbs g t g' t' → Every Q t → Every Q t'
    absorbs_part Q (here p) e = λ k m. e k (Memᴰ.tail m)
    absorbs_part Q (there {h = h} {t' = t'} a) e = every_cons Q h t' (e h (Memᴰ.head refl)) (absorbs_part Q a (λ k m. e k (Memᴰ.tail m)))

    absorbs_rest : {g g' : A} {t t' : List A} → Absorbs g t g' t' → Ascending low t → Ascending low t'
    absorbs_rest (here p) (and-then e s) = s
    absorbs_rest (there {h = h} a) (and-then e s) = and-then (absorbs_part (λ k. low h < low k) a e) (absorbs_rest a s)

    steps_low : {gs gs' : List A} (x : ℕ) → Steps gs gs' → Ascending low gs → Every (λ h. x < low h) gs → Every (λ h. x < low h) gs'
    steps_low x (now {g = g} {g' = g'} {t' = t'} a) (and-then b s) e =
        let r = absorbs_low a b in
        let k = e g (Memᴰ.head refl) in
        every_cons (λ h. x < low h) g' t' (omega arith) (absorbs_part (λ h. x < low h) a (λ k m. e k (Memᴰ.tail m)))
    steps_low x (later {g = g} {t' = t'} s) (and-then b o) e = every_cons (λ h. x < low h) g t' (e g (Memᴰ.head refl)) (steps_low x s o (λ k m. e k (Memᴰ.tail m)))

    steps_ascending : {gs gs' : List A} → Steps gs gs' → Ascending low gs → Ascending low gs'
    steps_ascending (now {g = g} {g' = g'} a) (and-then e s) = let r = absorbs_low a e in and-then {x = g'} (λ k m. let q = r.1 k m in omega arith) (absorbs_rest a s)
    steps_ascending (later {g = g} s) (and-then e o) = and-then (steps_low (low g) s o e) (steps_ascending s o)

    pub runs_ascending : {gs gs' : List A} {n : ℕ} → Runs gs gs' n → Ascending low gs → Ascending low gs'
    runs_ascending (stop a) e = e
    runs_ascending (more s r) e = runs_ascending r (steps_ascending s e)

  -- no two groups at rest may be joined
  pub apart-at : {gs : List A} (d : A) → Apart gs → (i j : ℕ) → i < j → j < length gs → ok (get_or gs i d) (get_or gs j d) ≡ false
  apart-at d nil i j h l = absurd (omega arith)
  apart-at d (cons n a) i zero h l = absurd (omega arith)
  apart-at d (cons {t = t} n a) zero (suc j) h l = n (get_or t j d) (get_d_in t d j (omega arith))
  apart-at d (cons n a) (suc i) (suc j) h l = apart-at d a i j (omega arith) (omega arith)
