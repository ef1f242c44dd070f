-- Merging in two stages, within each segment of the groups and then over all that are left, is a run of merges like any
-- other.
-- Assumes nothing.
use Rattle.std.specs.Prelude.{ℕ, zero, suc, ◌+◌, ◌≤◌, length, Bool, List, [], ◌∷◌, ◌++◌, ◌≡◌, refl}
use Rattle.std.proofs.Common.{length-append, append-nil, append_assoc, sym, ap, ◌∙◌, arith}
use mathlib.Core.List.Memᴰ
use Rattle.std.proofs.Math.Option.{none, map}
use Rattle.policy.proofs.MergeLaws.{NoneFor, Apart, Runs, run, merges, run_runs, Many, runs_many, many_beside, many_runs, runs_apart, runs_count, nil, cons, none_made}
use Rattle.policy.specs.Merging.{absorb, step, first_stage, stages}
use Rattle.sets.specs.Tests.{each}

-- the groups of all segments, one segment behind the other
abbrev pub together : {A : Type 0} → List (List A) → List A
together segments = each (λ gs. gs) segments

module _ {A : Type 0} (ok : A → A → Bool) (join : A → A → A) where
  -- the first stage makes merges, each of a pair that may be joined, and leaves no more groups than there were
  first-merges : (n : ℕ) (segments : List (List A)) → length (together segments) ≤ n
      → Many ok join (together segments) (first_stage ok join n segments).0 (first_stage ok join n segments).1 × (length (first_stage ok join n segments).0 ≤ length (together segments))
  first-merges n [] h = (none_made, omega arith)
  first-merges n (gs ∷ segments) h =
      let long = length-append gs (together segments) in
      let left = length-append (run ok join n gs) (first_stage ok join n segments).0 in
      let r = run_runs ok join n gs (omega arith) in
      let fewer = runs_count ok join r in
      let rest = first-merges n segments (omega arith) in
      (many_beside ok join (runs_many ok join r) rest.0, let fewer-left = rest.1 in omega arith)

  -- both stages are a run: what is shown of runs holds of them
  pub stages-run : (n : ℕ) (segments : List (List A)) → length (together segments) ≤ n → Runs ok join (together segments) (stages ok join n segments).0 (stages ok join n segments).1
  stages-run n segments h =
      let first = first-merges n segments h in
      many_runs ok join first.0 (run_runs ok join n (first_stage ok join n segments).0 (let fewer = first.1 in omega arith))

  -- one segment more
  pub first_next : (n : ℕ) (segments : List (List A)) (gs : List A)
      → ((first_stage ok join n (segments ++ (gs ∷ []))).0 ≡ (first_stage ok join n segments).0 ++ run ok join n gs) × ((first_stage ok join n (segments ++ (gs ∷ []))).1 ≡ (first_stage ok join n segments).1 + merges ok join n gs)
  first_next n [] gs = (append-nil (run ok join n gs), omega arith)
  first_next n (s ∷ segments) gs =
      let r = first_next n segments gs in
      let many = r.1 in
      (ap (λ t. run ok join n s ++ t) r.0 ∙ sym (append_assoc (run ok join n s) (first_stage ok join n segments).0 (run ok join n gs)), omega arith)

  -- ---- groups at rest stay as they are

  absorb-none : (g : A) (t : List A) → NoneFor ok join g t → absorb ok join g t ≡ none
  absorb-none g [] h = refl
  absorb-none g (x ∷ t) h = rw (h x (Memᴰ.head refl)) (ap (map (λ (p : A × List A). (p.0, x ∷ p.1))) (absorb-none g t (λ y m. h y (Memᴰ.tail m))))

  step-none : {gs : List A} → Apart ok join gs → step ok join gs ≡ none
  step-none nil = refl
  step-none (cons {g = g} {t = t} h a) = rw (absorb-none g t h, step) (ap (map (λ (s : List A). g ∷ s)) (step-none a))

  pub rests : (n : ℕ) {gs : List A} → Apart ok join gs → (run ok join n gs ≡ gs) × (merges ok join n gs ≡ 0)
  rests zero a = (refl, refl)
  rests (suc n) a = (rw (step-none a, run), rw (step-none a, merges))

  -- of one segment both stages are the ordinary run
  pub one_stage : (n : ℕ) (gs : List A) → length gs ≤ n → ((stages ok join n (gs ∷ [])).0 ≡ run ok join n gs) × ((stages ok join n (gs ∷ [])).1 ≡ merges ok join n gs)
  one_stage n gs h =
      let rest = rests n (runs_apart ok join (run_runs ok join n gs h)) in
      let e = append-nil (run ok join n gs) in
      let a : run ok join n (run ok join n gs ++ []) ≡ run ok join n gs = ap (run ok join n) e ∙ rest.0 in
      let b : merges ok join n (run ok join n gs ++ []) ≡ 0 = ap (merges ok join n) e ∙ rest.1 in
      (a, let c : merges ok join n gs + 0 + 0 ≡ merges ok join n gs = omega arith in ap (λ (k : ℕ). merges ok join n gs + 0 + k) b ∙ c)
