-- New numbers reach everybody, and what is asked of everybody does not depend on them.
-- Assumes nothing.
use Rattle.std.specs.Prelude.{ℕ, zero, suc, ◌+◌, ◌<◌, eqb, ltb, Bool, false, List, ◌∷◌, map, ◌⊎◌, ◌≡◌, refl}
use Rattle.std.proofs.Common.{eqb-true, eq-eqb, inl, inr, sym, ap, ◌∙◌, arith}
use Rattle.std.proofs.lemmas.List.{length-map}
use mathlib.Core.List.Memᴰ
use Rattle.policy.proofs.CircleLaws.{few-below}
use Rattle.policy.specs.Circles.{unrepeated}
use Rattle.renumbering.specs.Renumbered.{Renumbering}
use Rattle.sets.specs.ListLaws.{from-length}
use Rattle.sets.specs.Sorted.{sort}
use Rattle.sets.specs.SortedLaws.{sort_in, sort-out, sort-rising, rising_ext, numbers}
use Rattle.sets.specs.Tests.{Is, ◌is_in◌, all, any, keep, each, from, up_to, elem}
use Rattle.sets.specs.TestLaws.{and_in, never, test, fails, same, all-out, all_in, any_in, any_out, keep_in, keep_out, each_in, each-out, from_out, up_to_in, up_to-out, elem_out, map-out, not_in}

-- ---- counting

module _ (n : ℕ) (π : Renumbering n) where
  -- n users have n numbers
  all_new : (k m : ℕ) → k + m ≡ n → Is (unrepeated (map π.to (from k m)))
  all_new k zero e = refl
  all_new k (suc m) e =
      and_in (not_in (elem (π.to k) (map π.to (from (suc k) m))) (fails (elem (π.to k) (map π.to (from (suc k) m))) again)) (all_new (suc k) m (omega arith))
    where
      again : Is (elem (π.to k) (map π.to (from (suc k) m))) → ⊥
      again h =
          let t = map-out π.to (from (suc k) m) (elem_out (π.to k) (map π.to (from (suc k) m)) h) in
          let l = from_out (suc k) m t.1 in
          let d = π.apart k t.0 (omega arith) (omega (arith, l.1)) t.2 in
          omega (arith, l.0, d)

  -- so each number below n is somebody's
  pub somebody : (v : ℕ) → v < n → (u : ℕ) × (u < n) × (π.to u ≡ v)
  somebody v l = test (any (λ u. eqb (π.to u) v) (up_to n)) found missing
    where
      found : Is (any (λ u. eqb (π.to u) v) (up_to n)) → (u : ℕ) × (u < n) × (π.to u ≡ v)
      found h = let t = any_out (λ u. eqb (π.to u) v) (up_to n) h in (t.0, up_to-out n t.1, eqb-true (π.to t.0) v t.2)

      inside : (w : ℕ) → (w ≡ v) ⊎ (w is_in map π.to (up_to n)) → w < n
      inside w (inl e) = rw e l
      inside w (inr m) = let t = map-out π.to (up_to n) m in rw t.2 (π.low t.0 (up_to-out n t.1))

      missing : any (λ u. eqb (π.to u) v) (up_to n) ≡ false → (u : ℕ) × (u < n) × (π.to u ≡ v)
      missing h =
          let new : v is_in map π.to (up_to n) → ⊥ = λ m.
          let t = map-out π.to (up_to n) m in
          never (any_in (λ u. eqb (π.to u) v) t.1 (eq-eqb (π.to t.0) v (sym t.2))) h in
          let once : Is (unrepeated (v ∷ map π.to (up_to n))) =
          and_in (not_in (elem v (map π.to (up_to n))) (fails (elem v (map π.to (up_to n))) (λ e. new (elem_out v (map π.to (up_to n)) e)))) (all_new 0 n (omega arith)) in
          let few = few-below n (v ∷ map π.to (up_to n)) once (λ w m. inside w (Memᴰ.cases_cons m)) in
          let many = length-map (up_to n) π.to in
          let long = from-length 0 n in
          absurd (omega arith)

  -- ---- what is asked of everybody

  -- a test of somebody, and of everybody
  pub any_renumbered : (f g : ℕ → Bool) → ((u : ℕ) → u < n → g (π.to u) ≡ f u) → any g (up_to n) ≡ any f (up_to n)
  any_renumbered f g h =
      same (any g (up_to n)) (any f (up_to n))
      (λ k. let t = any_out g (up_to n) k in
      let s = somebody t.0 (up_to-out n t.1) in
      any_in f (up_to_in s.1) (sym (h s.0 s.1) ∙ ap g s.2 ∙ t.2))
      (λ k. let t = any_out f (up_to n) k in
      let l = up_to-out n t.1 in
      any_in g (up_to_in (π.low t.0 l)) (h t.0 l ∙ t.2))

  pub all_renumbered : (f g : ℕ → Bool) → ((u : ℕ) → u < n → g (π.to u) ≡ f u) → all g (up_to n) ≡ all f (up_to n)
  all_renumbered f g h =
      same (all g (up_to n)) (all f (up_to n))
      (λ k. all_in f (up_to n) (λ u m. let l = up_to-out n m in sym (h u l) ∙ all-out g k (up_to_in (π.low u l))))
      (λ k. all_in g (up_to n) (λ v m. let s = somebody v (up_to-out n m) in ap g (sym s.2) ∙ h s.0 s.1 ∙ all-out f k (up_to_in s.1)))

  module _ (Q W : ℕ → Bool) (k : (u : ℕ) → u < n → W (π.to u) ≡ Q u) where
    -- somebody of a set, under either number
    kept_new : (u : ℕ) → u is_in keep Q (up_to n) → (u < n) × (π.to u is_in keep W (up_to n))
    kept_new u m =
        let t = keep_out Q (up_to n) m in
        let l = up_to-out n t.0 in
        (l, keep_in W (up_to_in (π.low u l)) (k u l ∙ t.1))

    kept_old : (v : ℕ) → v is_in keep W (up_to n) → (u : ℕ) × (u < n) × (π.to u ≡ v) × (u is_in keep Q (up_to n))
    kept_old v m =
        let t = keep_out W (up_to n) m in
        let s = somebody v (up_to-out n t.0) in
        (s.0, s.1, s.2, keep_in Q (up_to_in s.1) (sym (k s.0 s.1) ∙ ap W s.2 ∙ t.1))

    -- a test of everybody of a set
    pub all-kept : (f g : ℕ → Bool) → ((u : ℕ) → u < n → g (π.to u) ≡ f u) → all g (keep W (up_to n)) ≡ all f (keep Q (up_to n))
    all-kept f g h =
        same (all g (keep W (up_to n))) (all f (keep Q (up_to n)))
        (λ p. all_in f (keep Q (up_to n)) (λ u m. let t = kept_new u m in sym (h u t.0) ∙ all-out g p t.1))
        (λ p. all_in g (keep W (up_to n)) (λ v m. let s = kept_old v m in ap g (sym s.2) ∙ h s.0 s.1 ∙ all-out f p s.3))

    -- what everybody of a set has, sorted
    pub sorted_kept : (f g : ℕ → List ℕ) → ((u : ℕ) → u < n → g (π.to u) ≡ f u) → sort ltb (each g (keep W (up_to n))) ≡ sort ltb (each f (keep Q (up_to n)))
    sorted_kept f g h =
        rising_ext (λ x y. numbers.apart x y) (sort-rising ltb numbers.chain (each g (keep W (up_to n)))) (sort-rising ltb numbers.chain (each f (keep Q (up_to n))))
        (λ x m. let t = each-out g (keep W (up_to n)) (sort-out ltb (each g (keep W (up_to n))) m) in
        let s = kept_old t.0 t.1 in
        let e : g t.0 ≡ f s.0 = ap g (sym s.2) ∙ h s.0 s.1 in
        sort_in ltb numbers (each_in f s.3 (rw e at t.2)))
        (λ x m. let t = each-out f (keep Q (up_to n)) (sort-out ltb (each f (keep Q (up_to n))) m) in
        let s = kept_new t.0 t.1 in
        sort_in ltb numbers (each_in g s.1 (rw (h t.0 s.0) t.2)))
