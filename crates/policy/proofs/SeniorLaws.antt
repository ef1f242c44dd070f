-- Seniors: all roles reached by one or more steps. The test goes through one role more at a time (Warshall).
-- Assumes nothing.
use Rattle.std.specs.Prelude.{ℕ, zero, suc, ◌<◌, eqb, Bool, ◌&&◌, ◌||◌, ◌⊎◌, ◌≡◌}
use Rattle.std.proofs.Common.{eqb-true, inl, inr, arith}
use Rattle.std.proofs.lemmas.Bool.{eqb-false}
use Rattle.policy.specs.Policy.{Senior, reach, one, more}
use Rattle.sets.specs.Tests.{Is}
use Rattle.sets.specs.TestLaws.{and_in, and_l, and_r, or_l, or_r, or_out, test}

module _ (line : ℕ → ℕ → Bool) where
  join : {i j k : ℕ} → Senior line i k → Senior line k j → Senior line i j
  join (one s) q = more s q
  join (more s p) q = more s (join p q)

  pub reach-out : (n i j : ℕ) → Is (reach line n i j) → Senior line i j
  reach-out zero i j h = one h
  reach-out (suc n) i j h = go (reach-out n) (or_out (reach line n i j) (reach line n i n && reach line n n j) h)
    where
      go : ((i j : ℕ) → Is (reach line n i j) → Senior line i j) → Is (reach line n i j) ⊎ Is (reach line n i n && reach line n n j) → Senior line i j
      go r (inl p) = r i j p
      go r (inr p) = join (r i n (and_l (reach line n i n) (reach line n n j) p)) (r n j (and_r (reach line n i n) (reach line n n j) p))

  pub reach-more : (n i j : ℕ) → Is (line i j) → Is (reach line n i j)
  reach-more zero i j h = h
  reach-more (suc n) i j h = or_l (reach line n i n && reach line n n j) (reach-more n i j h)

  pub reach-join : (n i m j : ℕ) → m < n → Is (reach line n i m) → Is (reach line n m j) → Is (reach line n i j)
  reach-join zero i m j l p q = absurd (omega arith)
  reach-join (suc n) i m j l p q = test (eqb m n) (λ e. at_top (eqb-true m n e)) (λ e. below (let d = eqb-false m n e in omega arith) (reach-join n) (or_out (reach line n i m) _ p) (or_out (reach line n m j) _ q))
    where
      via : Is (reach line n i n) → Is (reach line n n j) → Is (reach line n i j || (reach line n i n && reach line n n j))
      via a b = or_r (reach line n i j) (and_in a b)

      to_top : Is (reach line n i n) ⊎ Is (reach line n i n && reach line n n n) → Is (reach line n i n)
      to_top (inl a) = a
      to_top (inr a) = and_l (reach line n i n) (reach line n n n) a

      from_top : Is (reach line n n j) ⊎ Is (reach line n n n && reach line n n j) → Is (reach line n n j)
      from_top (inl a) = a
      from_top (inr a) = and_r (reach line n n n) (reach line n n j) a

      at_top : m ≡ n → Is (reach line n i j || (reach line n i n && reach line n n j))
      at_top e = via (to_top (or_out (reach line n i n) _ (rw e at p))) (from_top (or_out (reach line n n j) _ (rw e at q)))

      below : m < n → ((i m j : ℕ) → m < n → Is (reach line n i m) → Is (reach line n m j) → Is (reach line n i j))
          → Is (reach line n i m) ⊎ Is (reach line n i n && reach line n n m) → Is (reach line n m j) ⊎ Is (reach line n m n && reach line n n j) → Is (reach line n i j || (reach line n i n && reach line n n j))
      below l r (inl a) (inl b) = or_l _ (r i m j l a b)
      below l r (inl a) (inr b) = via (r i m n l a (and_l (reach line n m n) (reach line n n j) b)) (and_r (reach line n m n) (reach line n n j) b)
      below l r (inr a) (inl b) = via (and_l (reach line n i n) (reach line n n m) a) (r n m j l (and_r (reach line n i n) (reach line n n m) a) b)
      below l r (inr a) (inr b) = via (and_l (reach line n i n) (reach line n n m) a) (and_r (reach line n m n) (reach line n n j) b)

  -- with all roles below n, every senior is reached
  pub reach_in : (n : ℕ) → ((i j : ℕ) → Is (line i j) → j < n) → {i j : ℕ} → Senior line i j → Is (reach line n i j)
  reach_in n b (one {i = i} {j = j} s) = reach-more n i j s
  reach_in n b (more {i = i} {j = j} {k = k} s p) = reach-join n i k j (b i k s) (reach-more n i k s) (reach_in n b p)
