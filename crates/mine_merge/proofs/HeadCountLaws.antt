-- How many heads there are: a join leaves fewer.
-- Assumes nothing.
use Rattle.std.specs.Prelude.{ℕ, ◌≤◌, ◌<◌, suc, eqb, length, Bool, true, false, cond, ◌&&◌, not, List, [], ◌∷◌, ◌⊎◌, ◌≡◌, refl}
use Rattle.std.proofs.Common.{eq-eqb, inl, inr, sym, ap, ◌∙◌, arith}
use Rattle.std.proofs.Math.Bool.{and-false}
use mathlib.Core.List.Memᴰ
use Rattle.mine_merge.specs.Steps.{head_count}
use Rattle.mine_join.specs.JoinedLaws.{joined-head}
use Rattle.mine_join.specs.Joins.{Joined}
use Rattle.mine_parts.specs.Layout.{most_parts, is_head_at}
use Rattle.sets.specs.ListLaws.{keep-most, from-length}
use Rattle.sets.specs.TestLaws.{never, and_l, up_to_in}
use Rattle.sets.specs.Tests.{Is, keep, up_to, ◌is_in◌}

-- fewer pass a test that implies another, and that one of them fails
keep-within : (f g : ℕ → Bool) (l : List ℕ) → ((k : ℕ) → k is_in l → Is (g k) → Is (f k)) → length (keep g l) ≤ length (keep f l)
keep-within f g [] h = omega arith
keep-within f g (x ∷ xs) h = go (f x) (g x) (h x (Memᴰ.head refl)) (keep-within f g xs (λ k m. h k (Memᴰ.tail m)))
  where
    go : (p q : Bool) → (Is q → Is p) → length (keep g xs) ≤ length (keep f xs) → length (cond q (x ∷ keep g xs) (keep g xs)) ≤ length (cond p (x ∷ keep f xs) (keep f xs))
    go true true i r = omega arith
    go true false i r = omega arith
    go false true i r = never (i refl) refl
    go false false i r = r

keep-fewer : (f g : ℕ → Bool) (l : List ℕ) (j : ℕ) → j is_in l → ((k : ℕ) → k is_in l → Is (g k) → Is (f k)) → Is (f j) → g j ≡ false → suc (length (keep g l)) ≤ length (keep f l)
keep-fewer f g [] j m h p q = absurd (Memᴰ.not-nil m)
keep-fewer f g (x ∷ xs) j m h p q = here (Memᴰ.cases_cons m) (λ k. keep-fewer f g xs j k (λ k m. h k (Memᴰ.tail m)) p q)
  where
    go : (a b : Bool) → (Is b → Is a) → suc (length (keep g xs)) ≤ length (keep f xs) → suc (length (cond b (x ∷ keep g xs) (keep g xs))) ≤ length (cond a (x ∷ keep f xs) (keep f xs))
    go true true i r = omega arith
    go true false i r = omega arith
    go false true i r = never (i refl) refl
    go false false i r = r

    here : (j ≡ x) ⊎ (j is_in xs) → (j is_in xs → suc (length (keep g xs)) ≤ length (keep f xs)) → suc (length (cond (g x) (x ∷ keep g xs) (keep g xs))) ≤ length (cond (f x) (x ∷ keep f xs) (keep f xs))
    here (inl e) r = let most = keep-within f g xs (λ k m. h k (Memᴰ.tail m)) in rw (← e, p, q) (omega arith)
    here (inr k) r = go (f x) (g x) (h x (Memᴰ.head refl)) (r k)

-- at most as many as there may be parts
among-most : (f : ℕ → Bool) (n : ℕ) → length (keep f (up_to n)) ≤ n
among-most f n = let m = keep-most f (up_to n) in let e = from-length 0 n in omega (arith, m, e)

pub heads-most : (t : List ℕ) → head_count t ≤ most_parts
unfolding head_count
heads-most t = among-most (is_head_at t) most_parts

-- a join leaves fewer heads
pub heads-fewer : {t u : List ℕ} {i j level : ℕ} → i < j → Joined t u i j level → Is (is_head_at t i) → j < most_parts → Is (is_head_at t j) → suc (head_count u) ≤ head_count t
unfolding head_count
heads-fewer {t} {u} {i} {j} order J a l b =
    keep-fewer (is_head_at t) (is_head_at u) (up_to most_parts) j (up_to_in l)
    (λ k m p. and_l (is_head_at t k) (not (eqb k j)) (sym (joined-head order J a k) ∙ p)) b
    (joined-head order J a j ∙ ap (λ (b : Bool). is_head_at t j && not b) (eq-eqb j j refl) ∙ and-false (is_head_at t j))
