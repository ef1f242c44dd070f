-- What legal cuts are, and how they are told one after the other.
-- Assumes nothing.
use Rattle.std.specs.Prelude.{ℕ, suc, ◌+◌, ◌≤◌, ◌<◌, ltb, leb, length, Bool, true, ◌&&◌, List, [], ◌∷◌, ◌≡◌, refl}
use Rattle.std.proofs.Common.{ltb-true, lt-ltb, leb-true, le-leb, arith}
use mathlib.Core.List.Memᴰ
use Rattle.files.specs.Calls.{ascend, cuts_ok}
use Rattle.policy.proofs.MergeLaws.{every_cons}
use Rattle.sets.specs.Sorted.{Rising, none_left, and-then}
use Rattle.sets.specs.Tests.{Is, ◌is_in◌, all}
use Rattle.sets.specs.TestLaws.{and_in, and_l, and_r, same, all_in, all-out}

ascend-rising : (cuts : List ℕ) → Is (ascend cuts) → Rising ◌<◌ cuts
ascend-rising [] h = none_left
ascend-rising (c ∷ cuts) h =
    let above = and_l (all (ltb c) cuts) (ascend cuts) h in
    and-then (λ d m. ltb-true c d (all-out (ltb c) above m)) (ascend-rising cuts (and_r (all (ltb c) cuts) (ascend cuts) h))

-- legal cuts ascend, and each parts two roles
pub cuts_rising : (cuts : List ℕ) (roles : ℕ) → Is (cuts_ok cuts roles) → Rising ◌<◌ cuts
unfolding cuts_ok
cuts_rising cuts roles h = ascend-rising cuts (and_r (all (λ c. leb 1 c && ltb c roles) cuts) (ascend cuts) h)

pub cuts_inside : (cuts : List ℕ) (roles : ℕ) → Is (cuts_ok cuts roles) → {c : ℕ} → c is_in cuts → (1 ≤ c) × (c < roles)
unfolding cuts_ok
cuts_inside cuts roles h {c} m =
    let t = all-out (λ c. leb 1 c && ltb c roles) (and_l (all (λ c. leb 1 c && ltb c roles) cuts) (ascend cuts) h) m in
    (leb-true 1 c (and_l (leb 1 c) (ltb c roles) t), ltb-true c roles (and_r (leb 1 c) (ltb c roles) t))

-- ---- one after the other: each cut is above the one before it, and below the number of roles

abbrev pub cuts_behind : ℕ → ℕ → List ℕ → Bool
cuts_behind roles low [] = true
cuts_behind roles low (c ∷ cuts) = ltb low c && (ltb c roles && cuts_behind roles c cuts)

behind-out : (roles low : ℕ) (cuts : List ℕ) → Is (cuts_behind roles low cuts) → ((c : ℕ) → c is_in cuts → (low < c) × (c < roles)) × Is (ascend cuts)
behind-out roles low [] h = (λ c m. absurd (Memᴰ.not-nil m), refl)
behind-out roles low (d ∷ cuts) h =
    let a = ltb-true low d (and_l (ltb low d) _ h) in
    let r = and_r (ltb low d) _ h in
    let b = ltb-true d roles (and_l (ltb d roles) _ r) in
    let t = behind-out roles d cuts (and_r (ltb d roles) _ r) in (
      (λ c m. every_cons (λ c. (low < c) × (c < roles)) d cuts (a, b) (λ c m. let k = t.0 c m in (omega arith, k.1)) c m),
      and_in (all_in (ltb d) cuts (λ c m. lt-ltb d c (t.0 c m).0)) t.1,
    )

behind_in : (roles low : ℕ) (cuts : List ℕ) → ((c : ℕ) → c is_in cuts → (low < c) × (c < roles)) → Is (ascend cuts) → Is (cuts_behind roles low cuts)
behind_in roles low [] h a = refl
behind_in roles low (d ∷ cuts) h a =
    let t = h d (Memᴰ.head refl) in
    and_in (lt-ltb low d t.0)
    (and_in (lt-ltb d roles t.1)
    (behind_in roles d cuts (λ c m. (ltb-true d c (all-out (ltb d) (and_l (all (ltb d) cuts) (ascend cuts) a) m), (h c (Memᴰ.tail m)).1)) (and_r (all (ltb d) cuts) (ascend cuts) a)))

-- told so they are the legal ones
pub cuts_told : (cuts : List ℕ) (roles : ℕ) → cuts_ok cuts roles ≡ cuts_behind roles 0 cuts
unfolding cuts_ok
cuts_told cuts roles =
    same (cuts_ok cuts roles) (cuts_behind roles 0 cuts)
    (λ h. behind_in roles 0 cuts (λ c m. let t = cuts_inside cuts roles h m in (omega arith, t.1)) (ascending h))
    (λ h. legal (behind-out roles 0 cuts h))
  where
    ascending : Is (cuts_ok cuts roles) → Is (ascend cuts)
    ascending h = and_r (all (λ c. leb 1 c && ltb c roles) cuts) (ascend cuts) h

    legal : ((c : ℕ) → c is_in cuts → (0 < c) × (c < roles)) × Is (ascend cuts) → Is (cuts_ok cuts roles)
    legal t = and_in (all_in (λ c. leb 1 c && ltb c roles) cuts (λ c m. let k = t.0 c m in and_in (le-leb 1 c (omega arith)) (lt-ltb c roles k.1))) t.1
