-- Tests on lists and below a bound. A test is a Bool, and "it passes" is `b ≡ true`.
-- Assumes nothing.
use Rattle.std.specs.Prelude.{ℕ, zero, suc, ◌+◌, eqb, Bool, true, false, cond, ◌&&◌, ◌||◌, not, ◌≡◌}
use mathlib.Core.List.{List, [], ◌∷◌, ◌++◌, Memᴰ}
use Rattle.std.proofs.Math.Option.{Option, none, some}

-- ---- Bool

abbrev pub Is : Bool → Type 0
Is b = b ≡ true

-- the first test implies the second
abbrev pub imp : Bool → Bool → Bool
imp true b = b
imp false b = true

abbrev pub iff : Bool → Bool → Bool
iff true b = b
iff false b = not b

-- ---- lists

-- a member of a list. The library writes this List.Memᴰ, and its own isIn for something else
abbrev pub ◌is_in◌ {ℓ} : {A : Type ℓ} → A → List A → Type ℓ
a is_in l = Memᴰ a l

infix 50 ◌is_in◌
module _ {ℓ} {A : Type ℓ} where
  abbrev pub all : (A → Bool) → List A → Bool
  all f [] = true
  all f (x ∷ xs) = f x && all f xs

  abbrev pub any : (A → Bool) → List A → Bool
  any f [] = false
  any f (x ∷ xs) = f x || any f xs

  -- the members that pass
  abbrev pub keep : (A → Bool) → List A → List A
  keep f [] = []
  keep f (x ∷ xs) = cond (f x) (x ∷ keep f xs) (keep f xs)

-- a list for each member, one after the other
module _ {ℓ κ} {A : Type ℓ} {B : Type κ} where
  abbrev pub each : (A → List B) → List A → List B
  each f [] = []
  each f (x ∷ xs) = f x ++ each f xs

-- one value where a test passes, and none where it fails
abbrev pub only {ℓ} : {A : Type ℓ} → Bool → A → List A
only true a = a ∷ []
only false a = []

-- ---- below a bound: the numbers from k on, n of them
abbrev pub from : ℕ → ℕ → List ℕ
from k zero = []
from k (suc n) = k ∷ from (suc k) n

abbrev pub up_to : ℕ → List ℕ
up_to n = from 0 n

-- a number stands in a list
abbrev pub elem : ℕ → List ℕ → Bool
elem a l = any (eqb a) l

-- the list without its member number i
abbrev pub without {ℓ} : {A : Type ℓ} → ℕ → List A → List A
without i [] = []
without zero (x ∷ xs) = xs
without (suc i) (x ∷ xs) = x ∷ without i xs

-- a value is there
abbrev pub is_some {ℓ} : {A : Type ℓ} → Option A → Bool
is_some none = false
is_some (some x) = true

-- what all members come to
abbrev pub sum {ℓ} : {A : Type ℓ} → (A → ℕ) → List A → ℕ
sum f [] = 0
sum f (x ∷ xs) = f x + sum f xs
