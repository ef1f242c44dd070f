-- What the tests of a rule's summary come to is what its lines say.
-- Assumes nothing.
use Rattle.std.specs.Prelude.{ℕ, ltb, length, Bool, true, false, ◌&&◌, List, [], ◌∷◌, ◌≡◌, refl}
use Rattle.std.proofs.Math.Bool.{and-true}
use mathlib.Core.List.Memᴰ
use Rattle.std.proofs.Common.{ap₂, ◌∙◌}
use Rattle.files.specs.RuleFile.{Lines, values_in, conjuncts_in}
use Rattle.policy.specs.Rules.{Which, by, Setting, meets, attrs_of, holds, conjunct}
use Rattle.sets.specs.ListLaws.{all_append}
use Rattle.sets.specs.Tests.{imp, ◌is_in◌, all, each, only}

all-only : {A : Type 0} (f : A → Bool) (b : Bool) (x : A) → all f (only b x) ≡ imp b (f x)
all-only f true x = and-true (f x)
all-only f false x = refl

all-each : {A : Type 0} (f : A → Bool) (g : ℕ → List A) (h : ℕ → Bool) (l : List ℕ) → ((a : ℕ) → a is_in l → all f (g a) ≡ h a) → all f (each g l) ≡ all h l
all-each f g h [] e = refl
all-each f g h (x ∷ xs) e = all_append f (g x) (each g xs) ∙ ap₂ ◌&&◌ (e x (Memᴰ.head refl)) (all-each f g h xs (λ a m. e a (Memᴰ.tail m)))

module _ (P : Setting) (ls : Lines) where
  -- somebody meets every conjunct of a side
  pub side-met : (w : Which) (u r : ℕ) → all (λ c. holds P c u r) (conjuncts_in P ls w) ≡ all (λ a. imp (ltb 0 (length (values_in P ls w a))) (meets (P.side w) a (values_in P ls w a) (by w u r))) (attrs_of (P.side w) true)
  unfolding conjuncts_in holds
  side-met w u r =
      all-each (λ c. holds P c u r) (λ a. only (ltb 0 (length (values_in P ls w a))) (conjunct w a (values_in P ls w a))) (λ a. imp (ltb 0 (length (values_in P ls w a))) (meets (P.side w) a (values_in P ls w a) (by w u r))) (attrs_of (P.side w) true)
      (λ a m. all-only (λ c. holds P c u r) (ltb 0 (length (values_in P ls w a))) (conjunct w a (values_in P ls w a)))
