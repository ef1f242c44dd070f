-- The number that an answer without values returns, and what a refusal leaves.
-- Assumes nothing.
use Rattle.std.specs.Prelude.{ℕ, List, Bool, true, false, cond, ◌≡◌, refl}
use Rattle.std.proofs.Common.{ap, sym}
use Rattle.std.proofs.lemmas.Bool.{true≢false}
use Rattle.files.specs.Answer.{Refusal, number_of, Answer, told, unless, and_then, code_of, left_by, map_answer, refused, accepted}
use Rattle.files.proofs.BytesLaws.{number_positive}

pub unless-code : {A : Type 0} (b : Bool) (e : Refusal) (r : Answer A) → code_of (unless b e r) ≡ cond b (code_of r) (number_of e)
unless-code true e r = refl
unless-code false e r = refl

-- 0 says that the test is passed
pub unless-passed : {A : Type 0} (b : Bool) (e : Refusal) (r : Answer A) → code_of (unless b e r) ≡ 0 → (b ≡ true) × (code_of r ≡ 0)
unless-passed true e r h = (refl, h)
unless-passed false e r h = absurd (number_positive e h)

-- another number says that all is as it was
pub code-kept : {A : Type 0} (former : A) (r : Answer A) → (code_of r ≡ 0 → ⊥) → left_by former r ≡ former
code-kept former (refused e) h = refl
code-kept former (accepted a) h = absurd (h refl)

-- ---- answers of which something is made

-- which answer it is
abbrev is_accepted : {A : Type 0} → Answer A → Bool
is_accepted (refused e) = false
is_accepted (accepted a) = true

abbrev cause_or : {A : Type 0} → Refusal → Answer A → Refusal
cause_or d (refused e) = e
cause_or d (accepted a) = d

abbrev value_or : {A : Type 0} → A → Answer A → A
value_or d (refused e) = d
value_or d (accepted a) = a

module _ {A B : Type 0} (f : A → B) where
  -- a refusal is the same one
  pub map-refused : (e : Refusal) (r : Answer A) → refused e ≡ map_answer f r → r ≡ refused e
  map-refused e (refused d) h = ap refused (ap (cause_or e) (sym h))
  map-refused e (accepted a) h = absurd (true≢false (ap is_accepted (sym h)))

  -- what is made of an answer that was accepted is made of what it is
  pub record From (b : B) (r : Answer A) : Type 0 where
    pub value : A
    pub is : r ≡ accepted value
    pub made : b ≡ f value

  pub map-accepted : (b : B) (r : Answer A) → accepted b ≡ map_answer f r → From b r
  map-accepted b (refused d) h = absurd (true≢false (ap is_accepted h))
  map-accepted b (accepted a) h = record { value = a; is = refl; made = ap (value_or b) h }

  pub map-told : (g : B → List ℕ) (r : Answer A) → told g (map_answer f r) ≡ told (λ a. g (f a)) r
  map-told g (refused e) = refl
  map-told g (accepted a) = refl

  pub map-code : (r : Answer A) → code_of (map_answer f r) ≡ code_of r
  map-code (refused e) = refl
  map-code (accepted a) = refl

  pub map-then : {C : Type 0} (g : B → Answer C) (r : Answer A) → and_then (map_answer f r) g ≡ and_then r (λ a. g (f a))
  map-then g (refused e) = refl
  map-then g (accepted a) = refl
