-- What is handed over is that of the definitions.
-- Assumes nothing.
use Rattle.std.specs.Prelude.{ℕ, List, [], ◌∷◌, Result, Ok, Err, ◌≤◌, ◌≡◌, refl}
use Rattle.std.proofs.Common.{sym, ap, ap₂, ◌∙◌, arith}
use Rattle.answers.specs.Numbers.{returned, stored, no_values, rules_told}
use Rattle.answers.specs.Records.{refusal, loaded_of}
use Rattle.answers.specs.declared.Loaded.{Loaded}
use Rattle.files.specs.Answer.{Refusal as Cause, number_of, Answer, told, code_of, map_answer, refused, accepted}
use Rattle.files.proofs.AnswerLaws.{From, map-refused, map-accepted, map-told, map-code}
use Rattle.files.specs.Calls.{Counts, count_values}
use Rattle.files.specs.RuleFile.{Lines}
use Rattle.files.specs.declared.refusal.Refusal.{Refusal}
use Rattle.policy.specs.Policy.{Policy}
use Rattle.role_record.specs.Record.{empty_record, record_of}
use Rattle.role_record.specs.declared.RoleFile.{RoleFile}
use Rattle.rule_reading.specs.BothFiles.{both_of}
use Rattle.rule_show.specs.Located.{Within, place_or_start}
use Rattle.rule_show.specs.declared.Place.{Place}
use Rattle.write_answer.specs.MinedNumbers.{mined_of, mined_numbers}

-- ---- numbers

-- what is told of what the code makes of an answer, where it has the values that the answer has
module _ {A B : Type 0} (f : A → B) (g : B → List ℕ) (h : A → List ℕ) (same : (a : A) → g (f a) ≡ h a) where
  same-told : (r : Answer A) → told (λ a. g (f a)) r ≡ told h r
  same-told (refused e) = refl
  same-told (accepted a) = ap (λ (values : List ℕ). 0 ∷ values) (same a)

  pub made-told : (b : Answer B) (r : Answer A) → b ≡ map_answer f r → told g b ≡ told h r
  made-told b r e = ap (told g) e ∙ map-told f g r ∙ same-told r

-- what is returned and stored for the numbers of an answer is what goes with the numbers that the call promises
pub handed-on : {ns ms : List ℕ} → ns ≡ ms → (former : List ℕ) (r : ℕ) (after : List ℕ) → (r ≡ returned ns) × (after ≡ stored ns former) → (r ≡ returned ms) × (after ≡ stored ms former)
handed-on e former r after p = (p.0 ∙ ap returned e, p.1 ∙ ap (λ (xs : List ℕ). stored xs former) e)

-- how many rules were read
pub rules-counted : (p : Policy × List Lines) → (both_of p).rules ∷ [] ≡ rules_told p
unfolding both_of
rules-counted p = refl

-- what mining tells of the rules written
pub mined-told : (c : Counts) → mined_numbers (mined_of c) ≡ count_values c
mined-told c = refl

-- an answer without values is told by its number alone
code-returned : {A : Type 0} (r : Answer A) → code_of r ≡ returned (told no_values r)
code-returned (refused e) = refl
code-returned (accepted a) = refl

pub roles-code : (b : Answer RoleFile) (r : Answer Policy) → b ≡ map_answer record_of r → code_of b ≡ returned (told no_values r)
roles-code b r e = ap code_of e ∙ map-code record_of r ∙ code-returned r

-- ---- records

pub loaded-so : (f : RoleFile) (r : Answer Policy) → accepted f ≡ map_answer record_of r → record { code = 0; file = f } ≡ loaded_of r
unfolding loaded_of
loaded-so f r h = let t = map-accepted record_of f r h in ap (λ (g : RoleFile). record { code = 0; file = g }) t.made ∙ sym (ap loaded_of t.is)

pub refused-so : (e : Cause) (r : Answer Policy) → refused e ≡ map_answer record_of r → (n : ℕ) (f : RoleFile) → n ≡ number_of e → f ≡ empty_record → record { code = n; file = f } ≡ loaded_of r
unfolding loaded_of refusal
refused-so e r h n f p q = ap₂ (λ (m : ℕ) (g : RoleFile). record { code = m; file = g }) p q ∙ sym (ap loaded_of (map-refused record_of e r h))

-- ---- the part that is handed back

-- it ends no earlier than it begins
pub in-order : (rules : List ℕ) (located : Result Place Refusal) → Within rules located → (place_or_start located).from ≤ (place_or_start located).to
in-order rules (Ok place) w = w.0
in-order rules (Err e) w = omega arith
