-- What the call answers is what request 6 says.
-- Assumes nothing.
use Rattle.std.specs.Prelude.{ℕ, ◌≤◌, ◌<◌, eqb, leb, length, take, Bool, true, false, ◌&&◌, not, List, ◌≡◌, refl, Ok, Err}
use Rattle.std.proofs.Common.{leb-true, le-leb, eq-eqb, ne_eqb, sym, ap, ◌∙◌, subst}
use Rattle.std.proofs.lemmas.Bool.{lt-leb}
use Rattle.std.proofs.lemmas.List.Edits.{sets}
use Rattle.files.specs.Answer.{Refusal as Cause, Answer, code_of, unless, and_then, too_long, beyond, short_output, zero_seed, refused, accepted}
use Rattle.files.proofs.AnswerLaws.{From, map-refused, map-accepted, unless-passed}
use Rattle.files.proofs.BytesLaws.{number_positive}
use Rattle.files.specs.Cause.{cause, answer_of}
use Rattle.files.specs.Load.{load_bytes, load_answer, load_output, Readable}
use Rattle.files.proofs.LoadLaws.{load_kept, load_written, load_demand}
use Rattle.files.specs.RoleFile.{take_sizes, blank}
use Rattle.files.specs.declared.refusal.Refusal.{Refusal}
use Rattle.load_bytes.specs.StoreLaws.{stored-front}
use Rattle.policy.specs.Policy.{Policy}
use Rattle.role_admit.specs.Admit.{sizes_admitted}
use Rattle.role_admit.specs.AdmitLaws.{sizes-admitted}
use Rattle.role_record.specs.declared.Sizes.{Sizes}
use Rattle.sets.specs.TestLaws.{never, and_l, and_r, and_three}
use Rattle.sets.specs.Tests.{Is}

-- ---- tests

unless_kept : {A : Type 0} (b : Bool) (e : Cause) (r : Answer A) → Is b → unless b e r ≡ r
unless_kept true e r h = refl
unless_kept false e r h = never h refl

unless_failed : {A : Type 0} (b : Bool) (e : Cause) (r : Answer A) → b ≡ false → unless b e r ≡ refused e
unless_failed false e r h = refl
unless_failed true e r h = never refl h

-- ---- sizes

-- of sizes that are admitted nothing more is said
abbrev nothing_more : Policy → Unit {0}
nothing_more F = tt

module _ (u r o k : ℕ) where
  abbrev asked : Sizes
  asked = record { users = u; resources = r; operations = o; roles = k }

  sizes_taken : Ok tt ≡ sizes_admitted asked → From nothing_more tt (take_sizes 2 u r o k)
  sizes_taken h = map-accepted nothing_more tt (take_sizes 2 u r o k) (ap answer_of h ∙ sizes-admitted u r o k)

  sizes_out : (e : Refusal) → Err e ≡ sizes_admitted asked → take_sizes 2 u r o k ≡ refused (cause e)
  sizes_out e h = map-refused nothing_more (cause e) (take_sizes 2 u r o k) (ap answer_of h ∙ sizes-admitted u r o k)

  -- within the limits
  pub sizes_fit : Ok tt ≡ sizes_admitted asked → (u ≤ 64) × (r ≤ 64) × (o ≤ 16) × (k ≤ 32)
  unfolding take_sizes
  sizes_fit h =
      let q = (unless-passed (leb u 64 && leb r 64 && leb o 16 && leb k 32) beyond (accepted (blank u r o k)) (ap code_of (sizes_taken h).is)).0 in
      let a = and_three (leb u 64) (leb r 64) (leb o 16) (and_l (leb u 64 && leb r 64 && leb o 16) (leb k 32) q) in
      (leb-true u 64 a.0, leb-true r 64 a.1, leb-true o 16 a.2, leb-true k 32 (and_r (leb u 64 && leb r 64 && leb o 16) (leb k 32) q))

-- ---- the answer, from the tests in their order

module _ (seed u r o k : ℕ) (former : List ℕ) where
  abbrev file : List ℕ
  file = load_bytes seed u r o k

  abbrev answer : Answer ℕ
  answer = load_answer 2 seed u r o k (length former)

  -- the tests of the file
  abbrev measures : Answer ℕ
  measures = unless (leb (length file) 65535) too_long (unless (leb (length file) (length former)) short_output (accepted (length file)))

  -- what is promised of an answer and of the output
  abbrev pub Promised : Answer ℕ → List ℕ → Type 0
  Promised a out = (a ≡ answer) × (out ≡ load_output 2 seed u r o k former) × ((n : ℕ) → answer ≡ accepted n → Readable 2 u r o k (take n out))

  refusing : (e : Cause) → answer ≡ refused e → Promised (refused e) former
  refusing e h = (sym h, sym (load_kept 2 seed u r o k former e h), λ n q. absurd (number_positive e (ap code_of (sym h ∙ q))))

  pub zero_refused : seed ≡ 0 → Promised (refused zero_seed) former
  unfolding load_answer
  zero_refused h = refusing zero_seed (unless_failed (not (eqb seed 0)) zero_seed _ (ap not (eq-eqb seed 0 h)))

  module _ (s : seed ≡ 0 → ⊥) where
    seeded : answer ≡ and_then (take_sizes 2 u r o k) (λ F. measures)
    unfolding load_answer
    seeded = unless_kept (not (eqb seed 0)) zero_seed _ (ap not (ne_eqb seed 0 s))

    pub sizes-refused : (e : Refusal) → Err e ≡ sizes_admitted (asked u r o k) → Promised (refused (cause e)) former
    sizes-refused e h = refusing (cause e) (seeded ∙ ap (λ (t : Answer Policy). and_then t (λ F. measures)) (sizes_out u r o k e h))

    module _ (f : Ok tt ≡ sizes_admitted (asked u r o k)) where
      fitted : answer ≡ measures
      fitted = seeded ∙ ap (λ (t : Answer Policy). and_then t (λ F. measures)) (sizes_taken u r o k f).is

      pub length-refused : 65535 < length file → Promised (refused too_long) former
      length-refused h = refusing too_long (fitted ∙ unless_failed (leb (length file) 65535) too_long _ (lt-leb (length file) 65535 h))

      module _ (l : length file ≤ 65535) where
        measured : answer ≡ unless (leb (length file) (length former)) short_output (accepted (length file))
        measured = fitted ∙ unless_kept (leb (length file) 65535) too_long _ (le-leb (length file) 65535 l)

        pub output-refused : length former < length file → Promised (refused short_output) former
        output-refused h = refusing short_output (measured ∙ unless_failed (leb (length file) (length former)) short_output _ (lt-leb (length file) (length former) h))

        pub file-written : (out : List ℕ) (n : ℕ) → length file ≤ length former → out ≡ sets former 0 file → n ≡ length file → Promised (accepted n) out
        file-written out n h e m =
            let q = measured ∙ unless_kept (leb (length file) (length former)) short_output (accepted (length file)) (le-leb (length file) (length former) h) in
            let w = load_written 2 seed u r o k former (length file) q in
            let z : out ≡ load_output 2 seed u r o k former = e ∙ stored-front file former h ∙ sym w.2 in
            (ap accepted m ∙ sym q, z, λ i g. subst (λ (o' : List ℕ). Readable 2 u r o k (take i o')) (sym z) (load_demand 2 seed u r o k former i g))
