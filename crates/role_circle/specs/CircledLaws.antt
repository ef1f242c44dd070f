-- What the call answers is what request 3 says.
-- Assumes nothing.
use Rattle.std.specs.Prelude.{ℕ, zero, suc, ◌+◌, ◌≤◌, ◌<◌, leb, length, take, drop, Bool, cond, ◌≡◌}
use Rattle.std.proofs.Common.{le-leb, sym, ap₂, ◌∙◌, arith}
use Rattle.std.proofs.lemmas.Bool.{lt-leb}
use mathlib.Core.List.{List, [], ◌++◌}
use Rattle.std.proofs.Math.Path.{refl, ap, subst, fun_ext}
use Rattle.std.proofs.Math.Decide.{dec_lt}
use Rattle.files.specs.Answer.{Refusal as Cause, Answer, unless, own_senior, short_output, refused, accepted, map_answer}
use Rattle.files.proofs.AnswerLaws.{map-refused, map-accepted}
use Rattle.files.proofs.BytesLaws.{Bytes, carried}
use Rattle.files.specs.Calls.{circle_answer, circle_output}
use Rattle.files.proofs.CircleCallLaws.{circle_accepted, circle_otherwise, circle_seven, circle_kept, circle_written, circle_demand}
use Rattle.files.specs.Cause.{cause}
use Rattle.files.specs.RoleFile.{read_roles, read_commands}
use Rattle.files.specs.declared.refusal.Refusal.{Refusal}
use Rattle.files.specs.declared.refusal.Refusal.TheVariants.{TooLong, CutOff, UnknownCommand, OutOfPlace, Beyond, WrongKind, OwnSenior, SmallScratch, ShortOutput, RulesCutOff, RulesUnknown, RulesOrder, RulesOperand, NoSuchRule, ZeroSeed, WrongShape, WrongTable, WrongLevel, WrongWindow, RaggedLog, BadCuts}
use Rattle.files.proofs.SoundLaws.{Sound, commands_sound}
use Rattle.policy.specs.Circles.{closes, circle_in, circle_of, Circle}
use Rattle.policy.specs.CircleSearch.{leads_back, circle_at, way_back}
use Rattle.policy.specs.Policy.{Policy}
use Rattle.role_circles.specs.BackWords.{line_in, IsShortest}
use Rattle.role_lines.specs.Collecting.{Collected}
use Rattle.role_record.specs.Record.{line_table, record_of}
use Rattle.role_record.specs.RecordLaws.{table-bits}
use Rattle.role_record.specs.declared.RoleFile.{RoleFile}
use Rattle.sets.specs.Tests.{Is, ◌is_in◌}

-- ---- what is promised

-- of the answer and the memory, from the file and what the memory held
abbrev pub Promised : List ℕ → List ℕ → Answer ℕ → List ℕ → Type 0
Promised file former r out =
    (r ≡ map_answer length (circle_answer 2 file (length former)))
    × (out ≡ circle_output 2 file former)
    × ((list : List ℕ) → circle_answer 2 file (length former) ≡ accepted list
    → (F : Policy) × (read_commands 2 file ≡ accepted F) × Circle F (take (length list) out) × ((l : List ℕ) → Is (closes F.line l) → (k : ℕ) → k is_in l → k < F.roles))

promised : (file former : List ℕ) → Bytes file → (r : Answer ℕ) (out : List ℕ) → r ≡ map_answer length (circle_answer 2 file (length former)) → out ≡ circle_output 2 file former → Promised file former r out
promised file former b r out p q = (
  p,
  q,
  λ list h.
      let d = circle_demand 2 file b former list h in
      (d.0, d.1, subst (λ (m : List ℕ). Circle d.0 (take (length list) m)) (sym q) d.2, d.3),
)

refusing : (file former : List ℕ) → Bytes file → (e : Cause) → circle_answer 2 file (length former) ≡ refused e → Promised file former (refused e) former
refusing file former b e h = promised file former b (refused e) former (sym (ap (map_answer length) h)) (sym (circle_kept 2 file former e h))

listing : (file former list out : List ℕ) (n : ℕ) → Bytes file → circle_answer 2 file (length former) ≡ accepted list → n ≡ length list → out ≡ list ++ drop (length list) former → Promised file former (accepted n) out
listing file former list out n b h e q = promised file former b (accepted n) out (ap accepted e ∙ sym (ap (map_answer length) h)) (q ∙ sym (circle_written 2 file former list h))

-- ---- from what reading gave

-- 7 has one name in code
own-senior_only : (e : Refusal) → cause e ≡ own_senior → e ≡ OwnSenior
own-senior_only TooLong h = cc
own-senior_only CutOff h = cc
own-senior_only UnknownCommand h = cc
own-senior_only OutOfPlace h = cc
own-senior_only Beyond h = cc
own-senior_only WrongKind h = cc
own-senior_only OwnSenior h = refl
own-senior_only SmallScratch h = cc
own-senior_only ShortOutput h = cc
own-senior_only RulesCutOff h = cc
own-senior_only RulesUnknown h = cc
own-senior_only RulesOrder h = cc
own-senior_only RulesOperand h = cc
own-senior_only NoSuchRule h = cc
own-senior_only ZeroSeed h = cc
own-senior_only WrongShape h = cc
own-senior_only WrongTable h = cc
own-senior_only WrongLevel h = cc
own-senior_only WrongWindow h = cc
own-senior_only RaggedLog h = cc
own-senior_only BadCuts h = cc

module _ (file former : List ℕ) (b : Bytes file) where
  -- the file is accepted
  pub circle_none : (f : RoleFile) → accepted f ≡ map_answer record_of (read_roles 2 file) → Promised file former (accepted 0) former
  circle_none f h =
      let t = map-accepted record_of f (read_roles 2 file) h in
      listing file former [] former 0 b (circle_accepted 2 file (length former) t.value t.is) refl refl

  -- it is refused otherwise
  pub circle_other : (e : Refusal) → refused (cause e) ≡ map_answer record_of (read_roles 2 file) → (e ≡ OwnSenior → ⊥) → Promised file former (refused (cause e)) former
  circle_other e h n = refusing file former b (cause e) (circle_otherwise 2 file (length former) (cause e) (map-refused record_of (cause e) (read_roles 2 file) h) (λ q. n (own-senior_only e q)))

-- ---- a file whose one fault is 7

-- the lines of the table are the policy's
lines_same : (F : Policy) → ((i j : ℕ) → Is (F.line i j) → (i < F.roles) × (j < F.roles)) → F.roles ≤ 32 → line_in (line_table F) ≡ F.line
unfolding line_table
lines_same F h few = sym (fun_ext (λ i. fun_ext (λ j. table-bits 32 F.line (λ i j p. let q = h i j p in (omega (arith, q), omega (arith, q))) i j)))

-- the number of roles and the lines that were collected are those of a policy with a circle
pub record Faulty (file lines : List ℕ) (k : ℕ) : Type 0 where
  pub few : k ≤ 32
  pub some : 0 < length (circle_in (line_in lines) k)
  pub answer : (room : ℕ) → circle_answer 2 file room ≡ unless (leb (length (circle_in (line_in lines) k)) room) short_output (accepted (circle_in (line_in lines) k))

pub faulty : (file : List ℕ) → Bytes file → refused own_senior ≡ map_answer record_of (read_roles 2 file) → (lines : List ℕ) (k : ℕ) → Collected file k lines → Faulty file lines k
unfolding circle_of
faulty file b h lines k c =
    let s = circle_seven 2 file (map-refused record_of own_senior (read_roles 2 file) h) in
    let F = s.0 in
    let S = carried (Sound 2) (read_commands 2 file) (commands_sound 2 file b) s.1 in
    let t = c F s.1 in
    let same : circle_of F ≡ circle_in (line_in lines) k =
    ap (λ (x : Bool). cond x (circle_in F.line F.roles) []) s.2
    ∙ ap₂ circle_in (sym (lines_same F S.lines S.few) ∙ sym (ap line_in t.1)) (sym t.0)
    in
    record {
      few = let f = S.few in let n = t.0 in omega arith;
      some = subst (λ (x : List ℕ). 0 < length x) same s.3;
      answer = λ room. s.4 room ∙ ap (λ (x : List ℕ). unless (leb (length x) room) short_output (accepted x)) same;
    }

way_length : (line : ℕ → ℕ → Bool) (k a m x : ℕ) → length (way_back line k a m x) ≡ m
way_length line k a zero x = refl
way_length line k a (suc m) x = ap suc (way_length line k a m _)

module _ (file lines : List ℕ) (k low more : ℕ) (t : Faulty file lines k) (s : IsShortest lines k low more) where
  -- the search finds a circle
  pub circle_more : more < k
  circle_more = elim (dec_lt more k) [ yes h ↦ h | no h ↦ let z = ap length (s.none (omega arith)) in let p = t.some in absurd (omega arith) ]

  circle_size : length (circle_in (line_in lines) k) ≡ suc more
  circle_size = ap length (s.found circle_more) ∙ ap suc (way_length (line_in lines) k low more low)

  pub circle_low : low < k
  circle_low = s.lowest circle_more

  pub circle_leads : Is (leads_back (line_in lines) k low more low)
  circle_leads = s.leads circle_more

  -- 9, or the list
  pub circle_lacks : (former : List ℕ) → Bytes file → length former ≤ more → Promised file former (refused short_output) former
  circle_lacks former b h =
      let z = circle_size in
      refusing file former b short_output (t.answer (length former) ∙ ap (λ (x : Bool). unless x short_output (accepted (circle_in (line_in lines) k))) (lt-leb (length (circle_in (line_in lines) k)) (length former) (omega arith)))

  pub circle_fits : (former out : List ℕ) → Bytes file → more < length former → out ≡ circle_at (line_in lines) k low more ++ drop (suc more) former → Promised file former (accepted (more + 1)) out
  circle_fits former out b h q =
      let z = circle_size in
      let n : more + 1 ≡ length (circle_in (line_in lines) k) = omega arith in
      listing file former (circle_in (line_in lines) k) out (more + 1) b
      (t.answer (length former) ∙ ap (λ (x : Bool). unless x short_output (accepted (circle_in (line_in lines) k))) (le-leb (length (circle_in (line_in lines) k)) (length former) (omega arith)))
      n (q ∙ ap₂ (λ (c : List ℕ) (n : ℕ). c ++ drop n former) (sym (s.found circle_more)) (sym z))
