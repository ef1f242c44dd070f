-- What holds of the call that shows a circle: which refusals it has, what its list is, and what the memory holds. 02, request 3, "Show
-- the circle".
-- Assumes nothing.
use Rattle.std.specs.Prelude.{ℕ, suc, ◌*◌, ◌≤◌, ◌<◌, eqb, take, Bool, ◌&&◌, ◌⊎◌, ◌↔◌, ◌≡◌}
use Rattle.std.proofs.Common.{le-leb, leb-true, leb-false, length-drop, length-append, inl, inr, sym, ◌∙◌, subst, arith}
use Rattle.std.proofs.Math.Dec.{ltb, leb}
use Rattle.std.proofs.Math.ListN.{length, drop}
use Rattle.std.proofs.Math.Seq.{take-append_seam, drop-append_seam}
use Rattle.std.proofs.Math.Bool.{true, false, not}
use Rattle.std.proofs.lemmas.Bool.{false≢true}
use mathlib.Core.List.{List, [], ◌++◌}
use Rattle.std.proofs.Math.Path.{refl, ap}
use Rattle.files.specs.Answer.{Refusal, number_of, Answer, unless, and_then, too_long, out_of_place, beyond, wrong_kind, own_senior, short_output, refused, accepted}
use Rattle.files.specs.Bytes.{read}
use Rattle.files.proofs.BytesLaws.{Bytes, carried, Refuses, unless-refuses, then_refuses, refused-by, read-refuses}
use Rattle.files.specs.Calls.{circle_answer, circle_output}
use Rattle.files.specs.RoleFile.{RoleCommand, Phase, Loading, blank, side_by, with_kind, with_value, with_assigned, with_permitted, with_line, is_nothing, is_declaring, enter, take_kind, take_value, take_assignment, take_permission, take_line, fresh, settle, take_sizes, obey_role, role_format, read_roles, read_commands, sizes, declare, give, assign, permit, line, end, declaring, telling}
use Rattle.files.proofs.SoundLaws.{Sound, commands_sound}
use Rattle.policy.specs.Circles.{closes, circle_of, Circle}
use Rattle.policy.proofs.CircleLaws.{Below, circle-of, circle_none, circle_some, walk_declared}
use Rattle.policy.specs.Policy.{Policy, kind_of, circular}
use Rattle.policy.specs.Rules.{user, resource}
use Rattle.sets.specs.Tests.{Is, iff, ◌is_in◌, is_some}
use Rattle.sets.specs.TestLaws.{test}

-- ---- answers

abbrev is_accepted : {A : Type 0} → Answer A → Bool
is_accepted (refused e) = false
is_accepted (accepted a) = true

refused_not : {A : Type 0} {e : Refusal} {a : A} → ◌≡◌ {A = Answer A} (refused e) (accepted a) → ⊥
refused_not h = false≢true (ap is_accepted h)

refusal-same : {A : Type 0} {d e : Refusal} → ◌≡◌ {A = Answer A} (refused d) (refused e) → d ≡ e
refusal-same h = cc

-- ---- the last test of reading, and of the call

abbrev settled : Policy → Answer Policy
settled F = unless (not (circular F)) own_senior (accepted F)

abbrev Settled : Policy → Type 0
Settled F = ((settled F ≡ accepted F) × (circular F ≡ false)) ⊎ ((settled F ≡ refused own_senior) × Is (circular F))

settled_cases : (F : Policy) → Settled F
settled_cases F = test (circular F) (λ h. inr (rw h refl, h)) (λ h. inl (rw h refl, h))

abbrev listed : ℕ → List ℕ → Answer (List ℕ)
listed room c = unless (leb (length c) room) short_output (accepted c)

abbrev Fits : ℕ → List ℕ → Type 0
Fits room c = ((listed room c ≡ accepted c) × (length c ≤ room)) ⊎ ((listed room c ≡ refused short_output) × (room < length c))

listed_cases : (room : ℕ) (c : List ℕ) → Fits room c
listed_cases room c = test (leb (length c) room) (λ h. inl (rw h refl, leb-true (length c) room h)) (λ h. inr (rw h refl, leb-false (length c) room h))

-- ---- a list at the front of memory

pub record Written (former after list : List ℕ) : Type 0 where
  pub as_long : length after ≡ length former
  pub front : take (length list) after ≡ list
  pub behind : drop (length list) after ≡ drop (length list) former

-- ---- commands are refused by 1 to 6

abbrev Early : Refusal → Type 0
Early e = number_of e ≤ 6

enter_early : (place : Bool) (phase : Phase) (r : Answer Policy) → Refuses Early r → Refuses Early (enter place phase r)
enter_early place phase r h = unless-refuses Early place out_of_place (and_then r (λ F. accepted (record { phase = phase; policy = F }))) (omega arith) (then_refuses Early r (λ F. accepted (record { phase = phase; policy = F })) h (λ F. tt))

-- one test, and then what is accepted
tested_early : (b : Bool) (F : Policy) → Refuses Early (unless b beyond (accepted F))
tested_early b F = unless-refuses Early b beyond (accepted F) (omega arith) tt

module _ (W : ℕ) where
  obey_early : (s : Loading) (c : RoleCommand) → Refuses Early (obey_role W s c)
  unfolding obey_role take_sizes take_kind take_value take_assignment take_permission take_line
  obey_early s (sizes u r o k) = enter_early (is_nothing s.phase) declaring (take_sizes W u r o k) (tested_early (leb u 64 && leb r 64 && leb o (8 * W) && leb k 32) (blank u r o k))
  obey_early s (declare side kind domain) =
      let F = s.policy in
      enter_early (is_declaring s.phase) declaring (take_kind F side kind domain)
      (tested_early (ltb side 2 && ltb kind 2 && ltb (length (F.table (side_by side)).kinds) 6) (with_kind F (side_by side) (eqb kind 1) domain))
  obey_early s (give set side a x v) =
      let F = s.policy in
      let t = F.table (side_by side) in
      let r = accepted (with_value F (side_by side) a x v) in
      enter_early (not (is_nothing s.phase)) telling (take_value F set side a x v)
      (unless-refuses Early (ltb side 2 && ltb a (length t.kinds) && ltb x t.count) beyond (unless (iff (kind_of t a) set && not (is_some (t.value a x))) wrong_kind r) (omega arith)
      (unless-refuses Early (iff (kind_of t a) set && not (is_some (t.value a x))) wrong_kind r (omega arith) tt))
  obey_early s (assign k u) =
      let F = s.policy in
      enter_early (not (is_nothing s.phase)) telling (take_assignment F k u) (tested_early (ltb k F.roles && ltb u (F.table user).count) (with_assigned F k u))
  obey_early s (permit k r o) =
      let F = s.policy in
      enter_early (not (is_nothing s.phase)) telling (take_permission F k r o) (tested_early (ltb k F.roles && ltb r (F.table resource).count && ltb o F.operations) (with_permitted F k r o))
  obey_early s (line j k) =
      let F = s.policy in
      enter_early (not (is_nothing s.phase)) telling (take_line F j k) (tested_early (ltb j F.roles && ltb k F.roles) (with_line F j k))
  obey_early s end = enter_early (not (is_nothing s.phase)) telling (accepted s.policy) tt

  -- and so is a file of which a command is refused
  commands_early : (file : List ℕ) → Refuses Early (read_commands W file)
  unfolding read_commands role_format
  commands_early file =
      unless-refuses Early (leb (length file) 65535) too_long (and_then (read (role_format W) fresh file) (λ s. accepted s.policy)) (omega arith)
      (then_refuses Early (read (role_format W) fresh file) (λ s. accepted s.policy) (read-refuses (role_format W) Early (omega arith) (omega arith) (omega arith) obey_early (suc (length file)) false fresh file) (λ s. tt))

  -- reading is its commands, and then 7
  pub reading-settled : (file : List ℕ) → read_roles W file ≡ and_then (read_commands W file) (λ F. unless (not (circular F)) own_senior (accepted F))
  unfolding read_roles read_commands
  reading-settled file = go (leb (length file) 65535) (read (role_format W) fresh file)
    where
      go : (b : Bool) (r : Answer Loading) → unless b too_long (and_then r settle) ≡ and_then (unless b too_long (and_then r (λ s. accepted s.policy))) (λ F. unless (not (circular F)) own_senior (accepted F))
      go true (refused e) = refl
      go true (accepted s) = refl
      go false r = refl

  -- what no command was refused in, and the last state of reading it
  pub commands_out : (file : List ℕ) (F : Policy) → read_commands W file ≡ accepted F → (length file ≤ 65535) × ((s : Loading) × (read (role_format W) fresh file ≡ accepted s) × (s.policy ≡ F))
  unfolding read_commands
  commands_out file F h = go (leb (length file) 65535) refl (read (role_format W) fresh file) refl h
    where
      go : (b : Bool) → leb (length file) 65535 ≡ b → (r : Answer Loading) → read (role_format W) fresh file ≡ r → unless b too_long (and_then r (λ s. accepted s.policy)) ≡ accepted F
          → (length file ≤ 65535) × ((s : Loading) × (read (role_format W) fresh file ≡ accepted s) × (s.policy ≡ F))
      go true e (refused d) k q = absurd (refused_not q)
      go true e (accepted s) k q = (leb-true (length file) 65535 e, (s, k, cc))
      go false e r k q = absurd (refused_not q)

  -- ---- the answer, from what reading gives

  -- "accepted files an empty list", however little memory there is
  pub circle_accepted : (file : List ℕ) (room : ℕ) (F : Policy) → read_roles W file ≡ accepted F → circle_answer W file room ≡ accepted []
  unfolding circle_answer
  circle_accepted file room F h = go (read_commands W file) (sym (reading-settled file) ∙ h)
    where
      none : (G : Policy) → settled G ≡ accepted F → Settled G → listed room (circle_of G) ≡ accepted []
      none G k (inl c) = ap (listed room) (circle_none G c.1) ∙ rw (le-leb 0 room (omega arith)) refl
      none G k (inr c) = absurd (refused_not (sym c.0 ∙ k))

      go : (r : Answer Policy) → and_then r settled ≡ accepted F → and_then r (λ F. listed room (circle_of F)) ≡ accepted []
      go (refused e) k = absurd (refused_not k)
      go (accepted G) k = none G k (settled_cases G)

  -- "Files refused otherwise return that number"
  pub circle_otherwise : (file : List ℕ) (room : ℕ) (e : Refusal) → read_roles W file ≡ refused e → (e ≡ own_senior → ⊥) → circle_answer W file room ≡ refused e
  unfolding circle_answer
  circle_otherwise file room e h n = go (read_commands W file) (sym (reading-settled file) ∙ h)
    where
      seven : (G : Policy) → settled G ≡ refused e → Settled G → listed room (circle_of G) ≡ refused e
      seven G k (inl c) = absurd (refused_not (sym k ∙ c.0))
      seven G k (inr c) = let d = c.0 in absurd (n cc)

      go : (r : Answer Policy) → and_then r settled ≡ refused e → and_then r (λ F. listed room (circle_of F)) ≡ refused e
      go (refused d) k = ap refused (refusal-same k)
      go (accepted G) k = seven G k (settled_cases G)

  -- reading's number 7 is that refusal
  pub seven-only : (file : List ℕ) (e : Refusal) → read_roles W file ≡ refused e → number_of e ≡ 7 → e ≡ own_senior
  seven-only file e h n = go (read_commands W file) refl (sym (reading-settled file) ∙ h)
    where
      settles : (G : Policy) → settled G ≡ refused e → Settled G → e ≡ own_senior
      settles G k (inl c) = absurd (refused_not (sym k ∙ c.0))
      settles G k (inr c) = refusal-same (sym k ∙ c.0)

      go : (r : Answer Policy) → read_commands W file ≡ r → and_then r settled ≡ refused e → e ≡ own_senior
      go (refused d) q k = let l = refused-by Early (read_commands W file) (commands_early file) q in let z = ap number_of (refusal-same k) in absurd (omega arith)
      go (accepted G) q k = settles G k (settled_cases G)

  -- a file whose only fault is 7: its circle, and 9 where it does not fit
  pub circle_seven : (file : List ℕ) → read_roles W file ≡ refused own_senior
      → (F : Policy) × (read_commands W file ≡ accepted F) × Is (circular F) × (0 < length (circle_of F)) × ((room : ℕ) → circle_answer W file room ≡ unless (leb (length (circle_of F)) room) short_output (accepted (circle_of F)))
  unfolding circle_answer
  circle_seven file h = go (read_commands W file) refl (sym (reading-settled file) ∙ h)
    where
      seven : (G : Policy) → read_commands W file ≡ accepted G → settled G ≡ refused own_senior → Settled G
          → (F : Policy) × (read_commands W file ≡ accepted F) × Is (circular F) × (0 < length (circle_of F)) × ((room : ℕ) → and_then (read_commands W file) (λ F. listed room (circle_of F)) ≡ listed room (circle_of F))
      seven G e k (inl c) = absurd (refused_not (sym k ∙ c.0))
      seven G e k (inr c) = (G, e, c.1, circle_some G c.1, λ room. ap (λ (r : Answer Policy). and_then r (λ F. listed room (circle_of F))) e)

      go : (r : Answer Policy) → read_commands W file ≡ r → and_then r settled ≡ refused own_senior
          → (F : Policy) × (read_commands W file ≡ accepted F) × Is (circular F) × (0 < length (circle_of F)) × ((room : ℕ) → and_then (read_commands W file) (λ F. listed room (circle_of F)) ≡ listed room (circle_of F))
      go (refused d) e k = let n = refused-by Early (read_commands W file) (commands_early file) e in let z : number_of d ≡ 7 = ap number_of (refusal-same k) in absurd (omega arith)
      go (accepted G) e k = seven G e k (settled_cases G)

  -- ---- and from the answer

  -- a command was refused, or there is a list
  abbrev Ended : List ℕ → ℕ → Answer (List ℕ) → Type 0
  Ended file room a = ((e : Refusal) × (read_commands W file ≡ refused e) × (a ≡ refused e) × Early e) ⊎ ((F : Policy) × (read_commands W file ≡ accepted F) × (a ≡ listed room (circle_of F)))

  answer_cases : (file : List ℕ) (room : ℕ) → Ended file room (circle_answer W file room)
  unfolding circle_answer
  answer_cases file room = go (read_commands W file) refl
    where
      on : (r : Answer Policy) → read_commands W file ≡ r → and_then (read_commands W file) (λ F. listed room (circle_of F)) ≡ and_then r (λ F. listed room (circle_of F))
      on r e = ap (λ (r : Answer Policy). and_then r (λ F. listed room (circle_of F))) e

      go : (r : Answer Policy) → read_commands W file ≡ r → Ended file room (and_then (read_commands W file) (λ F. listed room (circle_of F)))
      go (refused e) k = inl (e, k, on (refused e) k, refused-by Early (read_commands W file) (commands_early file) k)
      go (accepted F) k = inr (F, k, on (accepted F) k)

  reading-refused : (file : List ℕ) (e : Refusal) → read_commands W file ≡ refused e → read_roles W file ≡ refused e
  reading-refused file e k = reading-settled file ∙ ap (λ (r : Answer Policy). and_then r settled) k

  reading-seven : (file : List ℕ) (F : Policy) → read_commands W file ≡ accepted F → Is (circular F) → read_roles W file ≡ refused own_senior
  reading-seven file F k h = reading-settled file ∙ ap (λ (r : Answer Policy). and_then r settled) k ∙ rw h refl

  -- THE REFUSALS: but for 9, the call is refused exactly if reading is refused otherwise than by 7, and by the same number
  pub circle_refused : (file : List ℕ) (room : ℕ) (e : Refusal) → (e ≡ short_output → ⊥) → (circle_answer W file room ≡ refused e) ↔ ((read_roles W file ≡ refused e) × (e ≡ own_senior → ⊥))
  circle_refused file room e n = ((λ h. go h (answer_cases file room)), λ h. circle_otherwise file room e h.0 h.1)
    where
      short : (c : List ℕ) → listed room c ≡ refused e → Fits room c → ⊥
      short c h (inl t) = refused_not (sym h ∙ t.0)
      short c h (inr t) = let d = t.0 in n cc

      go : circle_answer W file room ≡ refused e → Ended file room (circle_answer W file room) → (read_roles W file ≡ refused e) × (e ≡ own_senior → ⊥)
      go h (inl t) =
          let d = t.2 in
          let q : t.0 ≡ e = cc in
          let early = t.3 in
          (subst (λ (x : Refusal). read_roles W file ≡ refused x) q (reading-refused file t.0 t.1), λ s. let z : number_of t.0 ≡ 7 = ap number_of (q ∙ s) in omega arith)
      go h (inr t) = absurd (short (circle_of t.0) (sym t.2 ∙ h) (listed_cases room (circle_of t.0)))

  -- 9: the file's only fault is 7, and its circle is longer than the memory
  pub circle_short : (file : List ℕ) (room : ℕ) → circle_answer W file room ≡ refused short_output → (F : Policy) × (read_commands W file ≡ accepted F) × (read_roles W file ≡ refused own_senior) × (room < length (circle_of F))
  circle_short file room h = go (answer_cases file room)
    where
      seven : (F : Policy) → read_commands W file ≡ accepted F → room < length (circle_of F) → read_roles W file ≡ refused own_senior
      seven F k l = test (circular F) (λ c. reading-seven file F k c) (λ c. let z = ap length (circle_none F c) in absurd (omega arith))

      short : (F : Policy) → read_commands W file ≡ accepted F → listed room (circle_of F) ≡ refused short_output → Fits room (circle_of F)
          → (F : Policy) × (read_commands W file ≡ accepted F) × (read_roles W file ≡ refused own_senior) × (room < length (circle_of F))
      short F k d (inl t) = absurd (refused_not (sym d ∙ t.0))
      short F k d (inr t) = (F, k, seven F k t.1, t.1)

      go : Ended file room (circle_answer W file room)
          → (F : Policy) × (read_commands W file ≡ accepted F) × (read_roles W file ≡ refused own_senior) × (room < length (circle_of F))
      go (inl t) = let d = t.2 in let q : t.0 ≡ short_output = cc in let early = t.3 in let z : number_of t.0 ≡ 9 = ap number_of q in absurd (omega arith)
      go (inr t) = short t.0 t.1 (sym t.2 ∙ h) (listed_cases room (circle_of t.0))

  -- THE LIST is what request 3 says, and it fits
  pub circle_listed : (file : List ℕ) (room : ℕ) (list : List ℕ) → circle_answer W file room ≡ accepted list → (F : Policy) × (read_commands W file ≡ accepted F) × (list ≡ circle_of F) × (length list ≤ room) × Circle F list
  circle_listed file room list h = go (answer_cases file room)
    where
      fits : (F : Policy) → read_commands W file ≡ accepted F → listed room (circle_of F) ≡ accepted list → Fits room (circle_of F)
          → (F : Policy) × (read_commands W file ≡ accepted F) × (list ≡ circle_of F) × (length list ≤ room) × Circle F list
      fits F k d (inl t) =
          let p = t.0 in
          let e : list ≡ circle_of F = cc in
          (F, k, e, subst (λ (l : List ℕ). length l ≤ room) (sym e) t.1, subst (Circle F) (sym e) (circle-of F))
      fits F k d (inr t) = absurd (refused_not (sym t.0 ∙ d))

      go : Ended file room (circle_answer W file room)
          → (F : Policy) × (read_commands W file ≡ accepted F) × (list ≡ circle_of F) × (length list ≤ room) × Circle F list
      go (inl t) = absurd (refused_not (sym t.2 ∙ h))
      go (inr t) = fits t.0 t.1 (sym t.2 ∙ h) (listed_cases room (circle_of t.0))

  -- it is not empty exactly if reading gives 7
  pub circle_found : (file : List ℕ) (room : ℕ) (list : List ℕ) → circle_answer W file room ≡ accepted list → (0 < length list) ↔ (read_roles W file ≡ refused own_senior)
  circle_found file room list h = let t = circle_listed file room list h in (there t.0 t.1 t.2, back)
    where
      there : (F : Policy) → read_commands W file ≡ accepted F → list ≡ circle_of F → 0 < length list → read_roles W file ≡ refused own_senior
      there F k e l = test (circular F) (λ c. reading-seven file F k c) (λ c. let z = ap length (e ∙ circle_none F c) in absurd (omega arith))

      back : read_roles W file ≡ refused own_senior → 0 < length list
      back k =
          let s = circle_seven file k in
          let t = circle_listed file room list h in
          let a = s.1 in
          let b = t.1 in
          let e : t.0 ≡ s.0 = cc in
          subst (λ (l : List ℕ). 0 < length l) (sym (t.2 ∙ ap circle_of e)) s.3

  -- the lines of a file join roles that it declares: every closed walk of them counts in what Circle says
  pub circle_walks : (file : List ℕ) → Bytes file → (F : Policy) → read_commands W file ≡ accepted F → (l : List ℕ) → Is (closes F.line l) → Below F.roles l
  circle_walks file b F k l h = walk_declared F (carried (Sound W) (read_commands W file) (commands_sound W file b) k).lines l h

  -- ---- the memory

  -- a refusal leaves it untouched
  pub circle_kept : (file former : List ℕ) (e : Refusal) → circle_answer W file (length former) ≡ refused e → circle_output W file former ≡ former
  unfolding circle_output
  circle_kept file former e h = ap (λ (r : Answer (List ℕ)). elim r as (λ _. List ℕ) [ refused e ↦ former | accepted c ↦ c ++ drop (length c) former ]) h

  -- else the list stands at its front, and the former bytes behind
  pub circle_written : (file former list : List ℕ) → circle_answer W file (length former) ≡ accepted list → circle_output W file former ≡ list ++ drop (length list) former
  unfolding circle_output
  circle_written file former list h = ap (λ (r : Answer (List ℕ)). elim r as (λ _. List ℕ) [ refused e ↦ former | accepted c ↦ c ++ drop (length c) former ]) h

  pub circle_memory : (file former list : List ℕ) → circle_answer W file (length former) ≡ accepted list → Written former (circle_output W file former) list
  circle_memory file former list h =
      let room = (circle_listed file (length former) list h).3 in
      rw (circle_written file former list h) (record {
        as_long = let a = length-append list (drop (length list) former) in let b = length-drop (length list) former in omega arith;
        front = take-append_seam list (drop (length list) former);
        behind = drop-append_seam list (drop (length list) former);
      })

  -- THE THIRD REQUEST, of the bytes that are written: what Circle says of them, whatever the memory held, and that no closed walk of the
  -- file's lines leaves its roles, so that Circle's `fewest` and `first` are about all of them
  pub circle_demand : (file : List ℕ) → Bytes file → (former list : List ℕ) → circle_answer W file (length former) ≡ accepted list
      → (F : Policy) × (read_commands W file ≡ accepted F) × Circle F (take (length list) (circle_output W file former)) × ((l : List ℕ) → Is (closes F.line l) → (r : ℕ) → r is_in l → r < F.roles)
  circle_demand file b former list h =
      let t = circle_listed file (length former) list h in
      (t.0, t.1, subst (Circle t.0) (sym (circle_memory file former list h).front) t.4, circle_walks file b t.0 t.1)
