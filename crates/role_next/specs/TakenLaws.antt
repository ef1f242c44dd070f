-- What comes next in a file: a command that was decoded and admitted, or what refused it; and the sizes by the first command.
-- Assumes nothing.
use Rattle.std.specs.Prelude.{ℕ, eqb, ltb, length, Bool, true, false, cond, List, ◌≡◌, refl, ◌⊎◌, Option, Some, None, Result, Ok, Err}
use Rattle.std.specs.Result.{result_and}
use Rattle.std.proofs.Common.{inl, inr, sym, ap, ◌∙◌, subst}
use Rattle.file_bytes.specs.Numbers.{number_at}
use Rattle.files.specs.declared.refusal.Refusal.{Refusal}
use Rattle.files.specs.declared.refusal.Refusal.TheVariants.{CutOff, OutOfPlace}
use Rattle.role_record.specs.Record.{set_sizes}
use Rattle.role_record.specs.declared.RoleFile.{RoleFile}
use Rattle.role_record.specs.declared.Sizes.{Sizes as Counts}
use Rattle.role_commands.specs.declared.Command.{Command}
use Rattle.role_commands.specs.declared.Command.TheVariants.{Sizes, Declare, Give, Assign, Permit, Line, End}
use Rattle.role_commands.specs.Decode.{width_of, command_by, first_command, decoded_of}
use Rattle.role_commands.specs.DecodeLaws.{same-decoded, same-refusal, not-refused}
use Rattle.role_admit.specs.declared.phase.Phase.{Phase}
use Rattle.role_admit.specs.declared.phase.Phase.TheVariants.{Nothing, Declaring, Telling, Ended}
use Rattle.role_admit.specs.Admit.{checked, is_first, operands_admitted, admit_of}
use Rattle.role_store.specs.Storing.{stored_by}
use Rattle.role_next.specs.Taking.{if_admitted, next_of}

-- ---- going in

module _ (bytes : List ℕ) (p : Phase) (f : RoleFile) where
  -- bytes that are no command, or fewer than it takes
  pub next-undecoded : (e : Refusal) → decoded_of bytes ≡ Err e → Err e ≡ next_of bytes p f
  unfolding next_of
  next-undecoded e h = sym (ap (if_admitted p f) h)

  next-whole : (c : Command) (w : ℕ) (r : Result (Unit {0}) Refusal) → decoded_of bytes ≡ Ok (c, w) → admit_of c p f ≡ r → result_and {U = Command × ℕ} r (Ok (c, w)) ≡ next_of bytes p f
  unfolding next_of
  next-whole c w r h a = sym (ap (if_admitted p f) h ∙ ap (λ (x : Result (Unit {0}) Refusal). result_and {U = Command × ℕ} x (Ok (c, w))) a)

  pub next-admitted : (c : Command) (w : ℕ) → decoded_of bytes ≡ Ok (c, w) → admit_of c p f ≡ Ok tt → Ok (c, w) ≡ next_of bytes p f
  next-admitted c w h a = next-whole c w (Ok tt) h a

  pub next-refused : (c : Command) (w : ℕ) (e : Refusal) → decoded_of bytes ≡ Ok (c, w) → admit_of c p f ≡ Err e → Err e ≡ next_of bytes p f
  next-refused c w e h a = next-whole c w (Err e) h a

-- ---- coming out

module _ (bytes : List ℕ) (p : Phase) (f : RoleFile) where
  -- a command that was taken was decoded, and admitted
  pub record Took (c : Command) (w : ℕ) : Type 0 where
    pub decoded : decoded_of bytes ≡ Ok (c, w)
    pub admitted : admit_of c p f ≡ Ok tt

  pub took : (c : Command) (w : ℕ) → next_of bytes p f ≡ Ok (c, w) → Took c w
  unfolding next_of
  took c w h = from (decoded_of bytes) refl h
    where
      judged : (d : Command) (v : ℕ) → decoded_of bytes ≡ Ok (d, v) → (r : Result (Unit {0}) Refusal) → admit_of d p f ≡ r → result_and {U = Command × ℕ} r (Ok (d, v)) ≡ Ok (c, w) → Took c w
      judged d v q (Ok u) a k = let same = same-decoded k in record { decoded = q ∙ k; admitted = subst (λ (x : Command). admit_of x p f ≡ Ok tt) (ap (λ (t : Command × ℕ). t.0) same) a }
      judged d v q (Err e) a k = absurd (not-refused k)

      from : (r : Result (Command × ℕ) Refusal) → decoded_of bytes ≡ r → if_admitted p f r ≡ Ok (c, w) → Took c w
      from (Ok t) q k = judged t.0 t.1 q (admit_of t.0 p f) refl k
      from (Err e) q k = absurd (not-refused k)

  -- what refuses the next command refused its bytes, or the command that stands there
  pub record Unadmitted (e : Refusal) : Type 0 where
    pub command : Command
    pub width : ℕ
    pub decoded : decoded_of bytes ≡ Ok (command, width)
    pub unadmitted : admit_of command p f ≡ Err e

  pub stopped : (e : Refusal) → next_of bytes p f ≡ Err e → (decoded_of bytes ≡ Err e) ⊎ Unadmitted e
  unfolding next_of
  stopped e h = from (decoded_of bytes) refl h
    where
      judged : (d : Command) (v : ℕ) → decoded_of bytes ≡ Ok (d, v) → (r : Result (Unit {0}) Refusal) → admit_of d p f ≡ r → result_and {U = Command × ℕ} r (Ok (d, v)) ≡ Err e → Unadmitted e
      judged d v q (Ok u) a k = absurd (not-refused (sym k))
      judged d v q (Err x) a k = record { command = d; width = v; decoded = q; unadmitted = a ∙ ap Err (same-refusal k) }

      from : (r : Result (Command × ℕ) Refusal) → decoded_of bytes ≡ r → if_admitted p f r ≡ Err e → (decoded_of bytes ≡ Err e) ⊎ Unadmitted e
      from (Ok t) q k = inr (judged t.0 t.1 q (admit_of t.0 p f) refl k)
      from (Err x) q k = inl (q ∙ k)

-- ---- the sizes by the first command

-- the sizes in the bytes behind the first
abbrev pub first_sizes : List ℕ → Counts
first_sizes bytes = record { users = number_at 1 bytes 1; resources = number_at 1 bytes 2; operations = number_at 1 bytes 3; roles = number_at 1 bytes 4 }

by-test : (P : Command → Type 0) (b : Bool) (x y : Command) → P x → P y → P (cond b x y)
by-test P true x y p q = p
by-test P false x y p q = q

-- the sizes that a command says, and n where it says none
told : Command → Counts → Counts
told (Sizes u r o k) n = record { users = u; resources = r; operations = o; roles = k }
told (Declare side kind domain) n = n
told (Give s side a x v) n = n
told (Assign k u) n = n
told (Permit k r o) n = n
told (Line j s) n = n
told End n = n

told-first : (b : ℕ) (l : List ℕ) → told (command_by b l) (first_sizes l) ≡ first_sizes l
unfolding told command_by
told-first b l =
    by-test P (eqb b 1) (Sizes (number_at 1 l 1) (number_at 1 l 2) (number_at 1 l 3) (number_at 1 l 4)) _ refl
    (by-test P (eqb b 2) (Declare (number_at 1 l 1) (number_at 1 l 2) 0) _ refl
    (by-test P (eqb b 3) (Give false (number_at 1 l 1) (number_at 1 l 2) (number_at 1 l 3) (number_at 2 l 4)) _ refl
    (by-test P (eqb b 4) (Give true (number_at 1 l 1) (number_at 1 l 2) (number_at 1 l 3) (number_at 8 l 4)) _ refl
    (by-test P (eqb b 5) (Assign (number_at 1 l 1) (number_at 1 l 2)) _ refl
    (by-test P (eqb b 6) (Permit (number_at 1 l 1) (number_at 1 l 2) (number_at 1 l 3)) _ refl
    (by-test P (eqb b 7) (Line (number_at 1 l 1) (number_at 1 l 2)) _ refl
    (by-test P (eqb b 8) (Declare (number_at 1 l 1) (number_at 1 l 2) (number_at 1 l 3)) End refl refl)))))))
  where
    P : Command → Type 0
    P c = told c (first_sizes l) ≡ first_sizes l

-- a whole command is that of its first byte
by_byte : (l : List ℕ) (c : Command) (w : ℕ) → decoded_of l ≡ Ok (c, w) → command_by (number_at 1 l 0) l ≡ c
unfolding decoded_of
by_byte l c w e = go (eqb (length l) 0) (width_of (number_at 1 l 0)) e
  where
    whole : (v : ℕ) (z : Bool) → cond {A = Result (Command × ℕ) Refusal} z (Err CutOff) (Ok (command_by (number_at 1 l 0) l, v)) ≡ Ok (c, w) → command_by (number_at 1 l 0) l ≡ c
    whole v true q = absurd (not-refused q)
    whole v false q = ap (λ (t : Command × ℕ). t.0) (same-decoded q)

    go : (x : Bool) (o : Option ℕ) → cond {A = Result (Command × ℕ) Refusal} x (Err CutOff) (first_command l o) ≡ Ok (c, w) → command_by (number_at 1 l 0) l ≡ c
    go true o q = absurd (not-refused q)
    go false None q = absurd (not-refused q)
    go false (Some v) q = whole v (ltb (length l) v) q

first-told : (l : List ℕ) (u r o k w : ℕ) → decoded_of l ≡ Ok (Sizes u r o k, w) → first_sizes l ≡ record { users = u; resources = r; operations = o; roles = k }
unfolding told
first-told l u r o k w e = sym (told-first (number_at 1 l 0) l) ∙ ap (λ (c : Command). told c (first_sizes l)) (by_byte l (Sizes u r o k) w e)

-- ---- the sizes while a file is read: none before the first command, and then those by it

abbrev pub sizes_at : Phase → Counts → Counts
sizes_at Nothing n = record { users = 0; resources = 0; operations = 0; roles = 0 }
sizes_at Declaring n = n
sizes_at Telling n = n
sizes_at Ended n = n

-- a record with other sizes
abbrev pub with_sizes : RoleFile → Counts → RoleFile
with_sizes f n = set_sizes f n.users n.resources n.operations n.roles

-- before the first command no size is asked for
pub same-verdict : (p : Phase) (c : Command) (f : RoleFile) (n : Counts) → admit_of c p (with_sizes f n) ≡ admit_of c p (with_sizes f (sizes_at p n))
unfolding admit_of operands_admitted
same-verdict Declaring c f n = refl
same-verdict Telling c f n = refl
same-verdict Ended c f n = refl
same-verdict Nothing (Sizes u r o x) f n = refl
same-verdict Nothing (Declare side kind domain) f n = refl
same-verdict Nothing (Give s side x y v) f n = refl
same-verdict Nothing (Assign x u) f n = refl
same-verdict Nothing (Permit x r o) f n = refl
same-verdict Nothing (Line j s) f n = refl
same-verdict Nothing End f n = refl

-- what is out of place is not admitted
misplaced : (v : Result (Unit {0}) Refusal) → result_and (checked false OutOfPlace) v ≡ Ok tt → ⊥
misplaced v h = cc

-- the record after an admitted command has the sizes by the first command
module _ (s rest : List ℕ) (g : RoleFile) (n : Counts) (first : n ≡ first_sizes s) where
  -- no other command says sizes
  behind : (p : Phase) (f : RoleFile) → is_first p ≡ false → (c : Command) → admit_of c p f ≡ Ok tt → stored_by (with_sizes g n) c ≡ with_sizes (stored_by g c) n
  unfolding stored_by admit_of
  behind p f q (Sizes u r o k) h =
      let v = operands_admitted (Sizes u r o k) f in
      absurd (misplaced v (ap (λ (b : Bool). result_and (checked b OutOfPlace) v) (sym q) ∙ h))
  behind p f q (Declare side kind domain) h = refl
  behind p f q (Give t side x y v) h = refl
  behind p f q (Assign k u) h = refl
  behind p f q (Permit k r o) h = refl
  behind p f q (Line j t) h = refl
  behind p f q End h = refl

  pub applied-so : (p : Phase) → (p ≡ Nothing → rest ≡ s) → (c : Command) (w : ℕ) (f : RoleFile) → decoded_of rest ≡ Ok (c, w) → admit_of c p f ≡ Ok tt
      → stored_by (with_sizes g (sizes_at p n)) c ≡ with_sizes (stored_by g c) n
  unfolding stored_by admit_of
  applied-so Nothing front (Sizes u r o k) w f e h = sym (ap (with_sizes g) (first ∙ first-told s u r o k w (sym (ap decoded_of (front refl)) ∙ e)))
  applied-so Nothing front (Declare side kind domain) w f e h = absurd (misplaced (operands_admitted (Declare side kind domain) f) h)
  applied-so Nothing front (Give t side x y v) w f e h = absurd (misplaced (operands_admitted (Give t side x y v) f) h)
  applied-so Nothing front (Assign k u) w f e h = absurd (misplaced (operands_admitted (Assign k u) f) h)
  applied-so Nothing front (Permit k r o) w f e h = absurd (misplaced (operands_admitted (Permit k r o) f) h)
  applied-so Nothing front (Line j t) w f e h = absurd (misplaced (operands_admitted (Line j t) f) h)
  applied-so Nothing front End w f e h = absurd (misplaced (operands_admitted End f) h)
  applied-so Declaring front c w f e h = behind Declaring f refl c h
  applied-so Telling front c w f e h = behind Telling f refl c h
  applied-so Ended front c w f e h = behind Ended f refl c h
