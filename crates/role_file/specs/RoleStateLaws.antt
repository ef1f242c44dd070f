-- The state of the reader's loop, and what each turn makes of it.
-- Assumes nothing.
use Rattle.std.specs.Prelude.{ℕ, zero, suc, ◌≤◌, ◌<◌, ◌-◌, length, drop, take, Bool, true, false, not, ◌≡◌, refl, ◌⊎◌, Ok, Err}
use Rattle.std.proofs.Common.{inl, inr, le-leb, length-drop, take_all, ◌∙◌, arith}
use Rattle.std.proofs.lemmas.Bool.{lt-leb, false≢true}
use mathlib.Core.List.{List, [], ◌∷◌}
use Rattle.std.proofs.Math.Path.{sym, ap, ap₂, subst}
use Rattle.role_admit.specs.Admit.{is_over, admit_of}
use Rattle.role_admit.specs.AdmitLaws.{phase_of, passed, admit_means}
use Rattle.role_admit.specs.declared.phase.Phase.{Phase as Place}
use Rattle.role_admit.specs.declared.phase.Phase.TheVariants.{Nothing}
use Rattle.role_record.specs.Cells.{most_operations, permission_cells}
use Rattle.role_record.specs.Record.{Sized, FewAttributes, empty_record, table_of, known_table, value_table, assigned_table, line_table, permission_table, attribute_table, kind_table, record_with, record_so_far, set_values, set_assigned, set_lines, set_permissions, set_kinds, domain_table}
use Rattle.role_commands.specs.Decode.{decoded_of}
use Rattle.role_commands.specs.DecodeLaws.{meaning, turn-refused, Front, turn-whole}
use Rattle.files.specs.Answer.{Answer, unless, and_then, too_long, out_of_place, own_senior, refused, accepted}
use Rattle.files.specs.Cause.{cause, answer_of}
use Rattle.files.specs.declared.refusal.Refusal.{Refusal}
use Rattle.files.specs.Bytes.{behind, read_on, read}
use Rattle.files.proofs.AnswerLaws.{map-refused, map-accepted}
use Rattle.files.proofs.BytesLaws.{read_behind, follow, Carries}
use Rattle.files.specs.RoleFile.{Loading, blank, is_end, fresh, settle, obey_role, role_format, read_roles, nothing}
use Rattle.role_record.specs.RecordLaws.{table_none}
use Rattle.policy.specs.Policy.{Policy, circular}
use Rattle.policy.specs.Rules.{Which, by, user, resource}
use Rattle.role_file.specs.ReadLaws.{After, obeyed}
use Rattle.role_store.specs.Storing.{Bounded, phase_after, stored_by}
use Rattle.role_next.specs.Taking.{next_of}
use Rattle.role_next.specs.TakenLaws.{Took, took, Unadmitted, stopped}
use Rattle.sets.specs.ListLaws.{length_none}
use Rattle.sets.specs.Sets.{mask_of}
use Rattle.role_record.specs.declared.RoleFile.{RoleFile}
use Rattle.role_commands.specs.declared.Command.{Command}
use Rattle.role_commands.specs.declared.Command.TheVariants.{Sizes, Declare, Give, Assign, Permit, Line, End}

-- reading on from here gives what the whole file gives
pub record State (s rest : List ℕ) (f : RoleFile) (p : Place) : Type 0 where
  pub loading : Loading
  pub fuel : ℕ
  pub short : length s ≤ 65535
  pub enough : length rest ≤ fuel
  pub sized : Sized loading.policy
  pub shows : f ≡ record_so_far loading.policy
  pub phased : p ≡ phase_of loading.phase
  pub unread : loading.phase ≡ nothing → loading.policy ≡ blank 0 0 0 0
  pub same : read_on (role_format 2) (suc fuel) false loading rest ≡ read (role_format 2) fresh s

-- the end was read: what is left is to see that nothing stands behind it, and to close seniority
pub record Ended (s rest : List ℕ) (f : RoleFile) : Type 0 where
  pub policy : Policy
  pub sized : Sized policy
  pub shows : f ≡ record_so_far policy
  pub at-end : length rest ≡ 0 → unless (not (circular policy)) own_senior (accepted policy) ≡ read_roles 2 s
  pub trailing : (length rest ≡ 0 → ⊥) → refused out_of_place ≡ read_roles 2 s

abbrev pub Reached : List ℕ → List ℕ → RoleFile → Place → Type 0
Reached s rest f p = (is_over p ≡ true → Ended s rest f) × (is_over p ≡ false → State s rest f p)

-- what reading from a state comes to for the whole file
abbrev finish : Answer Loading → Answer Policy
finish r = and_then r settle

whole-file : (s : List ℕ) → length s ≤ 65535 → finish (read (role_format 2) fresh s) ≡ read_roles 2 s
unfolding read_roles
whole-file s h = rw (le-leb (length s) 65535 h) refl

pub too_long_lem : (s : List ℕ) → 65535 < length s → refused too_long ≡ read_roles 2 s
unfolding read_roles
too_long_lem s h = rw (lt-leb (length s) 65535 h) refl

-- ---- the beginning

empty-shows : empty_record ≡ record_so_far (blank 0 0 0 0)
unfolding empty_record record_so_far record_with attribute_table kind_table domain_table known_table value_table assigned_table line_table permission_table blank mask_of
empty-shows = ap (λ (d : List ℕ). set_kinds empty_record empty_record.attributes empty_record.kinds d) (table_none 12) ∙ ap₂ (λ (k v : List ℕ). set_values domainless k v) (table_none 12) (table_none 768) ∙ ap₂ (λ (a l : List ℕ). set_lines (set_assigned (set_values domainless (table_of 12 (λ i. 0)) (table_of 768 (λ i. 0))) a) l) (table_none 32) (table_none 32) ∙ ap (λ (l : List ℕ). set_permissions (set_lines (set_assigned (set_values domainless (table_of 12 (λ i. 0)) (table_of 768 (λ i. 0))) (table_of 32 (λ i. 0))) (table_of 32 (λ i. 0))) l) (table_none (permission_cells most_operations))
  where
    domainless : RoleFile
    domainless = set_kinds empty_record empty_record.attributes empty_record.kinds (table_of 12 (λ i. 0))

pub begin : (s : List ℕ) → length s ≤ 65535 → State s s empty_record Nothing
unfolding blank
begin s h = record {
  loading = fresh;
  fuel = length s;
  short = h;
  enough = omega arith;
  sized = record { many = λ w. sides w; declared = λ w. omega arith; operable = omega arith; few = omega arith; lined = λ i j h. absurd (false≢true h); assigned-to = λ k u h. absurd (false≢true h); permits = λ k r o h. absurd (false≢true h) };
  shows = empty-shows;
  phased = refl;
  unread = λ e. refl;
  same = refl;
}
  where
    sides : (w : Which) → by w 0 0 ≤ 64
    sides user = omega arith
    sides resource = omega arith

-- ---- a turn

-- the command that ends the file
ends : (c : Command) → is_end (meaning c) ≡ is_over (phase_after c)
ends (Sizes u r o k) = refl
ends (Declare side kind domain) = refl
ends (Give kind side a x v) = refl
ends (Assign k u) = refl
ends (Permit k r o) = refl
ends (Line j k) = refl
ends End = refl

module _ (s rest : List ℕ) (f : RoleFile) (p : Place) (t : State s rest f p) where
  -- nothing, less than a command, or no command is left
  undecoded : (e : Refusal) → decoded_of rest ≡ Err e → refused (cause e) ≡ read_roles 2 s
  undecoded e d = ap finish (sym (turn-refused t.fuel t.loading rest e d) ∙ t.same) ∙ whole-file s t.short

  -- a command is admitted as the definitions obey it
  judged : (c : Command) → answer_of (admit_of c p f) ≡ passed (obey_role 2 t.loading (meaning c))
  judged c = ap₂ (λ (q : Place) (g : RoleFile). answer_of (admit_of c q g)) t.phased t.shows ∙ admit_means t.loading c t.sized

  module _ (c : Command) (w : ℕ) (e : decoded_of rest ≡ Ok (c, w)) where
    front : Front t.fuel t.loading rest c w
    front = turn-whole t.fuel t.loading rest c w e

    -- what comes of the whole file
    outcome : finish (and_then (obey_role 2 t.loading (meaning c)) (follow (role_format 2) (is_end (meaning c)) t.fuel (drop w rest))) ≡ read_roles 2 s
    outcome = ap finish (sym front.turned ∙ t.same) ∙ whole-file s t.short

    -- a refused command
    unadmitted : (d : Refusal) → admit_of c p f ≡ Err d → refused (cause d) ≡ read_roles 2 s
    unadmitted d h =
        let r = map-refused (λ l. tt) (cause d) (obey_role 2 t.loading (meaning c)) (sym (ap answer_of h) ∙ judged c) in
        ap (λ (a : Answer Loading). finish (and_then a (follow (role_format 2) (is_end (meaning c)) t.fuel (drop w rest)))) (sym r) ∙ outcome

    -- an obeyed one: the state after it
    record Admitted : Type 0 where
      next : Loading
      so : obey_role 2 t.loading (meaning c) ≡ accepted next
      after : After t.loading c next

    module _ (h : admit_of c p f ≡ Ok tt) where
      admitted : Admitted
      admitted =
          let r = map-accepted (λ l. tt) tt (obey_role 2 t.loading (meaning c)) (sym (ap answer_of h) ∙ judged c) in
          record { next = r.value; so = r.is; after = subst (Carries (After t.loading c)) r.is (obeyed t.loading c t.sized t.unread) }

      bounded : Bounded f.attributes c
      bounded = subst (λ (g : RoleFile). Bounded g.attributes c) (sym t.shows) admitted.after.bounded

      -- what follows an obeyed command
      followed : finish (follow (role_format 2) (is_end (meaning c)) t.fuel (drop w rest) admitted.next) ≡ read_roles 2 s
      followed = ap (λ (r : Answer Loading). finish (and_then r (follow (role_format 2) (is_end (meaning c)) t.fuel (drop w rest)))) (sym admitted.so) ∙ outcome

      shown : (g : RoleFile) → g ≡ stored_by f c → g ≡ record_so_far admitted.next.policy
      shown g q = q ∙ ap (λ (r : RoleFile). stored_by r c) t.shows ∙ admitted.after.shows

      -- the state after a command that is not the end. Each command is at least one byte, so the fuel lasts
      go_on : is_end (meaning c) ≡ false → (g : RoleFile) → g ≡ stored_by f c → State s (drop w rest) g (phase_after c)
      go_on on g q = next t.fuel t.enough refl
        where
          M : Loading
          M = admitted.next

          reached : read_on (role_format 2) t.fuel false M (drop w rest) ≡ read (role_format 2) fresh s
          reached =
              sym (front.turned
              ∙ ap (λ (r : Answer Loading). and_then r (follow (role_format 2) (is_end (meaning c)) t.fuel (drop w rest))) admitted.so
              ∙ ap (λ (b : Bool). follow (role_format 2) b t.fuel (drop w rest) M) on)
              ∙ t.same

          next : (n : ℕ) → length rest ≤ n → t.fuel ≡ n → State s (drop w rest) g (phase_after c)
          next zero k z = let a = front.some_bytes in let b = front.inside in absurd (omega arith)
          next (suc n) k z =
              let a = front.some_bytes in
              let b = front.inside in
              let d = length-drop w rest in
              record {
                loading = M;
                fuel = n;
                short = t.short;
                enough = omega arith;
                sized = admitted.after.sized;
                shows = shown g q;
                phased = sym (admitted.after.phased on);
                unread = λ y. absurd (admitted.after.begun y);
                same = ap (λ (k : ℕ). read_on (role_format 2) k false M (drop w rest)) (sym z) ∙ reached;
              }

      -- after the end: bytes behind it, or nothing, and what is left is to close seniority
      at_the_end : is_end (meaning c) ≡ true → (g : RoleFile) → g ≡ stored_by f c → Ended s (drop w rest) g
      unfolding role_format
      at_the_end on g q = record {
        policy = admitted.next.policy;
        sized = admitted.after.sized;
        shows = shown g q;
        at-end = λ e. ap (λ (l : List ℕ). finish (behind (role_format 2) admitted.next l)) (sym (length_none (drop w rest) e)) ∙ so;
        trailing = λ d. some (drop w rest) d so;
      }
        where
          so : finish (behind (role_format 2) admitted.next (drop w rest)) ≡ read_roles 2 s
          so = ap finish (sym (read_behind (role_format 2) t.fuel admitted.next (drop w rest))) ∙ ap (λ (b : Bool). finish (follow (role_format 2) b t.fuel (drop w rest) admitted.next)) (sym on) ∙ followed

          some : (l : List ℕ) → (length l ≡ 0 → ⊥) → finish (behind (role_format 2) admitted.next l) ≡ read_roles 2 s → refused out_of_place ≡ read_roles 2 s
          some [] d o = absurd (d refl)
          some (x ∷ l) d o = o

      turned : (g : RoleFile) → g ≡ stored_by f c → Reached s (drop w rest) g (phase_after c)
      turned g q = (λ z. at_the_end (ends c ∙ z) g q, λ z. go_on (ends c ∙ z) g q)

-- a part without an end, as `&rest[w..]` is given
pub tail : (w : ℕ) (l : List ℕ) → take (length l - w) (drop w l) ≡ drop w l
tail w l = take_all (length l - w) (drop w l) (let e = length-drop w l in omega arith)

module _ (s rest : List ℕ) (f : RoleFile) (p : Place) (t : State s rest f p) where
  pub few-attributes : FewAttributes f.attributes
  unfolding record_so_far record_with attribute_table
  few-attributes = subst (λ (g : RoleFile). FewAttributes g.attributes) (sym t.shows) (t.sized.declared user, t.sized.declared resource)

pub few-roles : (s rest : List ℕ) (f : RoleFile) → Ended s rest f → f.roles ≤ 32
unfolding record_so_far record_with
few-roles s rest f t = subst (λ (g : RoleFile). g.roles ≤ 32) (sym t.shows) t.sized.few

-- ---- a turn, as the code takes it

module _ (s rest : List ℕ) (f : RoleFile) (p : Place) (t : State s rest f p) where
  pub next-stops : (e : Refusal) → next_of rest p f ≡ Err e → refused (cause e) ≡ read_roles 2 s
  next-stops e h = go (stopped rest p f e h)
    where
      go : (decoded_of rest ≡ Err e) ⊎ Unadmitted rest p f e → refused (cause e) ≡ read_roles 2 s
      go (inl d) = undecoded s rest f p t e d
      go (inr u) = unadmitted s rest f p t u.command u.width u.decoded e u.unadmitted

  module _ (c : Command) (w : ℕ) (e : next_of rest p f ≡ Ok (c, w)) where
    here : Took rest p f c w
    here = took rest p f c w e

    pub next-some : 0 < w
    next-some = (front s rest f p t c w here.decoded).some_bytes

    pub next-inside : w ≤ length rest
    next-inside = (front s rest f p t c w here.decoded).inside

    pub next-bounded : Bounded f.attributes c
    next-bounded = bounded s rest f p t c w here.decoded here.admitted

    pub next-reached : (g : RoleFile) (q : Place) → g ≡ stored_by f c → q ≡ phase_after c → Reached s (take (length rest - w) (drop w rest)) g q
    next-reached g q d z =
        subst (λ (l : List ℕ). Reached s l g q) (sym (tail w rest)) (subst (λ (x : Place). Reached s (drop w rest) g x) (sym z) (turned s rest f p t c w here.decoded here.admitted g d))
