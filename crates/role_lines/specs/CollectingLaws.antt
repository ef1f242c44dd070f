-- The state of the second pass, and what each turn makes of it.
-- Assumes nothing.
use Rattle.std.specs.Prelude.{ℕ, zero, suc, ◌≤◌, ◌<◌, ◌-◌, drop, take, get_or, set, Bool, ◌≡◌, Ok, Err}
use Rattle.std.proofs.Common.{lt-ltb, le-ltb, length-drop, sym, ◌∙◌, subst}
use Rattle.std.proofs.Math.ListN.{length}
use Rattle.std.proofs.Math.Bool.{true, false, false≢true}
use Rattle.std.proofs.Math.Decide.{dec_lt}
use mathlib.Core.List.{List, [], ◌∷◌}
use Rattle.std.proofs.Math.Path.{refl, ap}
use native.Mathlib.Omega.{arith}
use Rattle.files.specs.declared.refusal.Refusal.{Refusal}
use Rattle.files.specs.Answer.{Answer, and_then, refused, accepted}
use Rattle.files.specs.Bytes.{read_on}
use Rattle.files.proofs.BytesLaws.{follow, Carries}
use Rattle.files.proofs.CircleCallLaws.{commands_out}
use Rattle.files.specs.RoleFile.{Loading, blank, is_end, fresh, obey_role, role_format, read_commands, nothing}
use Rattle.policy.specs.Policy.{Policy}
use Rattle.role_commands.specs.Decode.{decoded_of}
use Rattle.role_commands.specs.DecodeLaws.{meaning, turn-refused, Front, turn-whole}
use Rattle.role_commands.specs.declared.Command.{Command}
use Rattle.role_commands.specs.declared.Command.TheVariants.{Sizes, Declare, Give, Assign, Permit, Line, End}
use Rattle.role_file.specs.ReadLaws.{After, obeyed}
use Rattle.role_file.specs.RoleStateLaws.{begin, tail}
use Rattle.role_lines.specs.Collecting.{roles_after, lines_after, Collected}
use Rattle.role_record.specs.Record.{Sized, marked, empty_record, table_of, line_table, record_with, record_so_far}
use Rattle.role_record.specs.RecordLaws.{table_none}
use Rattle.role_record.specs.declared.RoleFile.{RoleFile}
use Rattle.role_store.specs.Storing.{Bounded, stored_by}

-- a line as it is stored, and one that the table has no room for
pub line-noted : (t : List ℕ) (j s v : ℕ) → j < 32 → v ≡ marked (get_or t j 0) s → set t j v ≡ lines_after (Line j s) t
line-noted t j s v h e = rw (lt-ltb j 32 h) (ap (set t j) e)

pub line-passed : (t : List ℕ) (j s : ℕ) → 32 ≤ j → t ≡ lines_after (Line j s) t
line-passed t j s h = rw (le-ltb j 32 h) refl

-- a command keeps to what a record shows of lines
pub roles-so : (f : RoleFile) (c : Command) → (stored_by f c).roles ≡ roles_after c f.roles
unfolding stored_by
roles-so f (Sizes u r o k) = refl
roles-so f (Declare side kind domain) = refl
roles-so f (Give s side a x v) = refl
roles-so f (Assign k u) = refl
roles-so f (Permit k r o) = refl
roles-so f (Line j s) = refl
roles-so f End = refl

pub lines-so : (a : List ℕ) (f : RoleFile) (c : Command) → Bounded a c → (stored_by f c).lines ≡ lines_after c f.lines
unfolding stored_by Bounded
lines-so a f (Sizes u r o k) b = refl
lines-so a f (Declare side kind domain) b = refl
lines-so a f (Give s side c x v) b = refl
lines-so a f (Assign k u) b = refl
lines-so a f (Permit k r o) b = refl
lines-so a f (Line j s) b = rw (lt-ltb j 32 b) refl
lines-so a f End b = refl

-- what the record shows
lines-shown : (P : Policy) → (record_so_far P).lines ≡ line_table P
unfolding record_so_far record_with
lines-shown P = refl

roles-shown : (P : Policy) → (record_so_far P).roles ≡ P.roles
unfolding record_so_far record_with
roles-shown P = refl

empty-roles : empty_record.roles ≡ 0
unfolding empty_record
empty-roles = refl

empty-lines : empty_record.lines ≡ table_of 32 (λ i. 0)
unfolding empty_record
empty-lines = table_none 32

-- an answer that is accepted is no refusal
abbrev is_accepted : {A : Type 0} → Answer A → Bool
is_accepted (refused e) = false
is_accepted (accepted a) = true

-- reading on from here, where all commands of the file are obeyed, ends with this policy; what was collected is what stands in it so far
pub record State (rest : List ℕ) (F : Policy) (roles : ℕ) (lines : List ℕ) : Type 0 where
  pub loading : Loading
  pub last : Loading
  pub over : Bool
  pub fuel : ℕ
  pub enough : length rest ≤ fuel
  pub sized : Sized loading.policy
  pub unread : loading.phase ≡ nothing → loading.policy ≡ blank 0 0 0 0
  pub roled : roles ≡ loading.policy.roles
  pub lined : lines ≡ line_table loading.policy
  pub ends : last.policy ≡ F
  pub same : read_on (role_format 2) (suc fuel) over loading rest ≡ accepted last

abbrev pub Reached : List ℕ → List ℕ → ℕ → List ℕ → Type 0
Reached file rest roles lines = (F : Policy) → read_commands 2 file ≡ accepted F → State rest F roles lines

-- before the first command
pub collect_none : (file lines : List ℕ) → lines ≡ table_of 32 (λ i. 0) → Reached file file 0 lines
collect_none file lines e F h =
    let t = commands_out 2 file F h in
    let b = begin file t.0 in
    record {
      loading = b.loading;
      last = t.1.0;
      over = false;
      fuel = b.fuel;
      enough = b.enough;
      sized = b.sized;
      unread = b.unread;
      roled = sym empty-roles ∙ ap (λ (f : RoleFile). f.roles) b.shows ∙ roles-shown b.loading.policy;
      lined = e ∙ sym empty-lines ∙ ap (λ (f : RoleFile). f.lines) b.shows ∙ lines-shown b.loading.policy;
      ends = t.1.2;
      same = b.same ∙ t.1.1;
    }

module _ (rest : List ℕ) (F : Policy) (roles : ℕ) (lines : List ℕ) (t : State rest F roles lines) where
  -- behind the end nothing stands
  none_over : (over : Bool) → t.over ≡ over → 0 < length rest → over ≡ false
  unfolding role_format
  none_over false e h = refl
  none_over true e h = absurd (go rest h (ap (λ (b : Bool). read_on (role_format 2) (suc t.fuel) b t.loading rest) (sym e) ∙ t.same))
    where
      go : (l : List ℕ) → 0 < length l → read_on (role_format 2) (suc t.fuel) true t.loading l ≡ accepted t.last → ⊥
      go [] h k = omega arith
      go (b ∷ bs) h k = false≢true (ap is_accepted k)

  going : 0 < length rest → read_on (role_format 2) (suc t.fuel) false t.loading rest ≡ accepted t.last
  going h = ap (λ (b : Bool). read_on (role_format 2) (suc t.fuel) b t.loading rest) (sym (none_over t.over refl h)) ∙ t.same

  no_refusal : (e : Refusal) → 0 < length rest → decoded_of rest ≡ Err e → ⊥
  no_refusal e h d = false≢true (ap is_accepted (sym (turn-refused t.fuel t.loading rest e d) ∙ going h))

  one_more_lem : (c : Command) (w : ℕ) → decoded_of rest ≡ Ok (c, w) → State (drop w rest) F (roles_after c roles) (lines_after c lines)
  one_more_lem c w e = go (obey_role 2 t.loading (meaning c)) (obeyed t.loading c t.sized t.unread) (sym front.turned ∙ going some)
    where
      front : Front t.fuel t.loading rest c w
      front = turn-whole t.fuel t.loading rest c w e

      some : 0 < length rest
      some = let a = front.some_bytes in let b = front.inside in omega arith

      step : (n : ℕ) → t.fuel ≡ n → (M : Loading) → After t.loading c M → read_on (role_format 2) t.fuel (is_end (meaning c)) M (drop w rest) ≡ accepted t.last
          → State (drop w rest) F (roles_after c roles) (lines_after c lines)
      step zero z M a k = let x = some in let y = t.enough in absurd (omega arith)
      step (suc n) z M a k =
          let x = front.some_bytes in
          let y = t.enough in
          let d = length-drop w rest in
          record {
            loading = M;
            last = t.last;
            over = is_end (meaning c);
            fuel = n;
            enough = omega arith;
            sized = a.sized;
            unread = λ y. absurd (a.begun y);
            roled = ap (roles_after c) (t.roled ∙ sym (roles-shown t.loading.policy)) ∙ sym (roles-so (record_so_far t.loading.policy) c) ∙ ap (λ (f : RoleFile). f.roles) a.shows ∙ roles-shown M.policy;
            lined = ap (lines_after c) (t.lined ∙ sym (lines-shown t.loading.policy)) ∙ sym (lines-so (record_so_far t.loading.policy).attributes (record_so_far t.loading.policy) c a.bounded) ∙ ap (λ (f : RoleFile). f.lines) a.shows ∙ lines-shown M.policy;
            ends = t.ends;
            same = ap (λ (m : ℕ). read_on (role_format 2) m (is_end (meaning c)) M (drop w rest)) (sym z) ∙ k;
          }

      go : (r : Answer Loading) → Carries (After t.loading c) r → and_then r (follow (role_format 2) (is_end (meaning c)) t.fuel (drop w rest)) ≡ accepted t.last
          → State (drop w rest) F (roles_after c roles) (lines_after c lines)
      go (refused d) a k = absurd (false≢true (ap is_accepted k))
      go (accepted M) a k = step t.fuel refl M a k

  at-end : length rest ≡ 0 → (roles ≡ F.roles) × (lines ≡ line_table F)
  unfolding role_format
  at-end z = go rest z t.over t.same
    where
      done : t.loading ≡ t.last → (roles ≡ F.roles) × (lines ≡ line_table F)
      done e = let p : t.loading.policy ≡ F = ap (λ (l : Loading). l.policy) e ∙ t.ends in (t.roled ∙ ap (λ (P : Policy). P.roles) p, t.lined ∙ ap line_table p)

      go : (l : List ℕ) → length l ≡ 0 → (b : Bool) → read_on (role_format 2) (suc t.fuel) b t.loading l ≡ accepted t.last → (roles ≡ F.roles) × (lines ≡ line_table F)
      go [] z true k = done cc
      go [] z false k = absurd (false≢true (ap is_accepted k))
      go (b ∷ bs) z o k = absurd (omega arith)

-- ---- as the loop has it

module _ (file rest : List ℕ) (roles : ℕ) (lines : List ℕ) (t : Reached file rest roles lines) where
  pub collect_on : (c : Command) (w : ℕ) → decoded_of rest ≡ Ok (c, w) → (r : ℕ) (l : List ℕ) → r ≡ roles_after c roles → l ≡ lines_after c lines → Reached file (take (length rest - w) (drop w rest)) r l
  collect_on c w e r l p q F k =
      subst (λ (s : List ℕ). State s F r l) (sym (tail w rest)) (subst (λ (n : ℕ). State (drop w rest) F n l) (sym p) (subst (λ (s : List ℕ). State (drop w rest) F (roles_after c roles) s) (sym q) (one_more_lem rest F roles lines (t F k) c w e)))

  -- no command is refused where bytes are left, so they are all read
  pub collect_end : (e : Refusal) → decoded_of rest ≡ Err e → Collected file roles lines
  collect_end e d F k = at-end rest F roles lines (t F k) (elim (dec_lt 0 (length rest)) [ yes p ↦ absurd (no_refusal rest F roles lines (t F k) e p d) | no q ↦ omega arith ])

-- a whole command takes some bytes, and not more than there are
pub whole-some : (rest : List ℕ) (c : Command) (w : ℕ) → decoded_of rest ≡ Ok (c, w) → 0 < w
whole-some rest c w e = (turn-whole 0 fresh rest c w e).some_bytes

pub whole-inside : (rest : List ℕ) (c : Command) (w : ℕ) → decoded_of rest ≡ Ok (c, w) → w ≤ length rest
whole-inside rest c w e = (turn-whole 0 fresh rest c w e).inside
