-- Reading on from any place gives what the whole file gives: the state of the reader's loop.
-- Assumes nothing.
use Rattle.std.specs.Prelude.{ℕ, zero, suc, ◌≤◌, ◌<◌, ◌+◌, ◌*◌, leb, length, set, Bool, true, false, ◌&&◌, ◌||◌, ◌⊎◌, ◌≡◌}
use borrow.Author.Tests.{eqb-true, ltb-true, leb-true}
use Rattle.std.proofs.Math.Dec.{eqb, ltb}
use Rattle.std.proofs.Math.ListN.{get_or}
use Rattle.std.proofs.Math.Bool.{cond, not}
use Rattle.std.proofs.lemmas.Bool.{false≢true}
use mathlib.Core.List.{List, [], ◌∷◌, ◌++◌}
use Rattle.std.proofs.Common.{inl, inr, sym, ◌∙◌}
use Rattle.std.proofs.Math.Option.{some}
use Rattle.std.proofs.Math.Path.{refl, ap, ap₂, subst}
use native.Mathlib.Omega.{arith}
use Rattle.role_admit.specs.AdmitLaws.{phase_of, side-attributes}
use Rattle.role_record.specs.Cells.{most_operations}
use Rattle.role_record.specs.Record.{Sized, known_table, value_table, assigned_table, line_table, permission_table, attribute_table, kind_table, domain_table, record_with, record_so_far, set_kinds, set_values, set_assigned, set_lines, set_permissions}
use Rattle.role_commands.specs.DecodeLaws.{meaning}
use Rattle.files.specs.Answer.{Answer, unless, and_then, out_of_place, beyond, wrong_kind, accepted}
use Rattle.files.proofs.BytesLaws.{Carries, unless_carries, then_carries}
use Rattle.files.proofs.LineLaws.{same-side}
use Rattle.files.specs.RoleFile.{Phase, Loading, blank, side_by, same_side, with_table, with_kind, with_value, with_assigned, with_permitted, with_line, is_nothing, is_declaring, enter, take_kind, take_value, take_assignment, take_permission, take_line, take_sizes, obey_role, nothing, declaring, telling, is_end}
use Rattle.role_record.specs.RecordLaws.{assigned-marked, line_marked, permission_marked, known-marked, value-stored, kind_marked, attribute-counted, kind_values, domain-stored, value_domains}
use Rattle.policy.specs.Policy.{Table, Policy, kind_of}
use Rattle.policy.specs.Rules.{Which, by, user, resource}
use Rattle.role_store.specs.Storing.{Bounded, phase_after, stored_by}
use Rattle.sets.specs.ListLaws.{length_last}
use Rattle.sets.specs.Tests.{Is, iff, is_some}
use Rattle.sets.specs.TestLaws.{and_l, and_r, or_out, and_three}
use Rattle.role_commands.specs.declared.Command.{Command}
use Rattle.role_commands.specs.declared.Command.TheVariants.{Sizes, Declare, Give, Assign, Permit, Line, End}

-- ---- what an obeyed command leaves

pub record After (L : Loading) (c : Command) (M : Loading) : Type 0 where
  pub bounded : Bounded (record_so_far L.policy).attributes c
  pub shows : stored_by (record_so_far L.policy) c ≡ record_so_far M.policy
  pub sized : Sized M.policy
  pub phased : is_end (meaning c) ≡ false → phase_of M.phase ≡ phase_after c
  pub begun : M.phase ≡ nothing → ⊥

entered : (L : Loading) (c : Command) (place : Bool) (ph : Phase) (r : Answer Policy) → (is_end (meaning c) ≡ false → phase_of ph ≡ phase_after c) → (ph ≡ nothing → ⊥)
    → (Is place → Carries (λ F. (Bounded (record_so_far L.policy).attributes c) × (stored_by (record_so_far L.policy) c ≡ record_so_far F) × Sized F) r) → Carries (After L c) (enter place ph r)
entered L c place ph r e b h =
    unless_carries (After L c) place out_of_place (and_then r (λ F. accepted (record { phase = ph; policy = F }))) λ p.
    then_carries (λ F. (Bounded (record_so_far L.policy).attributes c) × (stored_by (record_so_far L.policy) c ≡ record_so_far F) × Sized F) (After L c) r (λ F. accepted (record { phase = ph; policy = F })) (h p)
    (λ F k. record { bounded = k.0; shows = k.1; sized = k.2; phased = e; begun = b })

-- phases after the first
later : {ph : Phase} → is_nothing ph ≡ false → ph ≡ nothing → ⊥
later h e = false≢true (sym h ∙ ap is_nothing e)

nothing_yet : (ph : Phase) → Is (is_nothing ph) → ph ≡ nothing
nothing_yet nothing h = refl
nothing_yet declaring h = absurd (false≢true h)
nothing_yet telling h = absurd (false≢true h)

blank-shows : (u r o k : ℕ) → stored_by (record_so_far (blank 0 0 0 0)) (Sizes u r o k) ≡ record_so_far (blank u r o k)
unfolding stored_by record_so_far record_with attribute_table kind_table domain_table known_table value_table assigned_table line_table permission_table blank
blank-shows u r o k = refl

pub blank-sized : (u r o k : ℕ) → u ≤ 64 → r ≤ 64 → o ≤ 16 → k ≤ 32 → Sized (blank u r o k)
unfolding blank
blank-sized u r o k hu hr ho hk = record { many = sides; declared = λ w. omega arith; operable = ho; few = hk; lined = λ i j h. absurd (false≢true h); assigned-to = λ k u h. absurd (false≢true h); permits = λ k r o h. absurd (false≢true h) }
  where
    sides : (w : Which) → by w u r ≤ 64
    sides user = hu
    sides resource = hr

-- a table of the same size on one side
table-sized : (F : Policy) (s : Which) (t : Table) → Sized F → t.count ≡ (F.table s).count → length t.kinds ≤ 6 → Sized (with_table F s t)
unfolding with_table
table-sized F s t Z e h = record {
  many = λ w. go w (same_side w s) refl;
  declared = λ w. kinds w (same_side w s);
  operable = Z.operable;
  few = Z.few;
  lined = Z.lined;
  assigned-to = λ k u p. let q = Z.assigned-to k u p in (q.0, subst (λ (n : ℕ). u < n) (sym (counted user (same_side user s) refl)) q.1);
  permits = λ k r o p. let q = Z.permits k r o p in (q.0, subst (λ (n : ℕ). r < n) (sym (counted resource (same_side resource s) refl)) q.1, q.2);
}
  where
    go : (w : Which) (b : Bool) → same_side w s ≡ b → (cond b t (F.table w)).count ≤ 64
    go w true p = let m = Z.many s in omega arith
    go w false p = Z.many w

    counted : (w : Which) (b : Bool) → same_side w s ≡ b → (cond b t (F.table w)).count ≡ (F.table w).count
    counted w true p = e ∙ ap (λ (x : Which). (F.table x).count) (sym (same-side w s p))
    counted w false p = refl

    kinds : (w : Which) (b : Bool) → length (cond b t (F.table w)).kinds ≤ 6
    kinds w true = h
    kinds w false = Z.declared w

-- the fields that a command leaves alone
declared_else : (F : Policy) (side : ℕ) (k : Bool) (d : ℕ) → side < 2
    → set_values (set_kinds (record_so_far F) (attribute_table (with_kind F (side_by side) k d)) (kind_table (with_kind F (side_by side) k d)) (domain_table (with_kind F (side_by side) k d))) (known_table (with_kind F (side_by side) k d)) (value_table (with_kind F (side_by side) k d))
    ≡ record_so_far (with_kind F (side_by side) k d)
unfolding record_so_far record_with with_kind with_table assigned_table line_table permission_table
declared_else F zero k d h = refl
declared_else F (suc zero) k d h = refl
declared_else F (suc (suc n)) k d h = absurd (omega arith)

given_else : (F : Policy) (side a x v : ℕ) → side < 2 → set_values (record_so_far F) (known_table (with_value F (side_by side) a x v)) (value_table (with_value F (side_by side) a x v)) ≡ record_so_far (with_value F (side_by side) a x v)
unfolding record_so_far record_with with_value with_table attribute_table kind_table assigned_table line_table permission_table
given_else F side a x v h = ap (λ (d : List ℕ). set_values (set_kinds (record_so_far F) (attribute_table F) (kind_table F) d) (known_table (with_value F (side_by side) a x v)) (value_table (with_value F (side_by side) a x v))) (sym (value_domains F side a x v)) ∙ go side h
  where
    go : (s : ℕ) → s < 2
        → set_values (set_kinds (record_so_far F) (attribute_table F) (kind_table F) (domain_table (with_value F (side_by s) a x v))) (known_table (with_value F (side_by s) a x v)) (value_table (with_value F (side_by s) a x v)) ≡ record_so_far (with_value F (side_by s) a x v)
    go zero h = refl
    go (suc zero) h = refl
    go (suc (suc n)) h = absurd (omega arith)

assigned_else : (F : Policy) (k u : ℕ) → set_assigned (record_so_far F) (assigned_table (with_assigned F k u)) ≡ record_so_far (with_assigned F k u)
unfolding record_so_far record_with with_assigned attribute_table kind_table domain_table known_table value_table line_table permission_table
assigned_else F k u = refl

permitted_else : (F : Policy) (k r o : ℕ) → set_permissions (record_so_far F) (permission_table (with_permitted F k r o)) ≡ record_so_far (with_permitted F k r o)
unfolding record_so_far record_with with_permitted attribute_table kind_table domain_table known_table value_table assigned_table line_table
permitted_else F k r o = refl

line_else : (F : Policy) (j s : ℕ) → set_lines (record_so_far F) (line_table (with_line F j s)) ≡ record_so_far (with_line F j s)
unfolding record_so_far record_with with_line attribute_table kind_table domain_table known_table value_table assigned_table permission_table
line_else F j s = refl

module _ (F : Policy) where
  declare-shows : (side kind domain : ℕ) → side < 2 → get_or (attribute_table F) side 0 < 6 → stored_by (record_so_far F) (Declare side kind domain) ≡ record_so_far (with_kind F (side_by side) (eqb kind 1) domain)
  unfolding stored_by record_so_far record_with
  declare-shows side kind domain h n =
      ap₂ (λ (a k : List ℕ). set_kinds (record_so_far F) a k (set (domain_table F) (6 * side + get_or (attribute_table F) side 0) domain)) (attribute-counted F side (eqb kind 1) domain h) (kind_marked F side (eqb kind 1) domain h)
      ∙ ap (λ (d : List ℕ). set_kinds (record_so_far F) (attribute_table (with_kind F (side_by side) (eqb kind 1) domain)) (kind_table (with_kind F (side_by side) (eqb kind 1) domain)) d) (domain-stored F side (eqb kind 1) domain h n)
      ∙ ap₂ (λ (k v : List ℕ). set_values (set_kinds (record_so_far F) (attribute_table (with_kind F (side_by side) (eqb kind 1) domain)) (kind_table (with_kind F (side_by side) (eqb kind 1) domain)) (domain_table (with_kind F (side_by side) (eqb kind 1) domain))) k v)
      (sym (kind_values F side (eqb kind 1) domain).0) (sym (kind_values F side (eqb kind 1) domain).1)
      ∙ declared_else F side (eqb kind 1) domain h

  give-shows : (kind : Bool) (side a x v : ℕ) → side < 2 → a < 6 → x < 64 → stored_by (record_so_far F) (Give kind side a x v) ≡ record_so_far (with_value F (side_by side) a x v)
  unfolding stored_by record_so_far record_with
  give-shows kind side a x v hs ha hx =
      ap₂ (λ (k w : List ℕ). set_values (record_so_far F) k w) (known-marked F side a x v hs ha) (value-stored F side a x v hs ha hx) ∙ given_else F side a x v hs

  assign-shows : (k u : ℕ) → k < 32 → stored_by (record_so_far F) (Assign k u) ≡ record_so_far (with_assigned F k u)
  unfolding stored_by record_so_far record_with
  assign-shows k u h = ap (λ (l : List ℕ). set_assigned (record_so_far F) l) (assigned-marked F k u h) ∙ assigned_else F k u

  permit-shows : (k r o : ℕ) → k < 32 → o < most_operations → stored_by (record_so_far F) (Permit k r o) ≡ record_so_far (with_permitted F k r o)
  unfolding stored_by record_so_far record_with
  permit-shows k r o h l = ap (λ (t : List ℕ). set_permissions (record_so_far F) t) (permission_marked F k r o h l) ∙ permitted_else F k r o

  line-shows : (j s : ℕ) → j < 32 → stored_by (record_so_far F) (Line j s) ≡ record_so_far (with_line F j s)
  unfolding stored_by record_so_far record_with
  line-shows j s h = ap (λ (l : List ℕ). set_lines (record_so_far F) l) (line_marked F j s h) ∙ line_else F j s

-- what a command leaves of the policy F
abbrev Leaves : Policy → Command → Policy → Type 0
Leaves F c G = (Bounded (record_so_far F).attributes c) × (stored_by (record_so_far F) c ≡ record_so_far G) × Sized G

sizes_leave : (F : Policy) → F ≡ blank 0 0 0 0 → (u r o k : ℕ) → Carries (Leaves F (Sizes u r o k)) (take_sizes 2 u r o k)
unfolding take_sizes Bounded
sizes_leave F e u r o k =
    unless_carries (Leaves F (Sizes u r o k)) (leb u 64 && leb r 64 && leb o 16 && leb k 32) beyond (accepted (blank u r o k)) λ q.
    let a = and_three (leb u 64) (leb r 64) (leb o 16) (and_l (leb u 64 && leb r 64 && leb o 16) (leb k 32) q) in
    (tt, ap (λ (G : Policy). stored_by (record_so_far G) (Sizes u r o k)) e ∙ blank-shows u r o k, blank-sized u r o k (leb-true u 64 a.0) (leb-true r 64 a.1) (leb-true o 16 a.2) (leb-true k 32 (and_r (leb u 64 && leb r 64 && leb o 16) (leb k 32) q)))

module _ (F : Policy) (Z : Sized F) where
  kind_leaves : (side kind domain : ℕ) → Carries (Leaves F (Declare side kind domain)) (take_kind F side kind domain)
  unfolding take_kind Bounded record_so_far record_with with_kind
  kind_leaves side kind domain =
      unless_carries (Leaves F (Declare side kind domain)) (ltb side 2 && ltb kind 2 && ltb (length (F.table (side_by side)).kinds) 6) beyond (accepted (with_kind F (side_by side) (eqb kind 1) domain)) λ q.
      let a = and_three (ltb side 2) (ltb kind 2) (ltb (length (F.table (side_by side)).kinds) 6) q in
      let h = ltb-true side 2 a.0 in
      let n = ltb-true (length (F.table (side_by side)).kinds) 6 a.2 in
      ((h, subst (λ (x : ℕ). x < 6) (sym (side-attributes F side h)) n), declare-shows F side kind domain h (subst (λ (x : ℕ). x < 6) (sym (side-attributes F side h)) n), table-sized F (side_by side) (record { count = (F.table (side_by side)).count; kinds = (F.table (side_by side)).kinds ++ (eqb kind 1 ∷ []); domain = λ a. cond (eqb a (length (F.table (side_by side)).kinds)) domain ((F.table (side_by side)).domain a); value = (F.table (side_by side)).value }) Z refl (let e = length_last (F.table (side_by side)).kinds (eqb kind 1) in omega arith))

  value_leaves : (kind : Bool) (side a x v : ℕ) → Carries (Leaves F (Give kind side a x v)) (take_value F kind side a x v)
  unfolding take_value Bounded with_value
  value_leaves kind side a x v =
      unless_carries (Leaves F (Give kind side a x v)) (ltb side 2 && ltb a (length (F.table (side_by side)).kinds) && ltb x (F.table (side_by side)).count) beyond (unless (iff (kind_of (F.table (side_by side)) a) kind && not (is_some ((F.table (side_by side)).value a x))) wrong_kind (accepted (with_value F (side_by side) a x v))) λ p.
      unless_carries (Leaves F (Give kind side a x v)) (iff (kind_of (F.table (side_by side)) a) kind && not (is_some ((F.table (side_by side)).value a x))) wrong_kind (accepted (with_value F (side_by side) a x v)) λ q.
      let k = and_three (ltb side 2) (ltb a (length (F.table (side_by side)).kinds)) (ltb x (F.table (side_by side)).count) p in
      let hs = ltb-true side 2 k.0 in
      let la = ltb-true a (length (F.table (side_by side)).kinds) k.1 in
      let lx = ltb-true x (F.table (side_by side)).count k.2 in
      let n = Z.declared (side_by side) in
      let m = Z.many (side_by side) in
      let ha : a < 6 = omega arith in
      let hx : x < 64 = omega arith in
      ((hs, ha, hx), give-shows F kind side a x v hs ha hx, table-sized F (side_by side) (record { count = (F.table (side_by side)).count; kinds = (F.table (side_by side)).kinds; domain = (F.table (side_by side)).domain; value = λ b y. cond (eqb b a && eqb y x) (some v) ((F.table (side_by side)).value b y) }) Z refl n)

  assignment_leaves : (k u : ℕ) → Carries (Leaves F (Assign k u)) (take_assignment F k u)
  unfolding take_assignment Bounded with_assigned
  assignment_leaves k u =
      unless_carries (Leaves F (Assign k u)) (ltb k F.roles && ltb u (F.table user).count) beyond (accepted (with_assigned F k u)) λ p.
      let n = Z.few in
      let l = ltb-true k F.roles (and_l (ltb k F.roles) (ltb u (F.table user).count) p) in
      let h : k < 32 = omega arith in
      let lu = ltb-true u (F.table user).count (and_r (ltb k F.roles) (ltb u (F.table user).count) p) in
      (h, assign-shows F k u h, record { many = Z.many; declared = Z.declared; operable = Z.operable; few = Z.few; lined = Z.lined; assigned-to = more k u l lu; permits = Z.permits })
    where
      more : (k u : ℕ) → k < F.roles → u < (F.table user).count → (j v : ℕ) → Is ((eqb j k && eqb v u) || F.assigned j v) → (j < F.roles) × (v < (F.table user).count)
      more k u hk hu j v h = go (or_out (eqb j k && eqb v u) (F.assigned j v) h)
        where
          go : Is (eqb j k && eqb v u) ⊎ Is (F.assigned j v) → (j < F.roles) × (v < (F.table user).count)
          go (inl q) = let a = eqb-true j k (and_l (eqb j k) (eqb v u) q) in let b = eqb-true v u (and_r (eqb j k) (eqb v u) q) in (omega arith, omega arith)
          go (inr q) = Z.assigned-to j v q

  permission_leaves : (k r o : ℕ) → Carries (Leaves F (Permit k r o)) (take_permission F k r o)
  unfolding take_permission Bounded with_permitted
  permission_leaves k r o =
      unless_carries (Leaves F (Permit k r o)) (ltb k F.roles && ltb r (F.table resource).count && ltb o F.operations) beyond (accepted (with_permitted F k r o)) λ p.
      let a = and_three (ltb k F.roles) (ltb r (F.table resource).count) (ltb o F.operations) p in
      let n = Z.few in
      let m = Z.operable in
      let lk = ltb-true k F.roles a.0 in
      let lo = ltb-true o F.operations a.2 in
      let hk : k < 32 = omega arith in
      let ho : o < most_operations = omega arith in
      ((hk, ho), permit-shows F k r o hk ho, record { many = Z.many; declared = Z.declared; operable = Z.operable; few = Z.few; lined = Z.lined; assigned-to = Z.assigned-to; permits = more k r o lk (ltb-true r (F.table resource).count a.1) lo })
    where
      more : (k r o : ℕ) → k < F.roles → r < (F.table resource).count → o < F.operations → (j q v : ℕ) → Is ((eqb j k && (eqb q r && eqb v o)) || F.permitted j q v) → (j < F.roles) × (q < (F.table resource).count) × (v < F.operations)
      more k r o hk hr ho j q v h = go (or_out (eqb j k && (eqb q r && eqb v o)) (F.permitted j q v) h)
        where
          go : Is (eqb j k && (eqb q r && eqb v o)) ⊎ Is (F.permitted j q v) → (j < F.roles) × (q < (F.table resource).count) × (v < F.operations)
          go (inl x) =
              let d = and_r (eqb j k) (eqb q r && eqb v o) x in
              let a = eqb-true j k (and_l (eqb j k) (eqb q r && eqb v o) x) in
              let b = eqb-true q r (and_l (eqb q r) (eqb v o) d) in
              let c = eqb-true v o (and_r (eqb q r) (eqb v o) d) in
              (omega arith, omega arith, omega arith)
          go (inr x) = Z.permits j q v x

  line_leaves : (j s : ℕ) → Carries (Leaves F (Line j s)) (take_line F j s)
  unfolding take_line Bounded with_line
  line_leaves j s =
      unless_carries (Leaves F (Line j s)) (ltb j F.roles && ltb s F.roles) beyond (accepted (with_line F j s)) λ p.
      let n = Z.few in
      let l = ltb-true j F.roles (and_l (ltb j F.roles) (ltb s F.roles) p) in
      let h : j < 32 = omega arith in
      let ls = ltb-true s F.roles (and_r (ltb j F.roles) (ltb s F.roles) p) in
      (h, line-shows F j s h, record { many = Z.many; declared = Z.declared; operable = Z.operable; few = Z.few; lined = more j s l ls; assigned-to = Z.assigned-to; permits = Z.permits })
    where
      more : (j s : ℕ) → j < F.roles → s < F.roles → (i k : ℕ) → Is ((eqb i j && eqb k s) || F.line i k) → (i < F.roles) × (k < F.roles)
      more j s hj hs i k h = go (or_out (eqb i j && eqb k s) (F.line i k) h)
        where
          go : Is (eqb i j && eqb k s) ⊎ Is (F.line i k) → (i < F.roles) × (k < F.roles)
          go (inl q) = let a = eqb-true i j (and_l (eqb i j) (eqb k s) q) in let b = eqb-true k s (and_r (eqb i j) (eqb k s) q) in (omega arith, omega arith)
          go (inr q) = Z.lined i k q

-- an obeyed command: its operands, the record after it, the phase
pub obeyed : (L : Loading) (c : Command) → Sized L.policy → (L.phase ≡ nothing → L.policy ≡ blank 0 0 0 0) → Carries (After L c) (obey_role 2 L (meaning c))
unfolding obey_role Bounded record_so_far stored_by
obeyed L (Sizes u r o k) Z f = entered L (Sizes u r o k) (is_nothing L.phase) declaring (take_sizes 2 u r o k) (λ q. refl) (later refl) (λ p. sizes_leave L.policy (f (nothing_yet L.phase p)) u r o k)
obeyed L (Declare side kind domain) Z f = entered L (Declare side kind domain) (is_declaring L.phase) declaring (take_kind L.policy side kind domain) (λ q. refl) (later refl) (λ p. kind_leaves L.policy Z side kind domain)
obeyed L (Give kind side a x v) Z f = entered L (Give kind side a x v) (not (is_nothing L.phase)) telling (take_value L.policy kind side a x v) (λ q. refl) (later refl) (λ p. value_leaves L.policy Z kind side a x v)
obeyed L (Assign k u) Z f = entered L (Assign k u) (not (is_nothing L.phase)) telling (take_assignment L.policy k u) (λ q. refl) (later refl) (λ p. assignment_leaves L.policy Z k u)
obeyed L (Permit k r o) Z f = entered L (Permit k r o) (not (is_nothing L.phase)) telling (take_permission L.policy k r o) (λ q. refl) (later refl) (λ p. permission_leaves L.policy Z k r o)
obeyed L (Line j s) Z f = entered L (Line j s) (not (is_nothing L.phase)) telling (take_line L.policy j s) (λ q. refl) (later refl) (λ p. line_leaves L.policy Z j s)
obeyed L End Z f = entered L End (not (is_nothing L.phase)) telling (accepted L.policy) (λ q. absurd (false≢true (sym q))) (later refl) (λ p. (tt, refl, Z))
