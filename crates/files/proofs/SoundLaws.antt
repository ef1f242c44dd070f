-- What holds of every role file that is accepted: its sizes, its values and all it says lie within the limits.
-- Assumes nothing.
use Rattle.std.specs.Prelude.{ℕ, suc, ◌*◌, ◌^◌, ◌≤◌, ◌<◌, eqb, length, get_or, Bool, ◌&&◌, List, [], ◌∷◌, ◌++◌, ◌⊎◌, ◌≡◌, refl}
use borrow.Author.Tests.{eqb-true, ltb-true, lt-ltb, leb-true}
use Rattle.std.proofs.Math.Dec.{ltb, leb}
use Rattle.std.proofs.Math.ListN.{set, get_or-append}
use Rattle.std.proofs.Math.Bool.{true, false, cond, not}
use Rattle.std.proofs.lemmas.Bool.{false≢true}
use Rattle.std.proofs.Common.{inl, inr, sym, ap, ◌∙◌}
use Rattle.std.proofs.Math.Option.{Option, none, some}
use Rattle.std.proofs.Math.Nat.{pow-le-pow_right}
use native.Mathlib.Omega.{arith}
use Rattle.files.specs.Answer.{Answer, and_then, too_long, out_of_place, beyond, wrong_kind, own_senior, accepted}
use Rattle.files.specs.Bytes.{read}
use Rattle.files.proofs.BytesLaws.{Fit, Bytes, Carries, unless_carries, then_carries, read_keeps}
use Rattle.files.proofs.LineLaws.{same-side}
use Rattle.files.specs.RoleFile.{RoleCommand, role_widths, role_command, Phase, Loading, blank_table, blank, side_by, same_side, with_table, with_kind, with_value, with_assigned, with_permitted, with_line, is_nothing, is_declaring, enter, take_kind, take_value, take_assignment, take_permission, take_line, fresh, settle, take_sizes, obey_role, role_format, read_roles, read_commands, sizes, declare, give, assign, permit, line, end, declaring, telling}
use Rattle.files.specs.RuleFile.{own_value, value}
use Rattle.files.proofs.WriteLaws.{Encodable}
use Rattle.policy.specs.Policy.{Table, Policy, kind_of, circular, held, roles_of, is_set_at, value_at, side_of, setting_of, roles_in}
use Rattle.policy.proofs.PolicyLaws.{owned}
use Rattle.policy.specs.Rules.{own, Which, by, user, resource}
use Rattle.sets.specs.ListLaws.{length_last}
use Rattle.sets.specs.MaskLaws.{mask_lt}
use Rattle.sets.specs.Sets.{mask_of}
use Rattle.sets.specs.Tests.{Is, iff, is_some}
use Rattle.sets.specs.TestLaws.{and_l, and_r, or_out, test, iff-out, and_three}

-- one side's table
pub record SoundTable (t : Table) : Type 0 where
  pub many : t.count ≤ 64
  pub declared : length t.kinds ≤ 6
  -- values belong to attributes that are declared, and have room in their width
  pub values : (a x v : ℕ) → t.value a x ≡ some v → (a < length t.kinds) × (v < 256 ^ cond (kind_of t a) 8 2)

-- W bytes for a set of operations
pub record Sound (W : ℕ) (F : Policy) : Type 0 where
  pub tables : (w : Which) → SoundTable (F.table w)
  pub operable : F.operations ≤ 8 * W
  pub few : F.roles ≤ 32
  -- assignments, permissions and lines are between roles, users, resources and operations that there are
  pub assignments : (k u : ℕ) → Is (F.assigned k u) → (k < F.roles) × (u < (F.table user).count)
  pub permissions : (k r o : ℕ) → Is (F.permitted k r o) → (k < F.roles) × (r < (F.table resource).count) × (o < F.operations)
  pub lines : (j s : ℕ) → Is (F.line j s) → (j < F.roles) × (s < F.roles)

-- ---- the pieces that reading adds

blank-table : (n : ℕ) → n ≤ 64 → SoundTable (blank_table n)
blank-table n h = record { many = h; declared = omega arith; values = λ a x v e. absurd (false≢true (ap is_some e)) }

blank-sound : (W u r o k : ℕ) → u ≤ 64 → r ≤ 64 → o ≤ 8 * W → k ≤ 32 → Sound W (blank u r o k)
unfolding blank
blank-sound W u r o k hu hr ho hk = record {
  tables = sides;
  operable = ho;
  few = hk;
  assignments = λ k u h. absurd (false≢true h);
  permissions = λ k r o h. absurd (false≢true h);
  lines = λ j s h. absurd (false≢true h);
}
  where
    sides : (w : Which) → SoundTable (blank_table (by w u r))
    sides user = blank-table u hu
    sides resource = blank-table r hr

-- another table of the same size on one side
table-sound : (W : ℕ) (F : Policy) (s : Which) (t : Table) → Sound W F → SoundTable t → t.count ≡ (F.table s).count → Sound W (with_table F s t)
unfolding with_table
table-sound W F s t S T e = record {
  tables = λ w. sides (same_side w s) (S.tables w);
  operable = S.operable;
  few = S.few;
  assignments = λ k u h. let p = S.assignments k u h in (p.0, rw (sizes-same user) p.1);
  permissions = λ k r o h. let p = S.permissions k r o h in (p.0, rw (sizes-same resource) p.1, p.2);
  lines = S.lines;
}
  where
    sides : {q : Table} (b : Bool) → SoundTable q → SoundTable (cond b t q)
    sides true k = T
    sides false k = k

    sizes-same : (w : Which) → (cond (same_side w s) t (F.table w)).count ≡ (F.table w).count
    sizes-same w = test (same_side w s) (λ h. rw h (e ∙ ap (λ (x : Which). (F.table x).count) (sym (same-side w s h)))) (λ h. rw h refl)

kind_sound : (W : ℕ) (F : Policy) (s : Which) (k : Bool) (d : ℕ) → Sound W F → length (F.table s).kinds < 6 → Sound W (with_kind F s k d)
unfolding with_kind
kind_sound W F s k d S h =
    table-sound W F s (record { count = (F.table s).count; kinds = (F.table s).kinds ++ (k ∷ []); domain = λ a. cond (eqb a (length (F.table s).kinds)) d ((F.table s).domain a); value = (F.table s).value }) S
    (record {
      many = (S.tables s).many;
      declared = let e = length_last (F.table s).kinds k in omega arith;
      values = λ a x v e.
          let p = (S.tables s).values a x v e in
          let q = length_last (F.table s).kinds k in
          (omega (arith, p.0), rw (get_or-append (F.table s).kinds (k ∷ []) false a p.0) p.1);
    })
    refl

value-sound : (W : ℕ) (F : Policy) (s : Which) (a x v : ℕ) → Sound W F → a < length (F.table s).kinds → v < 256 ^ cond (kind_of (F.table s) a) 8 2 → Sound W (with_value F s a x v)
unfolding with_value
value-sound W F s a x v S h k =
    table-sound W F s
    (record {
      count = (F.table s).count;
      kinds = (F.table s).kinds;
      domain = (F.table s).domain;
      value = λ b y. cond (eqb b a && eqb y x) (some v) ((F.table s).value b y);
    })
    S
    (record {
      many = (S.tables s).many;
      declared = (S.tables s).declared;
      values = λ b y n. given b y n (eqb b a && eqb y x) refl;
    })
    refl
  where
    given : (b y n : ℕ) (c : Bool) → (eqb b a && eqb y x) ≡ c → cond c (some v) ((F.table s).value b y) ≡ some n → (b < length (F.table s).kinds) × (n < 256 ^ cond (kind_of (F.table s) b) 8 2)
    given b y n true q e =
        let p : b ≡ a = eqb-true b a (and_l (eqb b a) (eqb y x) q) in
        let d : v ≡ n = cc in
        rw (p, ← d) (h, k)
    given b y n false q e = (S.tables s).values b y n e

assigned-sound : (W : ℕ) (F : Policy) (k u : ℕ) → Sound W F → k < F.roles → u < (F.table user).count → Sound W (with_assigned F k u)
unfolding with_assigned
assigned-sound W F k u S hk hu = record {
  tables = S.tables;
  operable = S.operable;
  few = S.few;
  assignments = λ j v h. go j v (or_out (eqb j k && eqb v u) (F.assigned j v) h);
  permissions = S.permissions;
  lines = S.lines;
}
  where
    go : (j v : ℕ) → Is (eqb j k && eqb v u) ⊎ Is (F.assigned j v) → (j < F.roles) × (v < (F.table user).count)
    go j v (inl h) = rw (eqb-true j k (and_l (eqb j k) (eqb v u) h), eqb-true v u (and_r (eqb j k) (eqb v u) h)) (hk, hu)
    go j v (inr h) = S.assignments j v h

permitted-sound : (W : ℕ) (F : Policy) (k r o : ℕ) → Sound W F → k < F.roles → r < (F.table resource).count → o < F.operations → Sound W (with_permitted F k r o)
unfolding with_permitted
permitted-sound W F k r o S hk hr ho = record {
  tables = S.tables;
  operable = S.operable;
  few = S.few;
  assignments = S.assignments;
  permissions = λ j q p h. go j q p (or_out (eqb j k && (eqb q r && eqb p o)) (F.permitted j q p) h);
  lines = S.lines;
}
  where
    go : (j q p : ℕ) → Is (eqb j k && (eqb q r && eqb p o)) ⊎ Is (F.permitted j q p) → (j < F.roles) × (q < (F.table resource).count) × (p < F.operations)
    go j q p (inl h) =
        let d = and_r (eqb j k) (eqb q r && eqb p o) h in
        rw (eqb-true j k (and_l (eqb j k) (eqb q r && eqb p o) h), eqb-true q r (and_l (eqb q r) (eqb p o) d), eqb-true p o (and_r (eqb q r) (eqb p o) d)) (hk, hr, ho)
    go j q p (inr h) = S.permissions j q p h

line-sound : (W : ℕ) (F : Policy) (j k : ℕ) → Sound W F → j < F.roles → k < F.roles → Sound W (with_line F j k)
unfolding with_line
line-sound W F j k S hj hk = record {
  tables = S.tables;
  operable = S.operable;
  few = S.few;
  assignments = S.assignments;
  permissions = S.permissions;
  lines = λ i s h. go i s (or_out (eqb i j && eqb s k) (F.line i s) h);
}
  where
    go : (i s : ℕ) → Is (eqb i j && eqb s k) ⊎ Is (F.line i s) → (i < F.roles) × (s < F.roles)
    go i s (inl h) = rw (eqb-true i j (and_l (eqb i j) (eqb s k) h), eqb-true s k (and_r (eqb i j) (eqb s k) h)) (hj, hk)
    go i s (inr h) = S.lines i s h

-- ---- reading

-- a value that was read has room in its width
abbrev Told : RoleCommand → Type 0
Told (sizes u r o k) = Unit {0}
Told (declare side kind domain) = Unit {0}
Told (give set side a x v) = v < 256 ^ cond set 8 2
Told (assign k u) = Unit {0}
Told (permit k r o) = Unit {0}
Told (line j k) = Unit {0}
Told end = Unit {0}

-- the widths may be unknown
abbrev FitOr : Option (List ℕ) → List ℕ → Type 0
FitOr none xs = Unit {0}
FitOr (some ws) xs = Fit ws xs

fourth : (w : ℕ) (xs : List ℕ) → Fit (1 ∷ 1 ∷ 1 ∷ w ∷ []) xs → get_or xs 3 0 < 256 ^ w
fourth w [] h = absurd h
fourth w (a ∷ []) h = absurd h.1
fourth w (a ∷ b ∷ []) h = absurd h.1.1
fourth w (a ∷ b ∷ c ∷ []) h = absurd h.1.1.1
fourth w (a ∷ b ∷ c ∷ d ∷ xs) h = h.1.1.1.0

told : (b : ℕ) (xs : List ℕ) → FitOr (role_widths b) xs → Told (role_command b xs)
told b xs = go (eqb b 1) (eqb b 2) (eqb b 3) (eqb b 4) (eqb b 5) (eqb b 6) (eqb b 7) (eqb b 8) (eqb b 15)
  where
    go : (b1 b2 b3 b4 b5 b6 b7 b8 b15 : Bool)
        → FitOr (cond b1 (some (1 ∷ 1 ∷ 1 ∷ 1 ∷ [])) (cond b2 (some (1 ∷ 1 ∷ [])) (cond b3 (some (1 ∷ 1 ∷ 1 ∷ 2 ∷ [])) (cond b4 (some (1 ∷ 1 ∷ 1 ∷ 8 ∷ [])) (cond b5 (some (1 ∷ 1 ∷ [])) (cond b6 (some (1 ∷ 1 ∷ 1 ∷ [])) (cond b7 (some (1 ∷ 1 ∷ [])) (cond b8 (some (1 ∷ 1 ∷ 1 ∷ [])) (cond b15 (some []) none))))))))) xs
        → Told (cond b1 (sizes (get_or xs 0 0) (get_or xs 1 0) (get_or xs 2 0) (get_or xs 3 0)) (cond b2 (declare (get_or xs 0 0) (get_or xs 1 0) 0) (cond b3 (give false (get_or xs 0 0) (get_or xs 1 0) (get_or xs 2 0) (get_or xs 3 0)) (cond b4 (give true (get_or xs 0 0) (get_or xs 1 0) (get_or xs 2 0) (get_or xs 3 0)) (cond b5 (assign (get_or xs 0 0) (get_or xs 1 0)) (cond b6 (permit (get_or xs 0 0) (get_or xs 1 0) (get_or xs 2 0)) (cond b7 (line (get_or xs 0 0) (get_or xs 1 0)) (cond b8 (declare (get_or xs 0 0) (get_or xs 1 0) (get_or xs 2 0)) end))))))))
    go true b2 b3 b4 b5 b6 b7 b8 b15 h = tt
    go false true b3 b4 b5 b6 b7 b8 b15 h = tt
    go false false true b4 b5 b6 b7 b8 b15 h = fourth 2 xs h
    go false false false true b5 b6 b7 b8 b15 h = fourth 8 xs h
    go false false false false true b6 b7 b8 b15 h = tt
    go false false false false false true b7 b8 b15 h = tt
    go false false false false false false true b8 b15 h = tt
    go false false false false false false false true b15 h = tt
    go false false false false false false false false b15 h = tt

module _ (W : ℕ) where
  abbrev SoundSoFar : Loading → Type 0
  SoundSoFar s = Sound W s.policy

  enter-sound : (place : Bool) (phase : Phase) (r : Answer Policy) → Carries (Sound W) r → Carries SoundSoFar (enter place phase r)
  enter-sound place phase r h =
      unless_carries SoundSoFar place out_of_place (and_then r (λ F. accepted (record { phase = phase; policy = F }))) λ p.
      then_carries (Sound W) SoundSoFar r (λ F. accepted (record { phase = phase; policy = F })) h (λ F k. k)

  sizes-taken : (u r o k : ℕ) → Carries (Sound W) (take_sizes W u r o k)
  unfolding take_sizes
  sizes-taken u r o k =
      unless_carries (Sound W) (leb u 64 && leb r 64 && leb o (8 * W) && leb k 32) beyond (accepted (blank u r o k)) λ q.
      let a = and_three (leb u 64) (leb r 64) (leb o (8 * W)) (and_l (leb u 64 && leb r 64 && leb o (8 * W)) (leb k 32) q) in
      blank-sound W u r o k (leb-true u 64 a.0) (leb-true r 64 a.1) (leb-true o (8 * W) a.2) (leb-true k 32 (and_r (leb u 64 && leb r 64 && leb o (8 * W)) (leb k 32) q))

  module _ (F : Policy) (S : Sound W F) where
    kind_taken : (side kind domain : ℕ) → Carries (Sound W) (take_kind F side kind domain)
    unfolding take_kind
    kind_taken side kind domain =
        unless_carries (Sound W) (ltb side 2 && ltb kind 2 && ltb (length (F.table (side_by side)).kinds) 6) beyond (accepted (with_kind F (side_by side) (eqb kind 1) domain)) λ q.
        let a = and_three (ltb side 2) (ltb kind 2) (ltb (length (F.table (side_by side)).kinds) 6) q in
        kind_sound W F (side_by side) (eqb kind 1) domain S (ltb-true (length (F.table (side_by side)).kinds) 6 a.2)

    value_taken : (set : Bool) (side a x v : ℕ) → v < 256 ^ cond set 8 2 → Carries (Sound W) (take_value F set side a x v)
    unfolding take_value
    value_taken set side a x v t =
        let T = F.table (side_by side) in
        unless_carries (Sound W) (ltb side 2 && ltb a (length T.kinds) && ltb x T.count) beyond _ λ p.
        unless_carries (Sound W) (iff (kind_of T a) set && not (is_some (T.value a x))) wrong_kind (accepted (with_value F (side_by side) a x v)) λ q.
        let k = and_three (ltb side 2) (ltb a (length T.kinds)) (ltb x T.count) p in
        let e = iff-out (kind_of T a) set (and_l (iff (kind_of T a) set) (not (is_some (T.value a x))) q) in
        value-sound W F (side_by side) a x v S (ltb-true a (length T.kinds) k.1) (rw e t)

    assignment-taken : (k u : ℕ) → Carries (Sound W) (take_assignment F k u)
    unfolding take_assignment
    assignment-taken k u =
        unless_carries (Sound W) (ltb k F.roles && ltb u (F.table user).count) beyond (accepted (with_assigned F k u)) λ p.
        assigned-sound W F k u S (ltb-true k F.roles (and_l (ltb k F.roles) (ltb u (F.table user).count) p)) (ltb-true u (F.table user).count (and_r (ltb k F.roles) (ltb u (F.table user).count) p))

    permission_taken : (k r o : ℕ) → Carries (Sound W) (take_permission F k r o)
    unfolding take_permission
    permission_taken k r o =
        unless_carries (Sound W) (ltb k F.roles && ltb r (F.table resource).count && ltb o F.operations) beyond (accepted (with_permitted F k r o)) λ p.
        let a = and_three (ltb k F.roles) (ltb r (F.table resource).count) (ltb o F.operations) p in
        permitted-sound W F k r o S (ltb-true k F.roles a.0) (ltb-true r (F.table resource).count a.1) (ltb-true o F.operations a.2)

    line_taken : (j k : ℕ) → Carries (Sound W) (take_line F j k)
    unfolding take_line
    line_taken j k =
        unless_carries (Sound W) (ltb j F.roles && ltb k F.roles) beyond (accepted (with_line F j k)) λ p.
        line-sound W F j k S (ltb-true j F.roles (and_l (ltb j F.roles) (ltb k F.roles) p)) (ltb-true k F.roles (and_r (ltb j F.roles) (ltb k F.roles) p))

  obey-sound : (s : Loading) (c : RoleCommand) → Told c → SoundSoFar s → Carries SoundSoFar (obey_role W s c)
  unfolding obey_role
  obey-sound s (sizes u r o k) t S = enter-sound (is_nothing s.phase) declaring (take_sizes W u r o k) (sizes-taken u r o k)
  obey-sound s (declare side kind domain) t S = enter-sound (is_declaring s.phase) declaring (take_kind s.policy side kind domain) (kind_taken s.policy S side kind domain)
  obey-sound s (give set side a x v) t S = enter-sound (not (is_nothing s.phase)) telling (take_value s.policy set side a x v) (value_taken s.policy S set side a x v t)
  obey-sound s (assign k u) t S = enter-sound (not (is_nothing s.phase)) telling (take_assignment s.policy k u) (assignment-taken s.policy S k u)
  obey-sound s (permit k r o) t S = enter-sound (not (is_nothing s.phase)) telling (take_permission s.policy k r o) (permission_taken s.policy S k r o)
  obey-sound s (line j k) t S = enter-sound (not (is_nothing s.phase)) telling (take_line s.policy j k) (line_taken s.policy S j k)
  obey-sound s end t S = enter-sound (not (is_nothing s.phase)) telling (accepted s.policy) S

  all-obeyed : (bytes : List ℕ) → Bytes bytes → Carries SoundSoFar (read (role_format W) fresh bytes)
  unfolding role_format
  all-obeyed bytes h =
      read_keeps (role_format W) SoundSoFar (λ s b ws xs e f S. obey-sound s (role_command b xs) (told b xs (rw e f)) S) (suc (length bytes)) false fresh bytes h
      (blank-sound W 0 0 0 0 (omega arith) (omega arith) (omega arith) (omega arith))

  -- THE LAW: an accepted role file keeps to the limits
  pub read-sound : (bytes : List ℕ) → Bytes bytes → Carries (Sound W) (read_roles W bytes)
  unfolding read_roles
  read-sound bytes h =
      unless_carries (Sound W) (leb (length bytes) 65535) too_long (and_then (read (role_format W) fresh bytes) settle) λ p.
      then_carries SoundSoFar (Sound W) (read (role_format W) fresh bytes) settle (all-obeyed bytes h)
      λ s S. unless_carries (Sound W) (not (circular s.policy)) own_senior (accepted s.policy) λ q. S

  -- and so does one of which no command is refused
  pub commands_sound : (bytes : List ℕ) → Bytes bytes → Carries (Sound W) (read_commands W bytes)
  unfolding read_commands
  commands_sound bytes h =
      unless_carries (Sound W) (leb (length bytes) 65535) too_long (and_then (read (role_format W) fresh bytes) (λ s. accepted s.policy)) λ p.
      then_carries SoundSoFar (Sound W) (read (role_format W) fresh bytes) (λ s. accepted s.policy) (all-obeyed bytes h) λ s S. S

-- ---- an accepted role file's rules can be written

module _ (W : ℕ) (F : Policy) (S : Sound W F) where
  -- a value of a 255
  own_value_lem : (w : Which) (x v : ℕ) → some (by w (roles_of F x) x) ≡ some v → v ≡ by w (roles_of F x) x
  own_value_lem w x v e = cc

  own_room : (w : Which) (x : ℕ) → x < (F.table w).count → by w (roles_of F x) x < 256 ^ cond (by w true false) 8 2
  unfolding roles_of
  own_room user x l =
      let a = mask_lt F.roles (λ k. held F k x) in
      let b = pow-le-pow_right {n = 2} (omega arith) S.few in
      omega arith
  own_room resource x l = let a = (S.tables resource).many in omega arith

  own-legal : (w : Which) (x : ℕ) → x < (F.table w).count → Is (own_value (setting_of F) (roles_in F) w (by w true false) (by w (roles_of F x) x))
  unfolding setting_of side_of roles_in roles_of
  own-legal user x l = lt-ltb (mask_of F.roles (λ k. held F k x)) (2 ^ F.roles) (mask_lt F.roles (λ k. held F k x))
  own-legal resource x l = lt-ltb x (F.table resource).count l

  pub encodable : Encodable W (setting_of F) (roles_in F)
  unfolding setting_of side_of is_set_at value_at roles_in
  encodable = record {
    numbered = λ w. let h = (S.tables w).declared in omega arith;
    sized = λ w a x v l e. room w a x v l (eqb a own) e;
    owned = λ w x v l e. let d = own_value_lem w x v e in rw d (own-legal w x l);
    narrow = S.operable;
    few = let h = S.few in omega arith;
  }
    where
      room : (w : Which) (a x v : ℕ) → x < (F.table w).count → (b : Bool) → cond b (some (by w (roles_of F x) x)) ((F.table w).value a x) ≡ some v → v < 256 ^ cond (cond b (by w true false) (kind_of (F.table w) a)) 8 2
      room w a x v l true e = let d = own_value_lem w x v e in rw d (own_room w x l)
      room w a x v l false e = ((S.tables w).values a x v e).1
