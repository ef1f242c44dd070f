-- A rule's lines may be written, and list its parts and no others.
-- Assumes nothing.
use Rattle.std.specs.Prelude.{ℕ, zero, suc, ◌+◌, ◌*◌, ◌^◌, ◌≤◌, ◌<◌, ltb, length, set, Bool, false, ◌&&◌, ◌||◌, List, [], ◌∷◌, map, ◌⊎◌, ◌≡◌, refl}
use borrow.Author.Tests.{eq-eqb, ne_eqb, ltb-true, ltb-false, lt-ltb}
use Rattle.std.proofs.Math.Dec.{eqb}
use Rattle.std.proofs.Common.{pow-add, inl, inr, ap₂, ◌∙◌, pow-suc, mul-suc}
use Rattle.std.proofs.Math.Bool.{true, cond}
use mathlib.Core.List.Memᴰ
use Rattle.std.proofs.Math.Option.{some}
use Rattle.std.proofs.Math.Path.{sym, ap}
use Rattle.std.proofs.Math.Nat.{pow-le-pow_right}
use native.Mathlib.Omega.{arith}
use Rattle.files.specs.Beside.{Beside}
use Rattle.files.specs.Calls.{parts_grant}
use Rattle.files.proofs.LevelLineLaws.{level-most}
use Rattle.files.proofs.LineLaws.{names-out, names_in, own-3, Sayable, part_line, LineOf, line-out, line-in, lines-rising, operations-line, level-line, part-line, rule-back, of-value, of-link, of-operations, of_part, of-level}
use Rattle.files.proofs.ReadBackLaws.{lines_strict, FitsWidths, Good, Writable}
use Rattle.files.specs.RuleFile.{RuleCommand, is_operations, is_part_line, is_level, lists, parts_in, listings, rule_in, lines_of, whole, own_value, legal, value, level}
use Rattle.policy.proofs.ClassLaws.{part_in, class_number, class_lt}
use Rattle.policy.proofs.GroupLaws.{times, times_in, times-out, union-same, rule}
use Rattle.policy.proofs.MergeLaws.{total, Every}
use Rattle.policy.specs.Mined.{part_count, part_at, part_block, group_block}
use Rattle.policy.proofs.OrderLaws.{Numbered, attrs-below}
use Rattle.policy.proofs.PartLaws.{parts_out}
use Rattle.policy.specs.Roles.{Roles, Part, class_of}
use Rattle.policy.specs.Rules.{own, Which, Setting, Rule, attrs_of, allowed, at, rule_level, well_formed, user, resource, conjunct, atom}
use Rattle.sets.specs.Sorted.{Rising, none_left, and-then}
use Rattle.sets.specs.Tests.{Is, ◌is_in◌, any, keep, only, up_to, elem, sum}
use Rattle.sets.specs.TestLaws.{and_in, and_l, and_r, never, test, fails, same, iff_in, any_in, any_out, keep_in, keep_out, only_out, up_to_in, up_to-out, elem_in, elem_out}

-- ---- counting

-- of ascending members at most one passes a test that no two pass
keep_one : {A : Type 0} {Q : A → A → Type 0} (f : A → Bool) → ((x : A) → Q x x → ⊥) → {l : List A} → Rising Q l → ((x y : A) → x is_in l → y is_in l → Is (f x) → Is (f y) → x ≡ y) → length (keep f l) ≡ cond (any f l) 1 0
keep_one f irr none_left u = refl
keep_one {A = A} {Q = Q} f irr (and-then {x = x} {xs = xs} h r) u = go (f x) refl (keep_one f irr r (λ y z my mz. u y z (Memᴰ.tail my) (Memᴰ.tail mz)))
  where
    no_other_lem : Is (f x) → any f xs ≡ false
    no_other_lem p = fails (any f xs) λ k. let t = any_out f xs k in irr x (rw (u t.0 x (Memᴰ.tail t.1) (Memᴰ.head refl) t.2 p) at (h t.0 t.1))

    go : (b : Bool) → f x ≡ b → length (keep f xs) ≡ cond (any f xs) 1 0 → length (cond b (x ∷ keep f xs) (keep f xs)) ≡ cond (b || any f xs) 1 0
    go true e q = ap suc (q ∙ ap (λ (b : Bool). cond b 1 0) (no_other_lem e))
    go false e q = q

total-member : {A : Type 0} (f : A → ℕ) {x : A} {l : List A} → x is_in l → f x ≤ total ◌+◌ 0 f l
total-member f (Memᴰ.head {x = y} {xs = ys} e) = let d = ap f e in omega arith
total-member f (Memᴰ.tail {x = y} {xs = ys} m) = let h = total-member f m in omega arith

sum-map : {A B : Type 0} (f : A → B) (h : B → ℕ) (k : A → ℕ) (l : List A) → ((x : A) → x is_in l → h (f x) ≡ k x) → sum h (map f l) ≡ total ◌+◌ 0 k l
sum-map f h k [] e = refl
sum-map f h k (x ∷ xs) e = ap₂ ◌+◌ (e x (Memᴰ.head refl)) (sum-map f h k xs (λ y m. e y (Memᴰ.tail m)))

-- what stands at most once in a group stands there once or not at all
times-once : (p : ℕ) (g : List ℕ) → times p g ≤ 1 → times p g ≡ cond (elem p g) 1 0
times-once p g h = test (elem p g) (λ e. let k = times_in p (elem_out p g e) in rw e (omega arith)) (λ e. rw e (none-there e))
  where
    none-there : elem p g ≡ false → times p g ≡ 0
    none-there e = test (ltb 0 (times p g)) (λ k. never (elem_in (times-out p g (ltb-true 0 (times p g) k))) e) (λ k. let d = ltb-false 0 (times p g) k in omega arith)

-- ---- the parts under a rule

module _ (P : Setting) (R : Roles) (ρ : Rule) (g : List ℕ) (members : Every (λ p. p < part_count P R) g) where
  -- a part is listed where it stands in the group
  pub lists-part : (p : ℕ) → p < part_count P R → any (lists P R p) (lines_of P R ρ g) ≡ elem p g
  unfolding lists
  lists-part p l = same (any (lists P R p) (lines_of P R ρ g)) (elem p g) there back
    where
      there : Is (any (lists P R p) (lines_of P R ρ g)) → Is (elem p g)
      there h =
          let t = any_out (lists P R p) (lines_of P R ρ g) h in
          let e = names-out (part_at P R p).role (class_of P R (part_at P R p)) t.0 t.2 in
          let s = part-line P R ρ g (part_at P R p).role (class_of P R (part_at P R p)) (line-out P R ρ g (rw e at t.1)) in
          let d = class_number P R p s.0 l (members s.0 s.1) s.2 s.3 in
          elem_in {a = p} {l = g} (rw d s.1)

      back : Is (elem p g) → Is (any (lists P R p) (lines_of P R ρ g))
      back h = any_in (lists P R p) (line-in P R ρ g (of_part p (elem_out p g h) refl)) (names_in (part_at P R p).role (class_of P R (part_at P R p)))

  -- THE LAW: the lines list the parts of the group
  pub parts-back : parts_grant P R (lines_of P R ρ g) ≡ group_block P R g
  unfolding parts_grant group_block parts_in
  parts-back =
      union-same P (part_block P R) (parts_in P R (lines_of P R ρ g)) g
      (λ p m. let k = keep_out (λ p. any (lists P R p) (lines_of P R ρ g)) (up_to (part_count P R)) m in elem_out p g (sym (lists-part p (up_to-out (part_count P R) k.0)) ∙ k.1))
      (λ p m. keep_in (λ p. any (lists P R p) (lines_of P R ρ g)) (up_to_in (members p m)) (lists-part p (members p m) ∙ elem_in m))

  pub listed-times : (p : ℕ) → p < part_count P R → times p g ≤ 1 → length (keep (lists P R p) (lines_of P R ρ g)) ≡ times p g
  unfolding lists
  listed-times p l h =
      keep_one (lists P R p) (λ c k. lines_strict.apart c c k k) (lines-rising P R ρ g) unique
      ∙ ap (λ (b : Bool). cond b 1 0) (lists-part p l) ∙ sym (times-once p g h)
    where
      unique : (c d : RuleCommand) → c is_in lines_of P R ρ g → d is_in lines_of P R ρ g → Is (lists P R p c) → Is (lists P R p d) → c ≡ d
      unique c d mc md hc hd = lists-out p c hc ∙ sym (lists-out p d hd)
        where
          lists-out : (p : ℕ) (c : RuleCommand) → Is (lists P R p c) → c ≡ part_line P R p
          lists-out p c h = names-out (part_at P R p).role (class_of P R (part_at P R p)) c h

-- each part is listed once in a file of lines, one for each group, where it stands once in the groups
pub listings-times : (P : Setting) (R : Roles) (rule : List ℕ → Rule) (gs : List (List ℕ)) → Every (Every (λ p. p < part_count P R)) gs
    → (p : ℕ) → p < part_count P R → total ◌+◌ 0 (times p) gs ≡ 1 → listings P R (map (λ g. lines_of P R (rule g) g) gs) p ≡ 1
unfolding listings
listings-times P R rule gs members p l e =
    sum-map (λ g. lines_of P R (rule g) g) (λ ls. length (keep (lists P R p) ls)) (times p) gs
    (λ g m. listed-times P R (rule g) g (members g m) p l (let h = total-member (times p) m in omega arith))
    ∙ e

-- ---- what the widths of operands ask of a policy

pub record Encodable (W : ℕ) (P : Setting) (R : Roles) : Type 0 where
  -- attributes are numbered below 255
  pub numbered : (w : Which) → (P.side w).attrs < own
  -- values have room in two bytes, sets in eight
  pub sized : (w : Which) (a x v : ℕ) → x < (P.side w).count → (P.side w).value a x ≡ some v → v < 256 ^ cond ((P.side w).is_set a) 8 2
  -- the values of the 255s are roles and resource numbers
  pub owned : (w : Which) (x v : ℕ) → x < (P.side w).count → (P.side w).value own x ≡ some v → Is (own_value P R w ((P.side w).is_set own) v)
  pub narrow : P.slots ≤ 8 * W
  pub few : R.number ≤ 256

-- a set of at most 8 × W numbers has room in W bytes
pub mask_room : (W n m : ℕ) → n ≤ 8 * W → m < 2 ^ n → m < 256 ^ W
mask_room W n m h l = let p = pow-le-pow_right {n = 2} (omega arith) h in let e = bytes_bits W in omega arith
  where
    bytes_bits : (W : ℕ) → 2 ^ (8 * W) ≡ 256 ^ W
    bytes_bits zero = refl
    bytes_bits (suc W) = ap (λ (n : ℕ). 2 ^ n) (mul-suc 8 W) ∙ eight (8 * W) ∙ ap (λ (n : ℕ). n * 256) (bytes_bits W) ∙ sym (pow-suc 256 W)
      where
        eight : (n : ℕ) → 2 ^ (n + 8) ≡ 2 ^ n * 256
        eight n = pow-add 2 n 8

module _ (W : ℕ) (B : Beside) (E : Encodable W B.setting B.roles) where
  abbrev P : Setting
  P = B.setting

  abbrev R : Roles
  R = B.roles

  value_room : (w : Which) (set : Bool) (a v : ℕ) → a < 256 → v < 256 ^ cond set 8 2 → FitsWidths W (value w set a v)
  value_room user false a v h k = (h, (k, tt))
  value_room user true a v h k = (h, (k, tt))
  value_room resource false a v h k = (h, (k, tt))
  value_room resource true a v h k = (h, (k, tt))

  pub attr_numbered : (w : Which) → Numbered (P.side w)
  attr_numbered w = let h = E.numbered w in omega arith

  value-legal : (w : Which) (a x v : ℕ) → a is_in attrs_of (P.side w) true → x < (P.side w).count → (P.side w).value a x ≡ some v → Is (legal B (value w ((P.side w).is_set a) a v))
  unfolding legal attrs_of
  value-legal w a x v m l e = go (Memᴰ.append_cases (up_to (P.side w).attrs) m)
    where
      go : (a is_in up_to (P.side w).attrs) ⊎ (a is_in only true own) → Is (legal B (value w ((P.side w).is_set a) a v))
      go (inl k) =
          let h = up_to-out (P.side w).attrs k in
          let n = E.numbered w in
          rw (ne_eqb a own (omega arith)) (and_in (lt-ltb a (P.side w).attrs h) (iff_in ((P.side w).is_set a) ((P.side w).is_set a) refl))
      go (inr k) = let d = (only_out true k).1 in rw (eq-eqb a own d) (owned_at d)
        where
          owned_at : a ≡ own → Is (own_value P R w ((P.side w).is_set a) v)
          owned_at d = rw d (E.owned w x v l (rw d at e))

  module _ (ρ : Rule) (g : List ℕ) (S : Sayable P R ρ g) where
    good-line : (c : RuleCommand) → LineOf P R ρ g c → Good W B c
    unfolding allowed well_formed legal
    good-line c (of-value w a vs v m k e) =
        let had = S.had (conjunct w a vs) m v k in
        let n : a is_in attrs_of (P.side w) true = elem_out a (attrs_of (P.side w) true) (rw (own-3 w) at (S.permitted (conjunct w a vs) m)) in
        rw e (record {
          within = refl;
          legally = value-legal w a had.0 v n had.1 had.2;
          room = value_room w ((P.side w).is_set a) a v (attrs-below (P.side w) (attr_numbered w) true n) (E.sized w a had.0 v had.1 had.2);
        })
    good-line c (of-link a b m e) =
        let h = S.permitted (atom a b) m in
        let la = and_l (ltb a (P.side user).attrs) (ltb b (P.side resource).attrs) h in
        let lb = and_r (ltb a (P.side user).attrs) (ltb b (P.side resource).attrs) h in
        let pa = ltb-true a (P.side user).attrs la in
        let pb = ltb-true b (P.side resource).attrs lb in
        let na = E.numbered user in
        let nb = E.numbered resource in
        rw e (record {
          within = refl;
          legally = and_in la (and_in lb (S.formed (atom a b) m));
          room = (omega arith, (omega arith, tt));
        })
    good-line c (of-operations e) =
        rw e (record {
          within = refl;
          legally = and_in (lt-ltb 0 ρ.ops S.operable) (lt-ltb ρ.ops (2 ^ P.slots) S.bounded);
          room = (mask_room W P.slots ρ.ops E.narrow S.bounded, tt);
        })
    good-line c (of_part p m e) =
        let q = part_at P R p in
        let i = part_in P R p (S.members p m) in
        let k = parts_out P R i in
        let n = E.few in
        rw e (record {
          within = refl;
          legally = any_in (λ (s : Part). eqb q.role s.role && eqb (class_of P R q) (class_of P R s)) i (and_in (eq-eqb q.role q.role refl) (eq-eqb (class_of P R q) (class_of P R q) refl));
          room = (omega (arith, k.0), (mask_room W P.slots (class_of P R q) E.narrow (class_lt P R q), tt));
        })
    good-line c (of-level e) =
        let l = level-most P ρ in
        rw e (record {
          within = refl;
          legally = refl;
          room = (omega arith, tt);
        })

    -- THE LAW: such a rule's lines may be written
    pub writable : Writable W B (lines_of P R ρ g)
    unfolding whole
    writable = record {
      rising = lines-rising P R ρ g;
      good = λ c m. good-line c (line-out P R ρ g m);
      single = λ c d mc md hc hd. operations-line P R ρ g (line-out P R ρ g mc) hc ∙ sym (operations-line P R ρ g (line-out P R ρ g md) hd);
      single-level = λ c d mc md hc hd. level-line P R ρ g (line-out P R ρ g mc) hc ∙ sym (level-line P R ρ g (line-out P R ρ g md) hd);
      levels = λ l m. levelled-so l (level-line P R ρ g (line-out P R ρ g m) refl) ∙ ap (rule_level P) (sym (rule-back P R ρ g S attr_numbered));
      complete = and_in (any_in is_operations (line-in P R ρ g (of-operations refl)) refl)
          (and_in (any_in is_part_line (line-in P R ρ g (of_part S.some-part.0 S.some-part.1 refl)) refl) (any_in is_level (line-in P R ρ g (of-level refl)) refl));
    }
      where
        levelled-so : (l : ℕ) → level l ≡ level (rule_level P ρ) → l ≡ rule_level P ρ
        levelled-so l e = cc
