-- A rule's lines say the rule and its parts again.
-- Assumes nothing.
use Rattle.std.specs.Prelude.{ℕ, ◌+◌, ◌*◌, ◌^◌, ◌<◌, ltb, Bool, false, ◌&&◌, ◌||◌, ◌⊎◌, ◌≡◌}
use borrow.Author.Tests.{eqb-true, eq-eqb, ltb-true}
use Rattle.std.proofs.Math.Dec.{eqb}
use Rattle.std.proofs.Math.ListN.{length, set}
use Rattle.std.proofs.Math.Bool.{true}
use Rattle.std.proofs.lemmas.Bool.{false≢true}
use mathlib.Core.List.Memᴰ
use mathlib.Core.List.{List, [], ◌∷◌, ◌++◌, map}
use Rattle.std.proofs.Common.{inl, inr, sym, ap₂, ◌∙◌}
use Rattle.std.proofs.Math.Path.{refl, ap}
use native.Mathlib.Omega.{arith}
use Rattle.files.proofs.LevelLineLaws.{told_by, level_or}
use Rattle.files.proofs.ReadBackLaws.{lines_strict}
use Rattle.files.specs.RoleFile.{same_side}
use Rattle.files.specs.RuleFile.{RuleCommand, value_byte, precedes, is_operations, is_part_line, is_level, Lines, levels_in, listed, link_of, if_operations, operations_in, names_part, values_in, conjuncts_in, rule_in, cond_lines, all_lines, lines_of, reshapes, opens, value, operations, link, part, level, ends}
use Rattle.policy.proofs.MergeLaws.{Every}
use Rattle.policy.specs.Mined.{part_count, part_at}
use Rattle.policy.proofs.OrderLaws.{key, Numbered, attrs-rising, attrs-below, Ordinary, side-base}
use Rattle.policy.specs.Roles.{Roles, class_of}
use Rattle.policy.specs.Rules.{Which, Setting, Cond, Rule, attrs_of, own_at, allowed, at, rule_level, well_formed, user, resource, conjunct, atom}
use Rattle.policy.proofs.WrittenLaws.{AllHad}
use Rattle.sets.specs.Sorted.{Rising, Ascending, none_left, and-then}
use Rattle.sets.specs.SortedLaws.{Before, sort_in, sort-out, sort-rising, rising_ext, append-rising, each-rising, only-rising, numbers, asc_unique}
use Rattle.sets.specs.Tests.{Is, iff, ◌is_in◌, each, only}
use Rattle.sets.specs.TestLaws.{and_in, and_l, and_r, or_out, test, iff_in, iff-out, each_in, each-out, only_in, only_out, elem_out, map_in, map-out}

pub same-side : (w x : Which) → Is (same_side w x) → w ≡ x
same-side user user h = refl
same-side user resource h = absurd (false≢true h)
same-side resource user h = absurd (false≢true h)
same-side resource resource h = refl

pub side_same : (w : Which) → Is (same_side w w)
side_same user = refl
side_same resource = refl

-- ---- what one line lists

listed_in : (w : Which) (set : Bool) (a v : ℕ) → v is_in listed w set a (value w set a v)
listed_in w set a v = only_in v (and_in (side_same w) (and_in (iff_in set set refl) (eq-eqb a a refl)))

listed-out : (w : Which) (set : Bool) (a : ℕ) (c : RuleCommand) {v : ℕ} → v is_in listed w set a c → c ≡ value w set a v
listed-out w set a reshapes m = absurd (Memᴰ.not-nil m)
listed-out w set a opens m = absurd (Memᴰ.not-nil m)
listed-out w set a (value x s b u) {v} m = go (only_out (same_side w x && (iff set s && eqb a b)) m)
  where
    parts-of : w ≡ x → set ≡ s → a ≡ b → v ≡ u → value x s b u ≡ value w set a v
    parts-of p q r t = cc

    go : Is (same_side w x && (iff set s && eqb a b)) × (v ≡ u) → value x s b u ≡ value w set a v
    go k =
        let h = and_r (same_side w x) (iff set s && eqb a b) k.0 in
        parts-of (same-side w x (and_l (same_side w x) (iff set s && eqb a b) k.0)) (iff-out set s (and_l (iff set s) (eqb a b) h)) (eqb-true a b (and_r (iff set s) (eqb a b) h)) k.1
listed-out w set a (operations n) m = absurd (Memᴰ.not-nil m)
listed-out w set a (link x b) m = absurd (Memᴰ.not-nil m)
listed-out w set a (part k n) m = absurd (Memᴰ.not-nil m)
listed-out w set a (level l) m = absurd (Memᴰ.not-nil m)
listed-out w set a ends m = absurd (Memᴰ.not-nil m)

linked-out : (c : RuleCommand) {d : Cond} → d is_in link_of c → (a b : ℕ) × (c ≡ link a b) × (d ≡ atom a b)
linked-out reshapes m = absurd (Memᴰ.not-nil m)
linked-out opens m = absurd (Memᴰ.not-nil m)
linked-out (value w set a v) m = absurd (Memᴰ.not-nil m)
linked-out (operations n) m = absurd (Memᴰ.not-nil m)
linked-out (link a b) (Memᴰ.head e) = (a, b, refl, e)
linked-out (link a b) (Memᴰ.tail m) = absurd (Memᴰ.not-nil m)
linked-out (part k n) m = absurd (Memᴰ.not-nil m)
linked-out (level l) m = absurd (Memᴰ.not-nil m)
linked-out ends m = absurd (Memᴰ.not-nil m)

pub names-out : (k m : ℕ) (c : RuleCommand) → Is (names_part k m c) → c ≡ part k m
names-out k m reshapes h = absurd (false≢true h)
names-out k m opens h = absurd (false≢true h)
names-out k m (value w set a v) h = absurd (false≢true h)
names-out k m (operations n) h = absurd (false≢true h)
names-out k m (link a b) h = absurd (false≢true h)
names-out k m (part j n) h = let p = eqb-true k j (and_l (eqb k j) (eqb m n) h) in let q = eqb-true m n (and_r (eqb k j) (eqb m n) h) in cc
names-out k m (level l) h = absurd (false≢true h)
names-out k m ends h = absurd (false≢true h)

pub names_in : (k m : ℕ) → Is (names_part k m (part k m))
names_in k m = and_in (eq-eqb k k refl) (eq-eqb m m refl)

abbrev is_value : RuleCommand → Bool
is_value reshapes = false
is_value opens = false
is_value (value w set a v) = true
is_value (operations m) = false
is_value (link a b) = false
is_value (part k m) = false
is_value (level l) = false
is_value ends = false

-- the operand of the only line 26
pub is-operations : (c : RuleCommand) → Is (is_operations c) → (n : ℕ) × (c ≡ operations n)
is-operations reshapes h = absurd (false≢true h)
is-operations opens h = absurd (false≢true h)
is-operations (value w set a v) h = absurd (false≢true h)
is-operations (operations n) h = (n, refl)
is-operations (link a b) h = absurd (false≢true h)
is-operations (part k n) h = absurd (false≢true h)
is-operations (level l) h = absurd (false≢true h)
is-operations ends h = absurd (false≢true h)

-- the operand of a 26, or what it is without this command
abbrev pub operations_or : RuleCommand → ℕ → ℕ
operations_or c n = if_operations (λ m. m) n c

pub other-line : (c : RuleCommand) (n : ℕ) → is_operations c ≡ false → operations_or c n ≡ n
other-line reshapes n h = refl
other-line opens n h = refl
other-line (value w set a v) n h = refl
other-line (operations m) n h = absurd (false≢true (sym h))
other-line (link a b) n h = refl
other-line (part k m) n h = refl
other-line (level l) n h = refl
other-line ends n h = refl

operations-in : (m : ℕ) (ls : Lines) → operations m is_in ls → ((n : ℕ) → operations n is_in ls → n ≡ m) → operations_in ls ≡ m
operations-in m [] k h = absurd (Memᴰ.not-nil k)
operations-in m (c ∷ ls) k h = test (is_operations c) here (λ q. other-line c (operations_in ls) q ∙ operations-in m ls (later q (Memᴰ.cases_cons k)) (λ n i. h n (Memᴰ.tail i)))
  where
    here : Is (is_operations c) → operations_or c (operations_in ls) ≡ m
    here p = let t = is-operations c p in rw t.1 (h t.0 (Memᴰ.head (sym t.1)))

    later : is_operations c ≡ false → (operations m ≡ c) ⊎ (operations m is_in ls) → operations m is_in ls
    later q (inl e) = absurd (false≢true (sym q ∙ ap is_operations (sym e)))
    later q (inr i) = i

pub own-3 : (w : Which) → own_at w 3 ≡ true
own-3 user = refl
own-3 resource = refl

-- atoms stand in the order of their lines
links-order : (a b c d : ℕ) → Is (precedes (link a b) (link c d)) → b < 256 → d < 256 → 512 + (256 * a + b) < 512 + (256 * c + d)
links-order a b c d h lb ld = go (or_out (ltb a c) (eqb a c && (ltb b d || (eqb b d && false))) h)
  where
    last : Is (ltb b d) ⊎ Is (eqb b d && false) → b < d
    last (inl k) = ltb-true b d k
    last (inr k) = absurd (false≢true (and_r (eqb b d) false k))

    go : Is (ltb a c) ⊎ Is (eqb a c && (ltb b d || (eqb b d && false))) → 512 + (256 * a + b) < 512 + (256 * c + d)
    go (inl k) = let p = ltb-true a c k in omega arith
    go (inr k) =
        let p = eqb-true a c (and_l (eqb a c) (ltb b d || (eqb b d && false)) k) in
        let q = last (or_out (ltb b d) (eqb b d && false) (and_r (eqb a c) (ltb b d || (eqb b d && false)) k)) in
        omega arith

-- a line that tells a level is the 29 that does
told-out : (c : RuleCommand) {l : ℕ} → l is_in told_by c → c ≡ level l
told-out c {l} m = go c m (level_or c)
  where
    go : (c : RuleCommand) → l is_in told_by c → ((is_level c ≡ false) × (told_by c ≡ [])) ⊎ ((k : ℕ) × (c ≡ level k)) → c ≡ level l
    go c m (inl q) = absurd (Memᴰ.not-nil (rw q.1 at m))
    go c m (inr q) = q.1 ∙ ap level (sym (only_out true (rw q.1 at m)).1)

-- levels stand in the order of the lines, too
levels-order : (l m : ℕ) → Is (precedes (level l) (level m)) → Is (ltb l m)
levels-order l m h = go (or_out (ltb l m) (eqb l m && false) h)
  where
    go : Is (ltb l m) ⊎ Is (eqb l m && false) → Is (ltb l m)
    go (inl k) = k
    go (inr k) = absurd (false≢true (and_r (eqb l m) false k))

-- and values in the order of theirs
values-order : (w : Which) (set : Bool) (a v x : ℕ) → Is (precedes (value w set a v) (value w set a x)) → Is (ltb v x)
values-order w set a v x h = go (or_out (ltb (value_byte w set) (value_byte w set)) _ h)
  where
    less : (n : ℕ) → Is (ltb n n) → ⊥
    less n k = let p = ltb-true n n k in omega arith

    last : Is (ltb v x) ⊎ Is (eqb v x && false) → Is (ltb v x)
    last (inl k) = k
    last (inr k) = absurd (false≢true (and_r (eqb v x) false k))

    next : Is (ltb a a) ⊎ Is (eqb a a && (ltb v x || (eqb v x && false))) → Is (ltb v x)
    next (inl k) = absurd (less a k)
    next (inr k) = last (or_out (ltb v x) (eqb v x && false) (and_r (eqb a a) _ k))

    go : Is (ltb (value_byte w set) (value_byte w set)) ⊎ Is (eqb (value_byte w set) (value_byte w set) && (ltb a a || (eqb a a && (ltb v x || (eqb v x && false))))) → Is (ltb v x)
    go (inl k) = absurd (less (value_byte w set) k)
    go (inr k) = next (or_out (ltb a a) _ (and_r (eqb (value_byte w set) (value_byte w set)) _ k))

module _ (P : Setting) (R : Roles) where
  -- what a writer asks of a rule and of the parts under it
  pub record Sayable (ρ : Rule) (g : List ℕ) : Type 0 where
    pub ascending : Ascending key ρ.conds
    pub ordinary : Every Ordinary ρ.conds
    pub had : Every (AllHad P) ρ.conds
    pub permitted : Every (λ c. Is (allowed P 3 c)) ρ.conds
    pub formed : Every (λ c. Is (well_formed P c)) ρ.conds
    pub operable : 0 < ρ.ops
    pub bounded : ρ.ops < 2 ^ P.slots
    pub members : Every (λ p. p < part_count P R) g
    pub some-part : (p : ℕ) × (p is_in g)

  -- the line of part number p
  abbrev pub part_line : ℕ → RuleCommand
  part_line p = part (part_at P R p).role (class_of P R (part_at P R p))

  -- where a line comes from
  pub data LineOf (ρ : Rule) (g : List ℕ) (c : RuleCommand) : Type 0 where
    of-value : (w : Which) (a : ℕ) (vs : List ℕ) (v : ℕ) → conjunct w a vs is_in ρ.conds → v is_in vs → c ≡ value w ((P.side w).is_set a) a v → LineOf ρ g c
    of-link : (a b : ℕ) → atom a b is_in ρ.conds → c ≡ link a b → LineOf ρ g c
    of-operations : c ≡ operations ρ.ops → LineOf ρ g c
    of_part : (p : ℕ) → p is_in g → c ≡ part_line p → LineOf ρ g c
    of-level : c ≡ level (rule_level P ρ) → LineOf ρ g c

  module _ (ρ : Rule) (g : List ℕ) where
    cond-line : (d : Cond) → d is_in ρ.conds → {c : RuleCommand} → c is_in cond_lines P d → LineOf ρ g c
    unfolding cond_lines
    cond-line (conjunct w a vs) m k = let t = map-out (value w ((P.side w).is_set a) a) vs k in of-value w a vs t.0 m t.1 t.2
    cond-line (atom a b) m (Memᴰ.head e) = of-link a b m e
    cond-line (atom a b) m (Memᴰ.tail k) = absurd (Memᴰ.not-nil k)

    pub line-out : {c : RuleCommand} → c is_in lines_of P R ρ g → LineOf ρ g c
    unfolding lines_of all_lines
    line-out {c} m = go (Memᴰ.append_cases (each (cond_lines P) ρ.conds) (sort-out precedes (all_lines P R ρ g) m))
      where
        parts_too : (c ≡ level (rule_level P ρ)) ⊎ (c is_in map part_line g) → LineOf ρ g c
        parts_too (inl e) = of-level e
        parts_too (inr k) = let t = map-out part_line g k in of_part t.0 t.1 t.2

        rest : (c ≡ operations ρ.ops) ⊎ (c is_in (level (rule_level P ρ) ∷ map part_line g)) → LineOf ρ g c
        rest (inl e) = of-operations e
        rest (inr k) = parts_too (Memᴰ.cases_cons k)

        go : (c is_in each (cond_lines P) ρ.conds) ⊎ (c is_in (operations ρ.ops ∷ level (rule_level P ρ) ∷ map part_line g)) → LineOf ρ g c
        go (inl k) = let t = each-out (cond_lines P) ρ.conds k in cond-line t.0 t.1 t.2
        go (inr k) = rest (Memᴰ.cases_cons k)

    pub line-in : {c : RuleCommand} → LineOf ρ g c → c is_in lines_of P R ρ g
    unfolding lines_of all_lines cond_lines
    line-in (of-value w a vs v m k e) = rw e (sort_in precedes lines_strict (Memᴰ.append_left _ (each_in (cond_lines P) m (map_in (value w ((P.side w).is_set a) a) k))))
    line-in (of-link a b m e) = rw e (sort_in precedes lines_strict (Memᴰ.append_left _ (each_in (cond_lines P) m (Memᴰ.head refl))))
    line-in (of-operations e) = rw e (sort_in precedes lines_strict (Memᴰ.append_right (each (cond_lines P) ρ.conds) (Memᴰ.head refl)))
    line-in (of_part p m e) = rw e (sort_in precedes lines_strict (Memᴰ.append_right (each (cond_lines P) ρ.conds) (Memᴰ.tail (Memᴰ.tail (map_in part_line m)))))
    line-in (of-level e) = rw e (sort_in precedes lines_strict (Memᴰ.append_right (each (cond_lines P) ρ.conds) (Memᴰ.tail (Memᴰ.head refl))))

    pub lines-rising : Rising (Before precedes) (lines_of P R ρ g)
    unfolding lines_of
    lines-rising = sort-rising precedes lines_strict.chain (all_lines P R ρ g)

    -- only one line is a 26
    pub operations-line : {c : RuleCommand} → LineOf ρ g c → Is (is_operations c) → c ≡ operations ρ.ops
    operations-line (of-value w a vs v m k e) h = absurd (false≢true (ap is_operations (sym e) ∙ h))
    operations-line (of-link a b m e) h = absurd (false≢true (ap is_operations (sym e) ∙ h))
    operations-line (of-operations e) h = e
    operations-line (of_part p m e) h = absurd (false≢true (ap is_operations (sym e) ∙ h))
    operations-line (of-level e) h = absurd (false≢true (ap is_operations (sym e) ∙ h))

    -- and only one a 29
    pub level-line : {c : RuleCommand} → LineOf ρ g c → Is (is_level c) → c ≡ level (rule_level P ρ)
    level-line (of-value w a vs v m k e) h = absurd (false≢true (ap is_level (sym e) ∙ h))
    level-line (of-link a b m e) h = absurd (false≢true (ap is_level (sym e) ∙ h))
    level-line (of-operations e) h = absurd (false≢true (ap is_level (sym e) ∙ h))
    level-line (of_part p m e) h = absurd (false≢true (ap is_level (sym e) ∙ h))
    level-line (of-level e) h = e

    -- a line that lists a value comes from a conjunct
    value_line_lem : (w : Which) (a v : ℕ) → LineOf ρ g (value w ((P.side w).is_set a) a v) → (vs : List ℕ) × (conjunct w a vs is_in ρ.conds) × (v is_in vs)
    value_line_lem w a v (of-value x b vs u m k e) =
        let p : w ≡ x = cc in
        let q : a ≡ b = cc in
        let r : v ≡ u = cc in
        (vs, rw (p, q) m, rw r k)
    value_line_lem w a v (of-link x b m e) = absurd (false≢true (ap is_value (sym e)))
    value_line_lem w a v (of-operations e) = absurd (false≢true (ap is_value (sym e)))
    value_line_lem w a v (of_part p m e) = absurd (false≢true (ap is_value (sym e)))
    value_line_lem w a v (of-level e) = absurd (false≢true (ap is_value (sym e)))

    link-line : (a b : ℕ) → LineOf ρ g (link a b) → atom a b is_in ρ.conds
    link-line a b (of-value w x vs v m k e) = absurd (false≢true (ap is_value e))
    link-line a b (of-link x y m e) = let p : a ≡ x = cc in let q : b ≡ y = cc in rw (p, q) m
    link-line a b (of-operations e) = absurd (false≢true (ap is_operations e))
    link-line a b (of_part p m e) = absurd (false≢true (ap is_part_line e))
    link-line a b (of-level e) = absurd (false≢true (ap is_level e))

    pub part-line : (k m : ℕ) → LineOf ρ g (part k m) → (p : ℕ) × (p is_in g) × (k ≡ (part_at P R p).role) × (m ≡ class_of P R (part_at P R p))
    part-line k m (of-value w x vs v i j e) = absurd (false≢true (ap is_value e))
    part-line k m (of-link x y i e) = absurd (false≢true (ap is_part_line (sym e)))
    part-line k m (of-operations e) = absurd (false≢true (ap is_operations e))
    part-line k m (of_part p i e) = (p, i, cc, cc)
    part-line k m (of-level e) = absurd (false≢true (ap is_level e))

    -- ---- the lines say the rule

    values_out_line : (w : Which) (a v : ℕ) → v is_in values_in P (lines_of P R ρ g) w a → (vs : List ℕ) × (conjunct w a vs is_in ρ.conds) × (v is_in vs)
    unfolding values_in
    values_out_line w a v m =
        let t = each-out (listed w ((P.side w).is_set a) a) (lines_of P R ρ g) m in
        value_line_lem w a v (line-out (rw (listed-out w ((P.side w).is_set a) a t.0 t.2) at t.1))

    values_in_line : (w : Which) (a : ℕ) (vs : List ℕ) (v : ℕ) → conjunct w a vs is_in ρ.conds → v is_in vs → v is_in values_in P (lines_of P R ρ g) w a
    unfolding values_in
    values_in_line w a vs v m k = each_in (listed w ((P.side w).is_set a) a) (line-in (of-value w a vs v m k refl)) (listed_in w ((P.side w).is_set a) a v)

    values_line_rising : (w : Which) (a : ℕ) → Rising (Before ltb) (values_in P (lines_of P R ρ g) w a)
    unfolding values_in
    values_line_rising w a =
        each-rising (listed w ((P.side w).is_set a) a) (λ c. listed-rising c)
        (λ c d mc md h x y mx my.
        values-order w ((P.side w).is_set a) a x y (rw (listed-out w ((P.side w).is_set a) a c mx, listed-out w ((P.side w).is_set a) a d my) at h))
        lines-rising
      where
        listed-rising : (c : RuleCommand) → Rising (Before ltb) (listed w ((P.side w).is_set a) a c)
        listed-rising reshapes = none_left
        listed-rising opens = none_left
        listed-rising (value x s b u) = only-rising (same_side w x && (iff ((P.side w).is_set a) s && eqb a b)) u
        listed-rising (operations m) = none_left
        listed-rising (link x b) = none_left
        listed-rising (part k m) = none_left
        listed-rising (level l) = none_left
        listed-rising ends = none_left

    -- THE LAW: they tell the rule's level, once
    pub levels-back : levels_in (lines_of P R ρ g) ≡ rule_level P ρ ∷ []
    levels-back =
        rising_ext numbers.apart
        (each-rising told_by told-rising (λ c d mc md h x y mx my. levels-order x y (rw (told-out c mx, told-out d my) at h)) lines-rising)
        (and-then (λ y m. absurd (Memᴰ.not-nil m)) none_left)
        (λ l m. let t = each-out told_by (lines_of P R ρ g) m in here l (level-line (line-out (rw (told-out t.0 t.2) at t.1)) refl))
        (λ l m. each_in told_by (line-in (of-level refl)) m)
      where
        here : (l : ℕ) → level l ≡ level (rule_level P ρ) → l is_in (rule_level P ρ ∷ [])
        here l e = let p : l ≡ rule_level P ρ = cc in Memᴰ.head p

        told-rising : (c : RuleCommand) → Rising (Before ltb) (told_by c)
        told-rising reshapes = none_left
        told-rising opens = none_left
        told-rising (value w set a v) = none_left
        told-rising (operations m) = none_left
        told-rising (link a b) = none_left
        told-rising (part k m) = none_left
        told-rising (level l) = and-then (λ y m. absurd (Memᴰ.not-nil m)) none_left
        told-rising ends = none_left

    module _ (S : Sayable ρ g) where
      -- one attribute, one conjunct
      one-conjunct : (w : Which) (a : ℕ) (vs us : List ℕ) → conjunct w a vs is_in ρ.conds → conjunct w a us is_in ρ.conds → vs ≡ us
      unfolding key
      one-conjunct w a vs us m k = let e = asc_unique key S.ascending m k refl in cc

      values-back : (w : Which) (a : ℕ) (vs : List ℕ) → conjunct w a vs is_in ρ.conds → values_in P (lines_of P R ρ g) w a ≡ vs
      values-back w a vs m =
          rising_ext numbers.apart (values_line_rising w a) (S.ordinary (conjunct w a vs) m)
          (λ v k. let t = values_out_line w a v k in rw (one-conjunct w a vs t.0 m t.1) t.2)
          (λ v k. values_in_line w a vs v m k)

      conjuncts_in_asc : ((w : Which) → Numbered (P.side w)) → (w : Which) → Ascending key (conjuncts_in P (lines_of P R ρ g) w)
      unfolding conjuncts_in key
      conjuncts_in_asc N w =
          each-rising (λ a. only (ltb 0 (length (values_in P (lines_of P R ρ g) w a))) (conjunct w a (values_in P (lines_of P R ρ g) w a)))
          (λ a. only-rising (ltb 0 (length (values_in P (lines_of P R ρ g) w a))) (conjunct w a (values_in P (lines_of P R ρ g) w a)))
          (λ a b ma mb h x y mx my.
          let e = ap key (only_out (ltb 0 (length (values_in P (lines_of P R ρ g) w a))) mx).1 in
          let d = ap key (only_out (ltb 0 (length (values_in P (lines_of P R ρ g) w b))) my).1 in
          omega arith)
          (attrs-rising (P.side w) (N w) true)

      -- a conjunct that the lines say is one of the rule's
      conjuncts_in_out : (w : Which) {c : Cond} → c is_in conjuncts_in P (lines_of P R ρ g) w → (a : ℕ) × (vs : List ℕ) × (a is_in attrs_of (P.side w) true) × (c ≡ conjunct w a vs) × (conjunct w a vs is_in ρ.conds)
      unfolding conjuncts_in
      conjuncts_in_out w m =
          let t = each-out (λ a. only (ltb 0 (length (values_in P (lines_of P R ρ g) w a))) (conjunct w a (values_in P (lines_of P R ρ g) w a))) (attrs_of (P.side w) true) m in
          let a = t.0 in
          let k = only_out (ltb 0 (length (values_in P (lines_of P R ρ g) w a))) t.2 in
          let v = first_member (values_in P (lines_of P R ρ g) w a) (ltb-true 0 (length (values_in P (lines_of P R ρ g) w a)) k.0) in
          let s = values_out_line w a v.0 v.1 in
          (a, s.0, t.1, k.1 ∙ ap (conjunct w a) (values-back w a s.0 s.1), s.1)
        where
          first_member : (l : List ℕ) → 0 < length l → (v : ℕ) × (v is_in l)
          first_member [] h = absurd (omega arith)
          first_member (v ∷ l) h = (v, Memᴰ.head refl)

      conjuncts_in_in : (w : Which) (a : ℕ) (vs : List ℕ) → conjunct w a vs is_in ρ.conds → conjunct w a vs is_in conjuncts_in P (lines_of P R ρ g) w
      unfolding conjuncts_in allowed well_formed
      conjuncts_in_in w a vs m =
          let e = values-back w a vs m in
          let k : a is_in attrs_of (P.side w) true = elem_out a (attrs_of (P.side w) true) (rw (own-3 w) at (S.permitted (conjunct w a vs) m)) in
          each_in (λ a. only (ltb 0 (length (values_in P (lines_of P R ρ g) w a))) (conjunct w a (values_in P (lines_of P R ρ g) w a))) k
          (rw e (only_in (conjunct w a vs) (S.formed (conjunct w a vs) m)))

      -- the atoms of the lines, and theirs of the rule
      links-out : {c : Cond} → c is_in each link_of (lines_of P R ρ g) → (a b : ℕ) × (c ≡ atom a b) × (atom a b is_in ρ.conds)
      links-out m =
          let t = each-out link_of (lines_of P R ρ g) m in
          let s = linked-out t.0 t.2 in
          (s.0, s.1, s.3, link-line s.0 s.1 (line-out (rw s.2 at t.1)))

      links_in : (a b : ℕ) → atom a b is_in ρ.conds → atom a b is_in each link_of (lines_of P R ρ g)
      links_in a b m = each_in link_of (line-in (of-link a b m refl)) (Memᴰ.head refl)

      module _ (N : (w : Which) → Numbered (P.side w)) where
        atom-below : (a b : ℕ) → atom a b is_in ρ.conds → b < 256
        unfolding allowed
        atom-below a b m = let h = ltb-true b (P.side resource).attrs (and_r (ltb a (P.side user).attrs) (ltb b (P.side resource).attrs) (S.permitted (atom a b) m)) in let n = N resource in omega arith

        links_asc : Ascending key (each link_of (lines_of P R ρ g))
        unfolding key
        links_asc = each-rising link_of link-rising ordered lines-rising
          where
            link-rising : (c : RuleCommand) → Ascending key (link_of c)
            link-rising reshapes = none_left
            link-rising opens = none_left
            link-rising (value w set a v) = none_left
            link-rising (operations m) = none_left
            link-rising (link a b) = and-then (λ y m. absurd (Memᴰ.not-nil m)) none_left
            link-rising (part k m) = none_left
            link-rising (level l) = none_left
            link-rising ends = none_left

            ordered : (c d : RuleCommand) → c is_in lines_of P R ρ g → d is_in lines_of P R ρ g → Is (precedes c d) → (x y : Cond) → x is_in link_of c → y is_in link_of d → key x < key y
            ordered c d mc md h x y mx my =
                let s = linked-out c mx in
                let t = linked-out d my in
                let p = atom-below s.0 s.1 (link-line s.0 s.1 (line-out (rw s.2 at mc))) in
                let q = atom-below t.0 t.1 (link-line t.0 t.1 (line-out (rw t.2 at md))) in
                rw (s.3, t.3) (links-order s.0 s.1 t.0 t.1 (rw (s.2, t.2) at h) p q)

        conds_asc : Ascending key (rule_in P (lines_of P R ρ g)).conds
        unfolding rule_in key
        conds_asc =
            append-rising
            (append-rising (conjuncts_in_asc N user) (conjuncts_in_asc N resource) λ x y mx my.
            let s = conjuncts_in_out user mx in
            let t = conjuncts_in_out resource my in
            let n = attrs-below (P.side user) (N user) true s.2 in
            let p = ap key s.3 in
            let q = ap key t.3 in
            omega arith)
            links_asc λ x y mx my. last x y (Memᴰ.append_cases (conjuncts_in P (lines_of P R ρ g) user) mx) my
          where
            before-links : (w : Which) (x y : Cond) → x is_in conjuncts_in P (lines_of P R ρ g) w → y is_in each link_of (lines_of P R ρ g) → key x < key y
            before-links w x y m k =
                let s = conjuncts_in_out w m in
                let t = links-out k in
                let n = attrs-below (P.side w) (N w) true s.2 in
                let p = ap key s.3 in
                let q = ap key t.2 in
                let b = side-base w in
                omega arith

            last : (x y : Cond) → (x is_in conjuncts_in P (lines_of P R ρ g) user) ⊎ (x is_in conjuncts_in P (lines_of P R ρ g) resource) → y is_in each link_of (lines_of P R ρ g) → key x < key y
            last x y (inl m) k = before-links user x y m k
            last x y (inr m) k = before-links resource x y m k

        conds-out : (c : Cond) → c is_in (rule_in P (lines_of P R ρ g)).conds → c is_in ρ.conds
        unfolding rule_in
        conds-out c m = go (Memᴰ.append_cases (conjuncts_in P (lines_of P R ρ g) user ++ conjuncts_in P (lines_of P R ρ g) resource) m)
          where
            side : (w : Which) → c is_in conjuncts_in P (lines_of P R ρ g) w → c is_in ρ.conds
            side w k = let t = conjuncts_in_out w k in rw t.3 t.4

            sides : (c is_in conjuncts_in P (lines_of P R ρ g) user) ⊎ (c is_in conjuncts_in P (lines_of P R ρ g) resource) → c is_in ρ.conds
            sides (inl k) = side user k
            sides (inr k) = side resource k

            go : (c is_in (conjuncts_in P (lines_of P R ρ g) user ++ conjuncts_in P (lines_of P R ρ g) resource)) ⊎ (c is_in each link_of (lines_of P R ρ g)) → c is_in ρ.conds
            go (inl k) = sides (Memᴰ.append_cases (conjuncts_in P (lines_of P R ρ g) user) k)
            go (inr k) = let t = links-out k in rw t.2 t.3

        conds_in : (c : Cond) → c is_in ρ.conds → c is_in (rule_in P (lines_of P R ρ g)).conds
        unfolding rule_in
        conds_in (conjunct user a vs) m = Memᴰ.append_left _ (Memᴰ.append_left _ (conjuncts_in_in user a vs m))
        conds_in (conjunct resource a vs) m = Memᴰ.append_left _ (Memᴰ.append_right (conjuncts_in P (lines_of P R ρ g) user) (conjuncts_in_in resource a vs m))
        conds_in (atom a b) m = Memᴰ.append_right (conjuncts_in P (lines_of P R ρ g) user ++ conjuncts_in P (lines_of P R ρ g) resource) (links_in a b m)

        ops_back : (rule_in P (lines_of P R ρ g)).ops ≡ ρ.ops
        unfolding rule_in
        ops_back =
            operations-in ρ.ops (lines_of P R ρ g) (line-in (of-operations refl))
            (λ n m. let e = operations-line (line-out m) refl in cc)

        -- THE LAW: the lines say the rule
        pub rule-back : rule_in P (lines_of P R ρ g) ≡ ρ
        rule-back = ap₂ (λ (f : ℕ) (cs : List Cond). record { ops = f; conds = cs }) ops_back (rising_ext (λ x y p q. never_both x y p q) conds_asc S.ascending conds-out conds_in)
          where
            never_both : (x y : Cond) → key x < key y → key y < key x → ⊥
            never_both x y p q = omega arith
