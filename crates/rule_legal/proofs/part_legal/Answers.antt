use borrow.Author.Tests.{eq-eqb, ne_eqb, lt-ltb, le-ltb}
use lib.Dec.{eqb, ltb}
use lib.ListN.{get_or}
use mathlib.Core.Bool.{Bool, true, false, cond}
use mathlib.Core.List.{List}
use mathlib.Core.Path.{◌≡◌, refl, sym, ap, ◌∙◌}
use Prim.Native.Nat.{ℕ}
use Rattle.rule_legal.specs.Operands.{part_legal}
use Rattle.grant_parts.specs.Parts.{class_row}
use Rattle.role_record.specs.Cells.{permission_at}
use Rattle.sets.specs.Lowest.{lowest_from}
use Rattle.sets.specs.Sets.{bit}
use Rattle.rule_legal.proofs.part_legal.Goals as goal

-- the verdict, by the outcome of each test; o is the lowest operation
by_tests : (role m roles ops : ℕ) (holders permissions : List ℕ) (o : ℕ) → o ≡ lowest_from (bit m) 0 64 → (b1 b2 b3 b4 : Bool) → ltb role roles ≡ b1 → eqb (get_or holders role 0) 0 ≡ b2 → ltb o ops ≡ b3 → eqb (get_or permissions (permission_at role o) 0) 0 ≡ b4
    → part_legal role m roles ops holders permissions ≡ cond b1 (cond b2 false (cond b3 (cond b4 false (eqb (class_row permissions role ops o) m)) false)) false
unfolding part_legal
by_tests role m roles ops holders permissions o e b1 b2 b3 b4 p q r s = rw (← e, p, q, r, s) refl

pub returns-then-f-role : goal.returns-then-f-role
unfolding part_legal
returns-then-f-role c = rw (le-ltb _ _ c.if-f-role.true) refl

pub returns-then-f-k-eq0 : goal.returns-then-f-k-eq0
unfolding part_legal
returns-then-f-k-eq0 c = rw (lt-ltb _ _ c.if-f-role.false, eq-eqb _ _ c.if-f-k-eq0.true) refl

pub returns-then-f-o : goal.returns-then-f-o
returns-then-f-o c =
    sym (by_tests _ _ _ _ _ _ _ c.least-o.ensures true false false _ (lt-ltb _ _ c.if-f-role.false) (ne_eqb _ _ c.if-f-k-eq0.false) (le-ltb _ _ c.if-f-o.true) refl)

pub returns-then-f-o-eq0 : goal.returns-then-f-o-eq0
returns-then-f-o-eq0 c =
    sym (by_tests _ _ _ _ _ _ _ c.least-o.ensures true false true true (lt-ltb _ _ c.if-f-role.false) (ne_eqb _ _ c.if-f-k-eq0.false) (lt-ltb _ _ c.if-f-o.false) (eq-eqb _ _ c.if-f-o-eq0.true))

pub returns : goal.returns
returns c =
    ap (λ (x : ℕ). eqb x c.args.m) c.class_of.ensures
    ∙ sym (by_tests _ _ _ _ _ _ _ c.least-o.ensures true false true false (lt-ltb _ _ c.if-f-role.false) (ne_eqb _ _ c.if-f-k-eq0.false) (lt-ltb _ _ c.if-f-o.false) (ne_eqb _ _ c.if-f-o-eq0.false))
