-- What one more line of a rule makes of its summary.
-- Assumes nothing.
use Rattle.std.specs.Prelude.{ℕ, zero, suc, ◌+◌, ◌*◌, ◌%◌, ◌≤◌, ◌<◌, get_or, set, Bool, true, false, cond, ◌&&◌, ◌||◌, ◌≡◌, refl}
use Rattle.std.proofs.Common.{eqb-true, eq-eqb, ne_eqb, ltb-true, ltb-false, lt-ltb, le-ltb, ◌∙◌}
use Rattle.std.proofs.lemmas.Bool.{eqb-false, false≢true}
use Rattle.std.proofs.Math.Dec.{eqb, ltb}
use Rattle.std.proofs.Math.ListN.{length}
use Rattle.std.proofs.Math.Bool.{or-true, or-false, and-or_distrib_left}
use mathlib.Core.List.{List, [], ◌∷◌, ◌++◌, append-nil}
use Rattle.std.proofs.Math.Option.{Option, none, some}
use Rattle.std.proofs.Math.Path.{sym, ap, ap₂}
use native.Mathlib.Omega.{arith}
use Rattle.rule_conjuncts.specs.Summary.{values_for, met_for, met_table, asked_places, is_atom, atom_places}
use Rattle.files.proofs.LineLaws.{operations_or, side_same, other-line}
use Rattle.files.specs.RoleFile.{side_by, same_side}
use Rattle.files.specs.RuleFile.{RuleCommand, is_operations, Lines, listed, operations_in, values_in, value, operations, link}
use Rattle.role_record.specs.Places.{place_side, place_attribute, place_of}
use Rattle.role_record.specs.Record.{table_of}
use Rattle.role_record.specs.RecordLaws.{table_get, table_ext, table-set}
use Rattle.policy.specs.Covering.{fits}
use Rattle.policy.specs.Rules.{own, Side, Which, Setting, admits, meets, user, resource}
use Rattle.sets.specs.ListLaws.{each_last, any_last}
use Rattle.sets.specs.MaskLaws.{bit-mask_of, mask_same, mask_wide, mask_none}
use Rattle.sets.specs.Sets.{bit, mask_of}
use Rattle.sets.specs.Tests.{Is, iff, any, only}
use Rattle.sets.specs.TestLaws.{and_in, and_l, and_r, or_l, or_r, never, test, fails, iff_in}

-- ---- lists with one more behind

values-more : (P : Setting) (ls : Lines) (c : RuleCommand) (w : Which) (a : ℕ) → values_in P (ls ++ (c ∷ [])) w a ≡ values_in P ls w a ++ listed w ((P.side w).is_set a) a c
unfolding values_in
values-more P ls c w a = each_last (listed w ((P.side w).is_set a) a) ls c

-- somebody meets one of some values or one more
meets-more : (S : Side) (a : ℕ) (vs : List ℕ) (v x : ℕ) → meets S a (vs ++ (v ∷ [])) x ≡ (meets S a vs x || meets S a (v ∷ []) x)
unfolding meets
meets-more S a vs v x = go (S.value a x)
  where
    go : (o : Option ℕ) → admits (S.below a) (vs ++ (v ∷ [])) o ≡ (admits (S.below a) vs o || admits (S.below a) (v ∷ []) o)
    go none = refl
    go (some y) = any_last (λ v. S.below a v y) vs v ∙ ap (λ (b : Bool). any (λ v. S.below a v y) vs || b) (sym (or-false (S.below a v y)))

-- ---- lines that list no value

-- a line lists none
abbrev pub NoValue : RuleCommand → Type 0
NoValue c = (w : Which) (s : Bool) (a : ℕ) → listed w s a c ≡ []

module _ (P : Setting) (ls : Lines) (c : RuleCommand) (h : NoValue c) where
  values-kept : (i : ℕ) → values_for P (ls ++ (c ∷ [])) i ≡ values_for P ls i
  unfolding values_for
  values-kept i =
      values-more P ls c (place_side i) (place_attribute i)
      ∙ ap (λ t. values_in P ls (place_side i) (place_attribute i) ++ t) (h (place_side i) ((P.side (place_side i)).is_set (place_attribute i)) (place_attribute i))
      ∙ append-nil (values_in P ls (place_side i) (place_attribute i))

  pub met-kept : met_table P ls ≡ met_table P (ls ++ (c ∷ []))
  unfolding met_table met_for
  met-kept = table_ext 14 (met_for P ls) (met_for P (ls ++ (c ∷ []))) (λ i k. ap (λ vs. mask_of (P.side (place_side i)).count (meets (P.side (place_side i)) (place_attribute i) vs)) (sym (values-kept i)))

  pub asked-kept : asked_places P ls ≡ asked_places P (ls ++ (c ∷ []))
  unfolding asked_places
  asked-kept = mask_same 14 (λ i. ltb 0 (length (values_for P ls i))) (λ i. ltb 0 (length (values_for P (ls ++ (c ∷ [])) i))) (λ i k. ap (λ vs. ltb 0 (length vs)) (sym (values-kept i)))

-- ---- a line that lists one

pub only_none : {A : Type 0} (b : Bool) (x : A) → b ≡ false → only b x ≡ []
only_none b x e = rw e refl

only_one : {A : Type 0} (b : Bool) (x : A) → Is b → only b x ≡ x ∷ []
only_one b x e = rw e refl

-- the place of an attribute is that of no other
place-back : (i side a : ℕ) → i < 14 → side < 2 → Is (same_side (place_side i) (side_by side)) → Is (eqb (place_attribute i) a) → i ≡ place_of side a
place-back i side a hi hs h e = go (eqb (i % 7) 6) refl (eqb-true (place_attribute i) a e) (ltb i 7) refl side hs h
  where
    attribute : (b : Bool) → eqb (i % 7) 6 ≡ b → cond b own (i % 7) ≡ a → i % 7 ≡ cond (eqb a own) 6 a
    attribute true q d = eqb-true (i % 7) 6 q ∙ ap (λ (b : Bool). cond b 6 a) (sym (eq-eqb a own (sym d)))
    attribute false q d = d ∙ ap (λ (b : Bool). cond b 6 a) (sym (ne_eqb a own (λ z. omega arith)))

    go : (b : Bool) → eqb (i % 7) 6 ≡ b → place_attribute i ≡ a → (c : Bool) → ltb i 7 ≡ c → (side : ℕ) → side < 2 → Is (same_side (cond c user resource) (side_by side)) → i ≡ place_of side a
    go b q d true l zero hs h = let m = ltb-true i 7 l in let t = attribute (eqb (i % 7) 6) refl d in omega arith
    go b q d true l (suc zero) hs h = absurd (false≢true h)
    go b q d true l (suc (suc n)) hs h = absurd (omega arith)
    go b q d false l zero hs h = absurd (false≢true h)
    go b q d false l (suc zero) hs h = let m = ltb-false i 7 l in let t = attribute (eqb (i % 7) 6) refl d in omega arith
    go b q d false l (suc (suc n)) hs h = absurd (omega arith)

-- an attribute of a side has a place, which is the attribute's and the side's
module _ (side a : ℕ) (hs : side < 2) (ha : (a ≡ own → ⊥) → a < 6) where
  column-low : cond (eqb a own) 6 a < 7
  column-low = test (eqb a own) (λ e. rw e (omega arith)) (λ e. rw e (let k = ha (eqb-false a own e) in omega arith))

  pub place-low : place_of side a < 14
  place-low = let k = column-low in omega arith

  place_rest : place_of side a % 7 ≡ cond (eqb a own) 6 a
  place_rest = let k = column-low in omega arith

  pub place-side : place_side (place_of side a) ≡ side_by side
  place-side = go side hs
    where
      go : (s : ℕ) → s < 2 → place_side (7 * s + cond (eqb a own) 6 a) ≡ side_by s
      go zero h = let k = column-low in ap (λ (b : Bool). cond b user resource) (lt-ltb (7 * 0 + cond (eqb a own) 6 a) 7 (omega arith))
      go (suc zero) h = ap (λ (b : Bool). cond b user resource) (le-ltb (7 * 1 + cond (eqb a own) 6 a) 7 (omega arith))
      go (suc (suc n)) h = absurd (omega arith)

  pub place-attribute : place_attribute (place_of side a) ≡ a
  place-attribute = ap (λ (x : ℕ). cond (eqb x 6) own x) place_rest ∙ test (eqb a own) own-one declared
    where
      own-one : Is (eqb a own) → cond (eqb (cond (eqb a own) 6 a) 6) own (cond (eqb a own) 6 a) ≡ a
      own-one e = rw e (sym (eqb-true a own e))

      declared : eqb a own ≡ false → cond (eqb (cond (eqb a own) 6 a) 6) own (cond (eqb a own) 6 a) ≡ a
      declared e = rw e (ap (λ (b : Bool). cond b own a) (ne_eqb a 6 (λ z. let k = ha (eqb-false a own e) in omega arith)))

  module _ (P : Setting) (ls : Lines) (kind : Bool) (v : ℕ) (fits : (P.side (side_by side)).is_set a ≡ kind) (many : (P.side (side_by side)).count ≤ 64) where
    -- elsewhere nothing is listed
    value-elsewhere : (i : ℕ) → i < 14 → (i ≡ place_of side a → ⊥) → values_for P (ls ++ (value (side_by side) kind a v ∷ [])) i ≡ values_for P ls i
    unfolding values_for
    value-elsewhere i hi n =
        values-more P ls (value (side_by side) kind a v) (place_side i) (place_attribute i)
        ∙ ap (λ t. values_in P ls (place_side i) (place_attribute i) ++ t)
        (only_none (same_side (place_side i) (side_by side) && (iff ((P.side (place_side i)).is_set (place_attribute i)) kind && eqb (place_attribute i) a)) v (fails _ (λ h. n (place-back i side a hi hs (and_l _ _ h) (and_r (iff ((P.side (place_side i)).is_set (place_attribute i)) kind) _ (and_r (same_side (place_side i) (side_by side)) _ h))))))
        ∙ append-nil (values_in P ls (place_side i) (place_attribute i))

    listed-there : listed (side_by side) ((P.side (side_by side)).is_set a) a (value (side_by side) kind a v) ≡ v ∷ []
    listed-there = only_one (same_side (side_by side) (side_by side) && (iff ((P.side (side_by side)).is_set a) kind && eqb a a)) v (and_in (side_same (side_by side)) (and_in (iff_in ((P.side (side_by side)).is_set a) kind fits) (eq-eqb a a refl)))

    value_there : values_for P (ls ++ (value (side_by side) kind a v ∷ [])) (place_of side a) ≡ values_in P ls (side_by side) a ++ (v ∷ [])
    unfolding values_for
    value_there =
        ap₂ (λ (w : Which) (b : ℕ). values_in P (ls ++ (value (side_by side) kind a v ∷ [])) w b) place-side place-attribute
        ∙ values-more P ls (value (side_by side) kind a v) (side_by side) a
        ∙ ap (λ t. values_in P ls (side_by side) a ++ t) listed-there

    before-there : values_for P ls (place_of side a) ≡ values_in P ls (side_by side) a
    unfolding values_for
    before-there = ap₂ (λ (w : Which) (b : ℕ). values_in P ls w b) place-side place-attribute

    met-there : (ms : Lines) (vs : List ℕ) → values_for P ms (place_of side a) ≡ vs → met_for P ms (place_of side a) ≡ mask_of (P.side (side_by side)).count (meets (P.side (side_by side)) a vs)
    unfolding met_for
    met-there ms vs e =
        ap (λ t. mask_of (P.side (place_side (place_of side a))).count (meets (P.side (place_side (place_of side a))) (place_attribute (place_of side a)) t)) e
        ∙ ap₂ (λ (w : Which) (b : ℕ). mask_of (P.side w).count (meets (P.side w) b vs)) place-side place-attribute

    met_of_lem : (ms : Lines) (j : ℕ) → values_for P ms j ≡ values_for P ls j → met_for P ls j ≡ met_for P ms j
    unfolding met_for
    met_of_lem ms j e = ap (λ vs. mask_of (P.side (place_side j)).count (meets (P.side (place_side j)) (place_attribute j) vs)) (sym e)

    joined : (n : ℕ) (f g h : ℕ → Bool) → n ≤ 64 → ((x : ℕ) → h x ≡ (f x || g x)) → mask_of 64 (λ k. bit (mask_of n f) k || bit (mask_of n g) k) ≡ mask_of n h
    joined n f g h l e =
        mask_same 64 (λ k. bit (mask_of n f) k || bit (mask_of n g) k) (λ k. ltb k n && h k)
        (λ x lx. ap₂ ◌||◌ (bit-mask_of n f x) (bit-mask_of n g x) ∙ sym (and-or_distrib_left (ltb x n) (f x) (g x)) ∙ ap (λ (b : Bool). ltb x n && b) (sym (e x)))
        ∙ sym (mask_wide n 64 h l)

    -- those who meet the value join those who met one before
    pub met-line : set (met_table P ls) (place_of side a) (mask_of 64 (λ k. bit (get_or (met_table P ls) (place_of side a) 0) k || bit (mask_of (P.side (side_by side)).count (meets (P.side (side_by side)) a (v ∷ []))) k)) ≡ met_table P (ls ++ (value (side_by side) kind a v ∷ []))
    unfolding met_table
    met-line =
        table-set 14 (met_for P ls) (met_for P (ls ++ (value (side_by side) kind a v ∷ []))) (place_of side a) _ place-low
        (ap (λ (m : ℕ). mask_of 64 (λ k. bit m k || bit (mask_of (P.side (side_by side)).count (meets (P.side (side_by side)) a (v ∷ []))) k)) (table_get 14 (met_for P ls) (place_of side a) place-low ∙ met-there ls (values_in P ls (side_by side) a) before-there)
        ∙ joined (P.side (side_by side)).count (meets (P.side (side_by side)) a (values_in P ls (side_by side) a)) (meets (P.side (side_by side)) a (v ∷ [])) (meets (P.side (side_by side)) a (values_in P ls (side_by side) a ++ (v ∷ []))) many (meets-more (P.side (side_by side)) a (values_in P ls (side_by side) a) v)
        ∙ sym (met-there (ls ++ (value (side_by side) kind a v ∷ [])) (values_in P ls (side_by side) a ++ (v ∷ [])) value_there))
        (λ j hj n. met_of_lem (ls ++ (value (side_by side) kind a v ∷ [])) j (value-elsewhere j hj n))

    -- and the place has values listed
    pub asked-line : mask_of 64 (λ k. bit (asked_places P ls) k || eqb k (place_of side a)) ≡ asked_places P (ls ++ (value (side_by side) kind a v ∷ []))
    unfolding asked_places
    asked-line =
        mask_same 64 (λ k. bit (mask_of 14 (λ i. ltb 0 (length (values_for P ls i)))) k || eqb k (place_of side a)) (λ k. ltb k 14 && ltb 0 (length (values_for P (ls ++ (value (side_by side) kind a v ∷ [])) k))) at
        ∙ sym (mask_wide 14 64 (λ i. ltb 0 (length (values_for P (ls ++ (value (side_by side) kind a v ∷ [])) i))) (omega arith))
      where
        some-there : (vs : List ℕ) → 0 < length (vs ++ (v ∷ []))
        some-there [] = omega arith
        some-there (x ∷ vs) = omega arith

        at : (k : ℕ) → k < 64 → (bit (mask_of 14 (λ i. ltb 0 (length (values_for P ls i)))) k || eqb k (place_of side a)) ≡ (ltb k 14 && ltb 0 (length (values_for P (ls ++ (value (side_by side) kind a v ∷ [])) k)))
        at k l =
            ap (λ (b : Bool). b || eqb k (place_of side a)) (bit-mask_of 14 (λ i. ltb 0 (length (values_for P ls i))) k)
            ∙ test (eqb k (place_of side a))
            (λ e. let d = eqb-true k (place_of side a) e in let low = place-low in
            ap (λ (b : Bool). (ltb k 14 && ltb 0 (length (values_for P ls k))) || b) e ∙ or-true (ltb k 14 && ltb 0 (length (values_for P ls k)))
            ∙ sym (and_in (lt-ltb k 14 (omega arith)) (ap (λ (x : ℕ). ltb 0 (length (values_for P (ls ++ (value (side_by side) kind a v ∷ [])) x))) d ∙ ap (λ vs. ltb 0 (length vs)) value_there ∙ lt-ltb 0 (length (values_in P ls (side_by side) a ++ (v ∷ []))) (some-there (values_in P ls (side_by side) a)))))
            (λ e. ap (λ (b : Bool). (ltb k 14 && ltb 0 (length (values_for P ls k))) || b) e ∙ or-false (ltb k 14 && ltb 0 (length (values_for P ls k)))
            ∙ test (ltb k 14)
            (λ q. ap (λ vs. ltb k 14 && ltb 0 (length vs)) (sym (value-elsewhere k (ltb-true k 14 q) (eqb-false k (place_of side a) e))))
            (λ q. ap (λ (b : Bool). b && ltb 0 (length (values_for P ls k))) q ∙ sym (ap (λ (b : Bool). b && ltb 0 (length (values_for P (ls ++ (value (side_by side) kind a v ∷ [])) k))) q)))

-- ---- atoms and operations

pub atoms-line : (ls : Lines) (a b : ℕ) → a < 6 → b < 6 → mask_of 64 (λ k. bit (atom_places ls) k || eqb k (6 * a + b)) ≡ atom_places (ls ++ (link a b ∷ []))
unfolding atom_places
atoms-line ls a b ha hb =
    mask_same 64 (λ k. bit (mask_of 36 (λ i. any (is_atom i) ls)) k || eqb k (6 * a + b)) (λ k. ltb k 36 && any (is_atom k) (ls ++ (link a b ∷ []))) at
    ∙ sym (mask_wide 36 64 (λ i. any (is_atom i) (ls ++ (link a b ∷ []))) (omega arith))
  where
    at : (k : ℕ) → k < 64 → (bit (mask_of 36 (λ i. any (is_atom i) ls)) k || eqb k (6 * a + b)) ≡ (ltb k 36 && any (is_atom k) (ls ++ (link a b ∷ [])))
    at k l =
        ap (λ (x : Bool). x || eqb k (6 * a + b)) (bit-mask_of 36 (λ i. any (is_atom i) ls) k)
        ∙ test (ltb k 36)
        (λ q. rw q (sym (any_last (is_atom k) ls (link a b))))
        (λ q. rw q (let n = ltb-false k 36 q in ne_eqb k (6 * a + b) (λ z. omega arith)))

pub atoms-kept : (ls : Lines) (c : RuleCommand) → ((i : ℕ) → is_atom i c ≡ false) → atom_places ls ≡ atom_places (ls ++ (c ∷ []))
unfolding atom_places
atoms-kept ls c h = mask_same 36 (λ i. any (is_atom i) ls) (λ i. any (is_atom i) (ls ++ (c ∷ []))) (λ i l. sym (any_last (is_atom i) ls c ∙ ap (λ (b : Bool). any (is_atom i) ls || b) (h i) ∙ or-false (any (is_atom i) ls)))

-- a 26 behind lines that have none
pub operations-line : (ls : Lines) (m : ℕ) → any is_operations ls ≡ false → operations_in (ls ++ (operations m ∷ [])) ≡ m
operations-line [] m e = refl
operations-line (c ∷ ls) m e = other-line c (operations_in (ls ++ (operations m ∷ []))) (fails (is_operations c) (λ h. never (or_l (any is_operations ls) h) e)) ∙ operations-line ls m (fails (any is_operations ls) (λ h. never (or_r (is_operations c) h) e))

pub operations-kept : (ls : Lines) (c : RuleCommand) → ((n : ℕ) → operations_or c n ≡ n) → operations_in (ls ++ (c ∷ [])) ≡ operations_in ls
operations-kept [] c h = h 0
operations-kept (d ∷ ls) c h = ap (operations_or d) (operations-kept ls c h)

-- ---- no lines

met-nobody : (P : Setting) (i : ℕ) → met_for P [] i ≡ 0
unfolding met_for values_for values_in meets
met-nobody P i = mask_none (P.side (place_side i)).count (meets (P.side (place_side i)) (place_attribute i) []) (λ x l. nobody ((P.side (place_side i)).value (place_attribute i) x))
  where
    nobody : (o : Option ℕ) → admits ((P.side (place_side i)).below (place_attribute i)) [] o ≡ false
    nobody none = refl
    nobody (some y) = refl

pub met-none : (P : Setting) → met_table P [] ≡ table_of 14 (λ i. 0)
unfolding met_table
met-none P = table_ext 14 (met_for P []) (λ i. 0) (λ i l. met-nobody P i)

pub asked-none : (P : Setting) → asked_places P [] ≡ 0
unfolding asked_places values_for values_in
asked-none P = mask_none 14 (λ i. ltb 0 (length (values_for P [] i))) (λ i l. refl)

pub atoms-none : atom_places [] ≡ 0
unfolding atom_places
atoms-none = mask_none 36 (λ i. false) (λ i l. refl)
