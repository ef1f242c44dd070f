-- A rule's level is that of its values and atoms, which stand before its 29; and the lines of a rule that is read tell it, once.
-- Assumes nothing.
use Prim.Native.Nat.{ℕ, ◌≤◌}
use Rattle.std.proofs.Common.{eqb-true, inl, inr, sym, ◌∙◌}
use Rattle.std.proofs.lemmas.Bool.{not-true, false≢true}
use Rattle.std.specs.Prelude.{ltb, length, Bool, true, ◌&&◌, ◌⊎◌, ◌≡◌, refl}
use Rattle.std.proofs.Math.Bool.{false}
use mathlib.Core.List.Memᴰ
use mathlib.Core.List.{List, [], ◌∷◌, ◌++◌, append-nil}
use Rattle.std.proofs.Math.Path.{ap, ap₂, fun_ext}
use Rattle.files.specs.Beside.{Beside}
use Rattle.files.specs.RuleFile.{RuleCommand, if_level, precedes, is_operations, is_part_line, is_level, Lines, listed, link_of, levels_in, values_in, conjuncts_in, rule_in, whole, no_second, follows, levelled, reshapes, opens, value, operations, link, part, level, ends}
use Rattle.policy.specs.Rules.{Which, Setting, Cond, Rule, attrs_of, allowed, at, rule_level, user, resource, conjunct}
use Rattle.sets.specs.ListLaws.{each_none, each_append, each_last}
use Rattle.sets.specs.Lowest.{lowest}
use Rattle.sets.specs.LowestLaws.{lowest-most}
use Rattle.sets.specs.Tests.{Is, ◌is_in◌, all, any, each, only}
use Rattle.sets.specs.TestLaws.{and_l, and_r, never, all-out, any_in, any_out, each_in, each-out, only_out}

-- a line that lists a value or an atom
abbrev pub is_condition : RuleCommand → Bool
is_condition reshapes = false
is_condition opens = false
is_condition (value w set a v) = true
is_condition (operations m) = false
is_condition (link a b) = true
is_condition (part k m) = false
is_condition (level l) = false
is_condition ends = false

-- no such line stands behind a 29
pub not_behind : (l : ℕ) (c : RuleCommand) → (c ≡ level l) ⊎ Is (precedes (level l) c) → is_condition c ≡ false
not_behind l c (inl e) = ap is_condition e
not_behind l reshapes (inr h) = refl
not_behind l opens (inr h) = refl
not_behind l (value user false a v) (inr h) = absurd (false≢true h)
not_behind l (value user true a v) (inr h) = absurd (false≢true h)
not_behind l (value resource false a v) (inr h) = absurd (false≢true h)
not_behind l (value resource true a v) (inr h) = absurd (false≢true h)
not_behind l (operations m) (inr h) = refl
not_behind l (link a b) (inr h) = absurd (false≢true h)
not_behind l (part k m) (inr h) = refl
not_behind l (level k) (inr h) = refl
not_behind l ends (inr h) = refl

none-listed : (w : Which) (set : Bool) (a : ℕ) (c : RuleCommand) → is_condition c ≡ false → listed w set a c ≡ []
none-listed w set a reshapes h = refl
none-listed w set a opens h = refl
none-listed w set a (value x s b v) h = absurd (false≢true (sym h))
none-listed w set a (operations m) h = refl
none-listed w set a (link x b) h = refl
none-listed w set a (part k m) h = refl
none-listed w set a (level l) h = refl
none-listed w set a ends h = refl

none-linked : (c : RuleCommand) → is_condition c ≡ false → link_of c ≡ []
none-linked reshapes h = refl
none-linked opens h = refl
none-linked (value x s b v) h = refl
none-linked (operations m) h = refl
none-linked (link x b) h = absurd (false≢true (sym h))
none-linked (part k m) h = refl
none-linked (level l) h = refl
none-linked ends h = refl

-- what each of some lines gives, and the lines behind them nothing
each-front : {A C : Type 0} (f : A → List C) (s t : List A) → ((a : A) → a is_in t → f a ≡ []) → each f (s ++ t) ≡ each f s
each-front f s t h = each_append f s t ∙ ap (λ (l : List _). each f s ++ l) (each_none f t h) ∙ append-nil (each f s)

-- there are four levels
pub level-most : (P : Setting) (ρ : Rule) → rule_level P ρ ≤ 3
unfolding rule_level
level-most P ρ = lowest-most (λ l. at P l ρ)

module _ (P : Setting) where
  module _ (pre ls : Lines) (none : (c : RuleCommand) → c is_in ls → is_condition c ≡ false) where
    values-kept : values_in P (pre ++ ls) ≡ values_in P pre
    unfolding values_in
    values-kept = fun_ext λ w. fun_ext λ a. each-front (listed w ((P.side w).is_set a) a) pre ls (λ c m. none-listed w ((P.side w).is_set a) a c (none c m))

    conjuncts-kept : (w : Which) → conjuncts_in P (pre ++ ls) w ≡ conjuncts_in P pre w
    unfolding conjuncts_in
    conjuncts-kept w = ap (λ (f : Which → ℕ → List ℕ). each (λ a. only (ltb 0 (length (f w a))) (conjunct w a (f w a))) (attrs_of (P.side w) true)) values-kept

    conds-kept : (rule_in P (pre ++ ls)).conds ≡ (rule_in P pre).conds
    unfolding rule_in
    conds-kept =
        ap₂ (λ (s t : List Cond). s ++ t) (ap₂ (λ (s t : List Cond). s ++ t) (conjuncts-kept user) (conjuncts-kept resource))
        (each-front link_of pre ls (λ c m. none-linked c (none c m)))

    -- THE LAW: lines that list neither values nor atoms leave a rule its level
    pub level-kept : rule_level P (rule_in P (pre ++ ls)) ≡ rule_level P (rule_in P pre)
    unfolding rule_level at
    level-kept = ap (λ (cs : List Cond). lowest (λ l. all (allowed P l) cs)) conds-kept

-- ---- what the lines of a rule tell

-- the level that a line tells
abbrev pub told_by : RuleCommand → List ℕ
told_by = if_level (λ l. l ∷ []) []

-- a line tells none, or is a 29
pub level_or : (c : RuleCommand) → ((is_level c ≡ false) × (told_by c ≡ [])) ⊎ ((l : ℕ) × (c ≡ level l))
level_or reshapes = inl (refl, refl)
level_or opens = inl (refl, refl)
level_or (value w set a v) = inl (refl, refl)
level_or (operations m) = inl (refl, refl)
level_or (link a b) = inl (refl, refl)
level_or (part k m) = inl (refl, refl)
level_or (level l) = inr (l, refl)
level_or ends = inl (refl, refl)

-- behind lines that a 29 may follow, they tell no level yet
pub untold : (ls : Lines) (l : ℕ) → Is (follows ls (level l)) → levels_in ls ≡ []
unfolding follows
untold ls l h = each_none told_by ls λ c m. go c m (level_or c)
  where
    first : any is_level ls ≡ false
    first = not-true (any is_level ls) (and_r (no_second is_operations ls (level l)) (no_second is_level ls (level l)) (and_r (all (λ d. precedes d (level l)) ls) (no_second is_operations ls (level l) && no_second is_level ls (level l)) h))

    go : (c : RuleCommand) → c is_in ls → ((is_level c ≡ false) × (told_by c ≡ [])) ⊎ ((l : ℕ) × (c ≡ level l)) → told_by c ≡ []
    go c m (inl e) = e.1
    go c m (inr t) = never (any_in is_level m (ap is_level t.1)) first

-- a line that is no 29 leaves what is told
pub told-kept : (ls : Lines) (c : RuleCommand) → told_by c ≡ [] → levels_in (ls ++ (c ∷ [])) ≡ levels_in ls
told-kept ls c e = each_last told_by ls c ∙ ap (λ (k : List ℕ). levels_in ls ++ k) e ∙ append-nil (levels_in ls)

-- and a 29 tells the first
pub told-first : (ls : Lines) (l : ℕ) → Is (follows ls (level l)) → levels_in (ls ++ (level l ∷ [])) ≡ l ∷ []
told-first ls l h = each_last told_by ls (level l) ∙ ap (λ (k : List ℕ). k ++ (l ∷ [])) (untold ls l h)

module _ (B : Beside) where
  abbrev P : Setting
  P = B.setting

  -- the lines of an open rule tell nothing of its level, or what it is, once
  abbrev pub Tells : Lines → Type 0
  Tells ls = (levels_in ls ≡ []) ⊎ (levels_in ls ≡ rule_level P (rule_in P ls) ∷ [])

  -- with each line that is added they still do
  pub tells_more : (ls : Lines) (c : RuleCommand) → Is (follows ls c) → Is (levelled B ls c) → Tells ls → Tells (ls ++ (c ∷ []))
  unfolding follows levelled
  tells_more ls c f v t = go c f v t (level_or c)
    where
      -- a line behind a 29
      behind : (c : RuleCommand) → Is (follows ls c) → levels_in ls ≡ rule_level P (rule_in P ls) ∷ [] → is_condition c ≡ false
      behind c f e =
          let m : rule_level P (rule_in P ls) is_in levels_in ls = rw e (Memᴰ.head refl) in
          let s = each-out told_by ls m in
          by-29 s.0 s.1 s.2 (level_or s.0)
        where
          by-29 : (d : RuleCommand) → d is_in ls → rule_level P (rule_in P ls) is_in told_by d → ((is_level d ≡ false) × (told_by d ≡ [])) ⊎ ((l : ℕ) × (d ≡ level l)) → is_condition c ≡ false
          by-29 d m k (inl q) = absurd (Memᴰ.not-nil (rw q.1 at k))
          by-29 d m k (inr q) = not_behind q.0 c (inr (rw q.1 at (all-out (λ d. precedes d c) (and_l (all (λ d. precedes d c) ls) (no_second is_operations ls c && no_second is_level ls c) f) m)))

      go : (c : RuleCommand) → Is (follows ls c) → Is (levelled B ls c) → Tells ls → ((is_level c ≡ false) × (told_by c ≡ [])) ⊎ ((l : ℕ) × (c ≡ level l)) → Tells (ls ++ (c ∷ []))
      go c f v (inl t) (inl q) = inl (told-kept ls c q.1 ∙ t)
      go c f v (inr t) (inl q) =
          inr (told-kept ls c q.1 ∙ t ∙ ap (λ (l : ℕ). l ∷ []) (sym (level-kept P ls (c ∷ []) (λ d m. ap is_condition (only_out true m).1 ∙ behind c f t))))
      go c f v t (inr q) = right q.0 (rw q.1 at f) (rw q.1 at v) q.1
        where
          right : (l : ℕ) → Is (follows ls (level l)) → Is (levelled B ls (level l)) → c ≡ level l → Tells (ls ++ (c ∷ []))
          right l f v e =
              let k : l ≡ rule_level P (rule_in P ls) = eqb-true l (rule_level P (rule_in P ls)) v in
              let n = level-kept P ls (level l ∷ []) (λ d m. ap is_condition (only_out true m).1) in
              rw e (inr (told-first ls l f ∙ ap (λ (x : ℕ). x ∷ []) (k ∙ sym n)))

  -- and those of a rule that may be closed tell it
  pub tells-whole : (ls : Lines) → Is (whole ls) → Tells ls → levels_in ls ≡ rule_level P (rule_in P ls) ∷ []
  unfolding whole
  tells-whole ls h (inr e) = e
  tells-whole ls h (inl e) = absurd (none_told (any_out is_level ls (and_r (any is_part_line ls) (any is_level ls) (and_r (any is_operations ls) (any is_part_line ls && any is_level ls) h))))
    where
      told : (c : RuleCommand) → c is_in ls → Is (is_level c) → ((is_level c ≡ false) × (told_by c ≡ [])) ⊎ ((l : ℕ) × (c ≡ level l)) → ⊥
      told c m k (inl q) = never k q.0
      told c m k (inr q) =
          let i : level q.0 is_in ls = rw q.1 at m in
          let j : q.0 is_in levels_in ls = each_in told_by i (Memᴰ.head refl) in
          Memᴰ.not-nil (rw e at j)

      none_told : ((c : RuleCommand) × (c is_in ls) × Is (is_level c)) → ⊥
      none_told t = told t.0 t.1 t.2 (level_or t.0)
