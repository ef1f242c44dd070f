-- What a written rule is made of: values that somebody has, atoms of the three forms, operations of the policy.
-- Assumes nothing.
use Rattle.std.specs.Prelude.{ℕ, ◌^◌, ◌≤◌, ◌<◌, ltb, length, Bool, false, ◌⊎◌, ◌≡◌}
use borrow.Author.Tests.{ltb-true, ltb-false, lt-ltb}
use mathlib.Core.List.Memᴰ
use mathlib.Core.List.{List, [], map}
use Rattle.std.proofs.Common.{inl, inr, sym, ◌∙◌, arith}
use Rattle.std.proofs.Math.Option.{Option, none, some}
use Rattle.std.proofs.Math.Path.{refl, subst}
use Rattle.policy.proofs.CoverLaws.{op-in, conjuncts-out, atom_conds-out, cover_cases}
use Rattle.policy.specs.Covering.{op_in, stands_in, conjuncts, atom_conds, cover, fits, level_of}
use Rattle.policy.proofs.OrderLaws.{met_says}
use Rattle.policy.proofs.RuleLaws.{Lawful, grants-cond}
use Rattle.policy.specs.Rules.{Which, by, Setting, Form, linked, Cond, Block, both, atom_form, holds, allowed, at, well_formed, of_section, NotEmpty, user, resource, conjunct, atom}
use Rattle.policy.proofs.SideLaws.{values-out}
use Rattle.policy.proofs.StrikeLaws.{strike-within}
use Rattle.policy.proofs.ThinLaws.{at-3, written-exact, written_at}
use Rattle.policy.specs.Thinning.{trim_cond, grants_just, thinned, written}
use Rattle.policy.proofs.TrimLaws.{trim-out}
use Rattle.sets.specs.MaskLaws.{mask_lt}
use Rattle.sets.specs.Sets.{bit, mask_of}
use Rattle.sets.specs.SetLaws.{bit-none, bit_mask}
use Rattle.sets.specs.Tests.{Is, ◌is_in◌, is_some}
use Rattle.sets.specs.TestLaws.{and_in, never, test, all-out, all_in, map-out}

-- ---- masks

pub mask_some : (n : ℕ) (f : ℕ → Bool) (i : ℕ) → i < n → Is (f i) → 0 < mask_of n f
mask_some n f i l h = test (ltb 0 (mask_of n f)) (λ p. ltb-true 0 (mask_of n f) p) (λ p. never (bit_mask n f i l ∙ h) (empty (ltb-false 0 (mask_of n f) p)))
  where
    empty : mask_of n f ≤ 0 → bit (mask_of n f) i ≡ false
    empty z = let e : mask_of n f ≡ 0 = omega arith in rw e (bit-none i)

-- ---- a list with a member

pub member-length {ℓ} : {A : Type ℓ} {l : List A} {x : A} → x is_in l → 0 < length l
member-length (Memᴰ.head e) = omega arith
member-length (Memᴰ.tail m) = omega arith

module _ (P : Setting) where
  -- somebody has the value
  abbrev pub Had : Which → ℕ → ℕ → Type 0
  Had w a v = (x : ℕ) × (x < (P.side w).count) × ((P.side w).value a x ≡ some v)

  -- each listed value is somebody's
  abbrev pub AllHad : Cond → Type 0
  AllHad (conjunct w a vs) = (v : ℕ) → v is_in vs → Had w a v
  AllHad (atom a b) = Unit {0}

  trim-had : (c : Cond) → AllHad c → AllHad (trim_cond P c)
  unfolding trim_cond
  trim-had (conjunct user a vs) h = λ v m. h v (trim-out ((P.side user).below a) vs m)
  trim-had (conjunct resource a vs) h = h
  trim-had (atom a b) h = tt

  cover-had : (B : Block) (l : ℕ) (c : Cond) → c is_in (cover P B l).conds → AllHad c
  cover-had B l c m = go (cover_cases P B l m)
    where
      go : ((w : Which) × (c is_in conjuncts P B l w)) ⊎ (c is_in atom_conds P B) → AllHad c
      go (inl k) = let t = conjuncts-out P B l k.0 k.1 in subst AllHad (sym t.3) (λ v n. let s = values-out (P.side k.0) (stands_in P B k.0) t.0 n in (s.0, s.1, s.3))
      go (inr k) = let t = atom_conds-out P B k in subst AllHad (sym t.5) tt

  -- each value that a written rule lists is somebody's
  pub written-had : (B : Block) (c : Cond) → c is_in (written P B).conds → AllHad c
  unfolding written thinned
  written-had B c m =
      let t = map-out (trim_cond P) (cover P B (level_of P B)).conds (strike-within (grants_just P B (cover P B (level_of P B)).ops) [] (map (trim_cond P) (cover P B (level_of P B)).conds) c m) in
      subst AllHad (sym t.2) (trim-had t.0 (cover-had B (level_of P B) t.0 t.1))

  -- its operations are those in B
  pub written-ops : (B : Block) → (written P B).ops ≡ mask_of P.slots (op_in P B)
  unfolding written thinned cover
  written-ops B = refl

  pub written_ops_lt : (B : Block) → (written P B).ops < 2 ^ P.slots
  written_ops_lt B = rw (written-ops B) (mask_lt P.slots (op_in P B))

  pub written_ops_some : (B : Block) → NotEmpty P B → 0 < (written P B).ops
  written_ops_some B s = rw (written-ops B) (mask_some P.slots (op_in P B) s.o s.triple.op (op-in P B s.triple s.inside))

  -- an atom that holds of somebody has a form
  linked_form : (f : Option Form) (p q : Option ℕ) → Is (both (linked f) p q) → Is (is_some f)
  linked_form none none q h = h
  linked_form none (some x) none h = h
  linked_form none (some x) (some y) h = h
  linked_form (some f) p q h = refl

  -- a condition that holds of somebody is well formed
  pub holds-formed : (c : Cond) (u r : ℕ) → Is (holds P c u r) → Is (well_formed P c)
  unfolding holds well_formed
  holds-formed (conjunct w a vs) u r h = lt-ltb 0 (length vs) (member-length (met_says (P.side w) a vs (by w u r) h).1)
  holds-formed (atom a b) u r h = linked_form (atom_form P a b) ((P.side user).value a u) ((P.side resource).value b r) h

  module _ (L : Lawful P) (B : Block) (fit : Is (fits P B (level_of P B))) where
    -- all of a written rule's conditions are of this section
    pub written-allowed : (c : Cond) → c is_in (written P B).conds → Is (allowed P 3 c)
    unfolding at
    written-allowed c m = all-out (allowed P 3) (at-3 P (level_of P B) (written P B) (written_at P L B fit)) m

    pub written-formed : NotEmpty P B → (c : Cond) → c is_in (written P B).conds → Is (well_formed P c)
    written-formed s c m = holds-formed c s.u s.r (grants-cond P (written P B) s.u s.r s.o (written-exact P L B fit s.u s.r s.o s.triple ∙ s.inside) m)

    -- a written rule is a rule of 01's section
    pub written_of_section : NotEmpty P B → Is (of_section P (written P B))
    unfolding of_section
    written_of_section s =
        and_in (at-3 P (level_of P B) (written P B) (written_at P L B fit))
        (all_in (well_formed P) (written P B).conds (written-formed s))
