-- The lines of a rule's parts: role by role, and within a role ascending by operation set.
-- Assumes nothing.
use Prim.Native.Nat.{ℕ, ◌<◌}
use Rattle.std.proofs.Common.{eqb-true, eq-eqb, sym, ap, ◌∙◌, arith}
use Rattle.std.specs.Prelude.{eqb, ltb, List, ◌∷◌, ◌++◌, map, ◌≡◌, refl}
use Rattle.std.proofs.lemmas.Simd.{map-map}
use Rattle.files.proofs.ReadBackLaws.{lines_strict}
use Rattle.files.specs.RuleFile.{RuleCommand, precedes, is_part_line, Lines, cond_lines, operations, part, level}
use Rattle.policy.specs.Covering.{fits, level_of}
use Rattle.policy.proofs.MergeLaws.{Every}
use Rattle.policy.proofs.RuleLaws.{Lawful}
use Rattle.policy.specs.Rules.{Setting, Block, rule_level}
use Rattle.policy.specs.Thinning.{written}
use Rattle.mine_theory.specs.Lines.RuleLines.{rule_lines, of_role, part_lines_of}
use Rattle.mine_theory.proofs.Lines.RuleLinesLaws.{role-first, part-next, lines_sorted}
use Rattle.sets.specs.ListLaws.{each_ext, sort-is, sort-map}
use Rattle.sets.specs.Sorted.{sort}
use Rattle.sets.specs.SortedLaws.{sort_in, sort-out, sort-rising, each-rising, numbers, from-rising}
use Rattle.sets.specs.Tests.{Is, ◌is_in◌, each, up_to}
use Rattle.sets.specs.TestLaws.{keep_in, keep_out, each_in, each-out, up_to_in, map_in, map-out}
use Rattle.mine_theory.specs.Words.Flags.{kept_places}
use Rattle.mine_theory.specs.Words.Words.{Roomy, words_of}

-- lines of parts, each of role k, ascend by operation set
pub role-lines : (cls : ℕ → ℕ) (k : ℕ) (g : List ℕ) → sort precedes (map (λ i. part k (cls i)) g) ≡ map (part k) (sort ltb (map cls g))
role-lines cls k g = ap (sort precedes) (sym (map-map (part k) cls g)) ∙ sort-map ltb numbers precedes lines_strict (part k) (part-next k) (map cls g)

module _ (role cls : ℕ → ℕ) (g : List ℕ) where
  -- the line of a part
  abbrev part_line : ℕ → RuleCommand
  part_line i = part (role i) (cls i)

  -- lines of parts are lines 28
  pub part_lines_only : Every (λ c. Is (is_part_line c)) (map (λ i. part (role i) (cls i)) g)
  part_lines_only c m = ap is_part_line (map-out part_line g m).2

  -- the lines of the roles one after the other
  pub part_lines_roles : Every (λ i. role i < 32) g → part_lines_of role cls g ≡ each (λ k. sort precedes (map (λ i. part k (cls i)) (of_role role g k))) (up_to 32)
  unfolding part_lines_of
  part_lines_roles low =
      sort-is precedes lines_strict (map part_line g)
      (each-rising role_lines (λ k. sort-rising precedes lines_strict.chain (map (λ i. part k (cls i)) (of_role role g k)))
      (λ j k mj mk h c d mc md. let s = role-out j mc in let t = role-out k md in rw (s.2, t.2) (role-first j k (cls s.0) (cls t.0) h))
      (from-rising 0 32))
      (λ c m. there c (map-out part_line g m))
      (λ c m. let t = each-out role_lines (up_to 32) m in back c t.0 (role-out t.0 t.2))
    where
      role_lines : ℕ → Lines
      role_lines k = sort precedes (map (λ i. part k (cls i)) (of_role role g k))

      role-out : (k : ℕ) {c : RuleCommand} → c is_in sort precedes (map (λ i. part k (cls i)) (of_role role g k)) → (i : ℕ) × (i is_in of_role role g k) × (c ≡ part k (cls i))
      role-out k m = map-out (λ i. part k (cls i)) (of_role role g k) (sort-out precedes (map (λ i. part k (cls i)) (of_role role g k)) m)

      there : (c : RuleCommand) → (i : ℕ) × (i is_in g) × (c ≡ part_line i) → c is_in each (λ k. sort precedes (map (λ i. part k (cls i)) (of_role role g k))) (up_to 32)
      there c t =
          let l = low t.0 t.1 in
          rw t.2
          (each_in (λ k. sort precedes (map (λ i. part k (cls i)) (of_role role g k))) (up_to_in {n = 32} {i = role t.0} (omega arith))
          (sort_in precedes lines_strict (map_in (λ i. part (role t.0) (cls i)) (keep_in (λ i. eqb (role i) (role t.0)) t.1 (eq-eqb (role t.0) (role t.0) refl)))))

      back : (c : RuleCommand) (k : ℕ) → (i : ℕ) × (i is_in of_role role g k) × (c ≡ part k (cls i)) → c is_in map part_line g
      back c k t =
          let s = keep_out (λ i. eqb (role i) k) g t.1 in
          rw (t.2 ∙ ap (λ (n : ℕ). part n (cls t.0)) (sym (eqb-true (role t.0) k s.1))) (map_in part_line s.0)

  -- and by operation set within each
  pub part_lines_sorted : Every (λ i. role i < 32) g → part_lines_of role cls g ≡ each (λ k. map (part k) (sort ltb (map cls (of_role role g k)))) (up_to 32)
  part_lines_sorted low = part_lines_roles low ∙ each_ext (λ k. sort precedes (map (λ i. part k (cls i)) (of_role role g k))) (λ k. map (part k) (sort ltb (map cls (of_role role g k)))) (up_to 32) (λ k m. role-lines cls k (of_role role g k))

-- the lines of a written rule and of a list of parts, sorted
pub parts_sorted : (P : Setting) → Roomy P → Lawful P → (B : Block) → Is (fits P B 3) → (role cls : ℕ → ℕ) (g : List ℕ)
    → sort precedes (each (cond_lines P) (written P B).conds ++ (operations (written P B).ops ∷ level (rule_level P (written P B)) ∷ map (λ i. part (role i) (cls i)) g))
    ≡ rule_lines P (words_of P B) (kept_places P (words_of P B) (level_of P B)) (level_of P B) (part_lines_of role cls g)
unfolding part_lines_of
parts_sorted P Z L B fit role cls g = lines_sorted P Z L B fit (map (λ i. part (role i) (cls i)) g) (part_lines_only role cls g)
