-- The level read off the lines is that of the rule that they say.
-- Assumes nothing.
use Rattle.std.specs.Prelude.{ℕ, ltb, length, ◌||◌, not, List, ◌++◌, ◌⊎◌, ◌≡◌, refl}
use Rattle.std.proofs.lemmas.Bool.{not-true}
use Rattle.std.proofs.Math.Bool.{true, ◌&&◌, and-true}
use mathlib.Core.List.Memᴰ
use Rattle.std.proofs.Common.{inl, inr, ◌∙◌, arith}
use Rattle.std.proofs.Math.Path.{sym, ap, ap₂, subst, fun_ext}
use Rattle.files.specs.Beside.{Beside}
use Rattle.files.specs.RuleFile.{RuleCommand, Lines, link_of, values_in, conjuncts_in, rule_in, legal, reshapes, opens, value, operations, link, part, level, ends}
use Rattle.rule_levels.specs.Levels.{level_for}
use Rattle.policy.proofs.OrderLaws.{Numbered}
use Rattle.policy.specs.Rules.{own, own_at, Which, Setting, Cond, attrs_of, allowed, at, rule_level, atom_form, user, resource, conjunct}
use Rattle.sets.specs.ListLaws.{all_append}
use Rattle.sets.specs.Lowest.{lowest}
use Rattle.sets.specs.Tests.{Is, ◌is_in◌, all, each, only, up_to, elem, is_some}
use Rattle.sets.specs.TestLaws.{and_in, and_l, and_r, or_l, or_r, or_out, never, test, same, not_in, all_in, all-out, each_in, each-out, only_in, only_out, up_to-out, elem_in, elem_out}
use Rattle.rule_levels.specs.Levels.{lists_own, lines_level}

module _ (P : Setting) (N : (w : Which) → Numbered (P.side w)) where
  module _ (l : ℕ) (ls : Lines) (w : Which) where
    abbrev mine : ℕ → List Cond
    mine a = only (ltb 0 (length (values_in P ls w a))) (conjunct w a (values_in P ls w a))

    -- the 255 is there, and so the level has it
    own-needed : Is (all (allowed P l) (conjuncts_in P ls w)) → Is (lists_own P ls w) → Is (own_at w l)
    unfolding conjuncts_in lists_own allowed attrs_of
    own-needed h u =
        let there : conjunct w own (values_in P ls w own) is_in each mine (up_to (P.side w).attrs ++ only true own) = each_in mine (Memᴰ.append_right (up_to (P.side w).attrs) (only_in {b = true} own refl)) (only_in (conjunct w own (values_in P ls w own)) u) in
        go (Memᴰ.append_cases (up_to (P.side w).attrs) (elem_out own (up_to (P.side w).attrs ++ only (own_at w l) own) (all-out (allowed P l) h there)))
      where
        go : (own is_in up_to (P.side w).attrs) ⊎ (own is_in only (own_at w l) own) → Is (own_at w l)
        go (inl m) = let n = N w in let k = up_to-out (P.side w).attrs m in absurd (omega arith)
        go (inr m) = (only_out (own_at w l) m).0

    -- a level that has the 255 where it is there allows all conjuncts
    own-enough : (Is (lists_own P ls w) → Is (own_at w l)) → Is (all (allowed P l) (conjuncts_in P ls w))
    unfolding conjuncts_in lists_own allowed attrs_of
    own-enough h = all_in (allowed P l) (conjuncts_in P ls w) λ c m.
        let t = each-out mine (attrs_of (P.side w) true) m in
        let o = only_out (ltb 0 (length (values_in P ls w t.0))) t.2 in
        subst (λ (d : Cond). Is (allowed P l d)) (sym o.1) (go t.0 o.0 (Memᴰ.append_cases (up_to (P.side w).attrs) t.1))
      where
        go : (a : ℕ) → Is (ltb 0 (length (values_in P ls w a))) → (a is_in up_to (P.side w).attrs) ⊎ (a is_in only true own) → Is (elem a (up_to (P.side w).attrs ++ only (own_at w l) own))
        go a p (inl m) = elem_in (Memᴰ.append_left (only (own_at w l) own) m)
        go a p (inr m) =
            let e = (only_out true m).1 in
            subst (λ (x : ℕ). Is (elem x (up_to (P.side w).attrs ++ only (own_at w l) own))) (sym e)
            (elem_in (Memᴰ.append_right (up_to (P.side w).attrs) (only_in own (h (subst (λ (x : ℕ). Is (ltb 0 (length (values_in P ls w x)))) e p)))))

    side-allowed : all (allowed P l) (conjuncts_in P ls w) ≡ (not (lists_own P ls w) || own_at w l)
    side-allowed = same (all (allowed P l) (conjuncts_in P ls w)) (not (lists_own P ls w) || own_at w l)
        (λ h. test (lists_own P ls w) (λ u. or_r (not (lists_own P ls w)) (own-needed h u)) (λ u. or_l (own_at w l) (not_in (lists_own P ls w) u)))
        (λ h. own-enough (λ u. out (or_out (not (lists_own P ls w)) (own_at w l) h) u))
      where
        out : Is (not (lists_own P ls w)) ⊎ Is (own_at w l) → Is (lists_own P ls w) → Is (own_at w l)
        out (inl n) u = never u (not-true (lists_own P ls w) n)
        out (inr k) u = k

module _ (B : Beside) (N : (w : Which) → Numbered (B.setting.side w)) where
  abbrev P : Setting
  P = B.setting

  -- the atoms of legal lines are of every level
  link-allowed : (l : ℕ) (c : RuleCommand) → Is (legal B c) → {d : Cond} → d is_in link_of c → Is (allowed P l d)
  unfolding legal allowed
  link-allowed l (link a b) h m =
      let e = (only_out true m).1 in
      subst (λ (x : Cond). Is (allowed P l x)) (sym e)
      (and_in (and_l (ltb a (P.side user).attrs) (ltb b (P.side resource).attrs && is_some (atom_form P a b)) h) (and_l (ltb b (P.side resource).attrs) (is_some (atom_form P a b)) (and_r (ltb a (P.side user).attrs) (ltb b (P.side resource).attrs && is_some (atom_form P a b)) h)))
  link-allowed l reshapes h m = absurd (Memᴰ.not-nil m)
  link-allowed l opens h m = absurd (Memᴰ.not-nil m)
  link-allowed l (value w x a v) h m = absurd (Memᴰ.not-nil m)
  link-allowed l (operations n) h m = absurd (Memᴰ.not-nil m)
  link-allowed l (part k n) h m = absurd (Memᴰ.not-nil m)
  link-allowed l (level x) h m = absurd (Memᴰ.not-nil m)
  link-allowed l ends h m = absurd (Memᴰ.not-nil m)

  -- THE LAW: of lines that may stand in a rule file
  pub lines-level : (ls : Lines) → ((c : RuleCommand) → c is_in ls → Is (legal B c)) → lines_level P ls ≡ rule_level P (rule_in P ls)
  unfolding lines_level level_for rule_level at rule_in
  lines-level ls h = ap lowest (fun_ext λ l. sym
      (all_append (allowed P l) (conjuncts_in P ls user ++ conjuncts_in P ls resource) (each link_of ls)
      ∙ ap₂ ◌&&◌ (all_append (allowed P l) (conjuncts_in P ls user) (conjuncts_in P ls resource) ∙ ap₂ ◌&&◌ (side-allowed P N l ls user) (side-allowed P N l ls resource)) (links l)
      ∙ and-true ((not (lists_own P ls user) || own_at user l) && (not (lists_own P ls resource) || own_at resource l))))
    where
      links : (l : ℕ) → Is (all (allowed P l) (each link_of ls))
      links l = all_in (allowed P l) (each link_of ls) λ d m. let t = each-out link_of ls m in link-allowed l t.0 (h t.0 t.1) t.2
